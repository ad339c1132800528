use Rattle.std.proofs.Common.{inl, map, refl, string_bytes}
use Rattle.club_answers.proofs.AnalysisLemmas.{tried_in_game}
use Rattle.club_answers.proofs.analyses.from_game.Goals as goal

pub returns-in_ok-analyse-in-Some-clause-answered : goal.returns-in_ok-analyse-in-Some-clause-answered
returns-in_ok-analyse-in-Some-clause-answered g c clean content game k tells of =
    let found = rw c.in-Some.is at (c.in_ok-line.ensures.moves clean content game k tells of) in
    let start = rw c.in-Some.is at c.in_ok-line.ensures.start in
    tried_in_game g.R.Rules.rules (map (λ t. string_bytes t) c.args.moves.now) c.in-Some.line.start
    c.in-Some.line.moves.items c.in_ok-analyse-in-Some.field-0 c.in_ok-analyse-in-Some.ensures.answered game c.args.ply
    start found.0 found.1

pub returns-in-None-clause-answered : goal.returns-in-None-clause-answered
returns-in-None-clause-answered g c clean content game k tells of =
    inl (rw c.in-None.is at (c.in_ok-line.ensures.moves clean content game k tells of), refl)
