use Rattle.std.proofs.Common.{map, string_bytes}
use Rattle.std.proofs.lemmas.Result.{IfOk-weaker}
use Rattle.store_tables.proofs.Proved.{reads_on}
use Rattle.club_answers.proofs.AnalysisLemmas.{tried_found}
use Rattle.club_answers.proofs.CallLemmas.{between_three}
use Rattle.club_answers.proofs.analyses.in_game.Goals as goal

pub returns-in_ok-rulings-in-Some-clause-reads : goal.returns-in_ok-rulings-in-Some-clause-reads
returns-in_ok-rulings-in-Some-clause-reads g c =
    reads_on c.in_ok-stored.ensures.reads (reads_on c.in_ok-rulings-in-Some.ensures.reads c.from_found.ensures.reads)

pub returns-in_ok-rulings-in-Some-clause-answered : goal.returns-in_ok-rulings-in-Some-clause-answered
returns-in_ok-rulings-in-Some-clause-answered g c clean =
    IfOk-weaker c.from_found.result _ _ (λ tried told s is_club k.
    let (first, one, second, kept) = between_three s c.in_ok-stored.ensures.reads c.in_ok-rulings-in-Some.ensures.reads
    c.from_found.ensures.reads clean k in
    let (game, at, stored) = rw c.in-Some.is at (c.in_ok-stored.ensures.found first s is_club k) in
    tried_found s c.args.asked.now.kind c.args.game c.args.ply (map (λ t. string_bytes t) c.args.asked.now.moves.items)
    tried game at (told s c.args.game game is_club at stored kept)) (c.from_found.ensures.answered clean)
