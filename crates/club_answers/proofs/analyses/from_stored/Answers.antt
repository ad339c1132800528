use Rattle.std.proofs.Common.{map, string_bytes}
use Rattle.std.proofs.lemmas.Result.{IfOk-weaker}
use Rattle.club_rows.proofs.Proved.{in_draughts, in_shogi}
use Rattle.club_rows.specs.Club.{tables}
use Rattle.club_answers.proofs.AnalysisLemmas.{tried_in_draughts, tried_in_shogi}
use Rattle.club_answers.proofs.ViewedLemmas.{told_as}
use Rattle.club_answers.proofs.analyses.from_stored.Goals as goal

pub returns-in-Draughts-by_kind-clause-answered : goal.returns-in-Draughts-by_kind-clause-answered
returns-in-Draughts-by_kind-clause-answered g c clean =
    IfOk-weaker c.by_kind-from_game.result _ _ (λ tried told s id game is_club at is k.
    let (gm, same, _, _, _, line, _, of) =
    told_as in_draughts s is_club id game c.args.stored.now at is c.in-Draughts-by_kind.is in
    tried_in_draughts c.args.stored.now.kind game gm c.args.ply (map (λ t. string_bytes t) c.args.moves.now) tried same
    c.in-Draughts-by_kind.is (told (tables s) gm k line of)) (c.by_kind-from_game.ensures.answered clean)

pub returns-in-Shogi-by_kind-clause-answered : goal.returns-in-Shogi-by_kind-clause-answered
returns-in-Shogi-by_kind-clause-answered g c clean =
    IfOk-weaker c.by_kind-from_game-2.result _ _ (λ tried told s id game is_club at is k.
    let (gm, same, _, _, _, line, _, of) =
    told_as in_shogi s is_club id game c.args.stored.now at is c.in-Shogi-by_kind.is in
    tried_in_shogi c.args.stored.now.kind game gm c.args.ply (map (λ t. string_bytes t) c.args.moves.now) tried same
    c.in-Shogi-by_kind.is (told (tables s) gm k line of)) (c.by_kind-from_game-2.ensures.answered clean)
