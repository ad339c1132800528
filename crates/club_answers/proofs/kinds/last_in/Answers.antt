use Rattle.std.proofs.lemmas.Result.{IfOk-weaker}
use Rattle.club_rows.proofs.Proved.{in_draughts, in_shogi}
use Rattle.club_rows.specs.Club.{tables}
use Rattle.club_answers.proofs.ViewedLemmas.{told_as}
use Rattle.club_answers.proofs.kinds.last_in.Goals as goal

pub returns-in-Draughts-by_kind-clause-last : goal.returns-in-Draughts-by_kind-clause-last
returns-in-Draughts-by_kind-clause-last g c clean =
    IfOk-weaker c.by_kind-last_move.result _ _ (λ text told s id game is_club at is count k.
    let (gm, same, _, _, finds, _, _, _) =
    told_as in_draughts s is_club id game c.args.stored.now at is c.in-Draughts-by_kind.is in
    rw same (told (tables s) gm (rw same at count) k finds))
    (c.by_kind-last_move.ensures.last clean)

pub returns-in-Shogi-by_kind-clause-last : goal.returns-in-Shogi-by_kind-clause-last
returns-in-Shogi-by_kind-clause-last g c clean =
    IfOk-weaker c.by_kind-last_move-2.result _ _ (λ text told s id game is_club at is count k.
    let (gm, same, _, _, finds, _, _, _) =
    told_as in_shogi s is_club id game c.args.stored.now at is c.in-Shogi-by_kind.is in
    rw same (told (tables s) gm (rw same at count) k finds))
    (c.by_kind-last_move-2.ensures.last clean)
