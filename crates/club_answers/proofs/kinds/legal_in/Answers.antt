use Rattle.std.proofs.lemmas.Result.{IfOk-weaker}
use Rattle.club_rows.proofs.Proved.{in_draughts, in_shogi, stores-rows}
use Rattle.club_rows.specs.Club.{tables}
use Rattle.club_answers.proofs.ViewedLemmas.{told_as}
use Rattle.club_answers.proofs.kinds.legal_in.Goals as goal

pub returns-in-Draughts-by_kind-clause-legal : goal.returns-in-Draughts-by_kind-clause-legal
returns-in-Draughts-by_kind-clause-legal g c clean =
    IfOk-weaker c.by_kind-legal.result _ _ (λ texts told s id game is_club at is k.
    let (gm, same, _, seen, _, _, judged, of) =
    told_as in_draughts s is_club id game c.args.stored.now at is c.in-Draughts-by_kind.is in
    rw same (told (tables s) gm (stores-rows s _ k) seen (judged _ k) of)) (c.by_kind-legal.ensures.legal clean)

pub returns-in-Shogi-by_kind-clause-legal : goal.returns-in-Shogi-by_kind-clause-legal
returns-in-Shogi-by_kind-clause-legal g c clean =
    IfOk-weaker c.by_kind-legal-2.result _ _ (λ texts told s id game is_club at is k.
    let (gm, same, _, seen, _, _, judged, of) =
    told_as in_shogi s is_club id game c.args.stored.now at is c.in-Shogi-by_kind.is in
    rw same (told (tables s) gm (stores-rows s _ k) seen (judged _ k) of)) (c.by_kind-legal-2.ensures.legal clean)
