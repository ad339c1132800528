use Rattle.std.proofs.Common.{ap, sym, ◌∙◌}
use Rattle.std.proofs.lemmas.Result.{IfOk-weaker}
use Rattle.club_rows.proofs.Proved.{in_draughts, in_shogi, stores-rows}
use Rattle.club_rows.specs.Club.{tables}
use Rattle.club_answers.specs.Boards.{diagram_of}
use Rattle.club_answers.proofs.ViewedLemmas.{told_as}
use Rattle.club_answers.proofs.boards.diagram_in.Goals as goal

pub returns-in-Draughts-by_kind-clause-shown : goal.returns-in-Draughts-by_kind-clause-shown
returns-in-Draughts-by_kind-clause-shown g c clean =
    IfOk-weaker c.by_kind-diagram_by.result _ _ (λ text told s id game is_club at is k.
    let (gm, same, _, seen, _, _, judged, of) =
    told_as in_draughts s is_club id game c.args.stored.now at is c.in-Draughts-by_kind.is in
    told (tables s) gm (stores-rows s _ k) seen (judged _ k) of ∙ sym (ap (diagram_of c.args.letters) same))
    (c.by_kind-diagram_by.ensures.shown clean)

pub returns-in-Shogi-by_kind-clause-shown : goal.returns-in-Shogi-by_kind-clause-shown
returns-in-Shogi-by_kind-clause-shown g c clean =
    IfOk-weaker c.by_kind-diagram_by-2.result _ _ (λ text told s id game is_club at is k.
    let (gm, same, _, seen, _, _, judged, of) =
    told_as in_shogi s is_club id game c.args.stored.now at is c.in-Shogi-by_kind.is in
    told (tables s) gm (stores-rows s _ k) seen (judged _ k) of ∙ sym (ap (diagram_of c.args.letters) same))
    (c.by_kind-diagram_by-2.ensures.shown clean)
