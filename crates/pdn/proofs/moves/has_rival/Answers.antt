use Rattle.std.proofs.Common.{sym, ap, ◌∙◌, subst}
use Rattle.std.specs.Prelude.{IsTrue, ◌↔◌}
use Rattle.std.specs.List.{list_any}
use Rattle.pdn.specs.MoveText.{HasRival, is_like}
use Rattle.pdn.proofs.WritingLemmas.{list_any-rival}
use Rattle.pdn.proofs.moves.has_rival.Goals as goal

pub returns : goal.returns
returns c =
    let p = c.args.position.now in
    let m = c.args.played.now in
    let is = c.has_like.ensures ∙ ap (list_any (is_like m)) c.as_slice.ensures.value in
    subst (λ b. IsTrue b ↔ HasRival p m) (sym is)
    (list_any-rival p m c.in_ok-moves.moves.items c.in_ok-moves.ensures.members)
