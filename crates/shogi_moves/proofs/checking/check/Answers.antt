use Rattle.std.proofs.Common.{◌∙◌, ap, ◌≡◌, subst, sym}
use Rattle.std.specs.Prelude.{◌↔◌, IsOk, Err}
use Rattle.shogi_moves.specs.Rules.{Legal, FirstBroken}
use Rattle.shogi_moves.specs.Check.{Answer}
use Rattle.shogi_moves.specs.internal.Computed.{check_of}
use Rattle.shogi_moves.proofs.CheckLemmas.{check_of-legal, check_of-refused}
use Rattle.shogi_moves.proofs.checking.check.Goals as goal

pub returns-clause-legal : goal.returns-clause-legal
returns-clause-legal c =
    let p = c.args.position.now in
    let m = c.args.played.now in
    subst (λ (a : Answer). IsOk a ↔ Legal p m)
    (sym (c.check_layout.ensures ∙ ap (λ q. check_of q m) c.from_position.ensures.value)) (check_of-legal p m)

pub returns-clause-refused : goal.returns-clause-refused
returns-clause-refused c rule =
    let p = c.args.position.now in
    let m = c.args.played.now in
    subst (λ (a : Answer). (a ≡ Err rule) ↔ FirstBroken p m rule)
    (sym (c.check_layout.ensures ∙ ap (λ q. check_of q m) c.from_position.ensures.value)) (check_of-refused p m rule)
