use Rattle.std.proofs.Common.{◌≡◌, ℕ, Bool, true, false, not, nat_eq, refl, sym, ap, ◌∙◌}
use Rattle.std.specs.List.{list_any}
use Rattle.squares.specs.internal.DraughtsMarks.{nat_eq-same}
use Rattle.pdn.specs.internal.Passing.{passes}
use Rattle.pdn.proofs.PassingLemmas.{some_passes-Fits, Fits-some_passes}
use Rattle.pdn.proofs.reading.fits.Goals as goal

same : (m n : ℕ) (b r : Bool) → nat_eq m n ≡ b → r ≡ not b → r ≡ false → m ≡ n
same m n true r e is f = nat_eq-same m n e
same m n false r e is f = cc

pub returns : goal.returns
returns c =
    let p = c.args.position.now in
    let m = c.args.played.now in
    let middle = c.args.middle.now in
    let vs = c.in_ok-found.found.items in
    let is = c.some_passes.ensures ∙ ap (λ rs. list_any (λ v. passes middle v.items) rs) c.as_slice.ensures.value in (
      λ e. some_passes-Fits p m c.args.from middle c.args.to vs c.in_ok-found.ensures.members
          (same m.from c.args.from _ _ refl c.ne.ensures c.if-ne.false)
          (same m.to c.args.to _ _ refl c.ne-2.ensures c.if-ne-2.false) (sym is ∙ e),
      λ f. is ∙ Fits-some_passes p m c.args.from middle c.args.to vs c.in_ok-found.ensures.members f,
    )
