use Rattle.std.proofs.Common.{refl, sym, ◌∙◌, subst}
use Rattle.pdn.specs.declared.faults.MoveFault.TheVariants as fault
use Rattle.pdn.specs.internal.Choice.{Joins, Parts}
use Rattle.pdn.proofs.ChoiceLemmas.{same_move-same, same_move-itself}
use Rattle.pdn.proofs.reading.joined.Goals as goal

pub returns-then-is_same-clause-ok : goal.returns-then-is_same-clause-ok
returns-then-is_same-clause-ok c =
    subst (λ o. Joins o c.args.played.now c.in-Some.other) (sym c.in-Some.is)
    (same_move-same c.in-Some.other c.args.played.now (sym c.is_same.ensures ∙ c.if-is_same.true), refl)

pub returns-else-is_same-clause-err : goal.returns-else-is_same-clause-err
returns-else-is_same-clause-err c =
    subst (λ o. Parts o c.args.played.now fault.Ambiguous) (sym c.in-Some.is) (
      refl,
      λ same. let found = sym c.is_same.ensures ∙ c.if-is_same.false in
          let itself = same_move-itself c.in-Some.other c.args.played.now same in cc,
    )
