use Rattle.std.proofs.Common.{rules, sym, subst}
use Rattle.std.proofs.lemmas.List.Sorted.{answers_always}
use Rattle.cross_tables.specs.Totals.{AreTotals}
use Rattle.cross_tables.specs.Places.{precedes}
use Rattle.cross_tables.proofs.Alike.{precedes_is_order}
use Rattle.cross_tables.proofs.Adding.{AreTotals-permutation}
use Rattle.cross_tables.proofs.standings.Standings.rank.Goals as goal

pub returns-clause-totals : goal.returns-clause-totals
returns-clause-totals c = λ rows t. AreTotals-permutation _ _ rows c.sort_unstable_by.ensures.permutation
    (subst (λ xs. AreTotals xs rows) (sym c.self.view_is) t)

pub returns-clause-ranked : goal.returns-clause-ranked
returns-clause-ranked c =
    c.sort_unstable_by.ensures.sorted precedes precedes_is_order (answers_always _ _ _ (λ f a r g h. search rules))
