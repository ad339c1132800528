use Rattle.std.proofs.Common.{List, [], refl, sym, subst, arith}
use Rattle.cross_tables.specs.Totals.{AreTotals}
use Rattle.cross_tables.specs.declared.standings.Standing.{Standing}
use Rattle.cross_tables.proofs.standings.Standings.new.Goals as goal

pub returns-clause-totals : goal.returns-clause-totals
returns-clause-totals c = subst (λ (xs : List Standing). AreTotals xs []) (sym c.new.ensures.items) (record {
  once = λ _. omega arith;
  listed = λ _ h. h;
  scored = λ _ h. h;
  points = λ _. refl;
  wins = λ _. refl;
  draws = λ _. refl;
  losses = λ _. refl;
})
