-- Standings of the same rows that are both in the order of the places are the same.
use Rattle.std.proofs.Common.{◌≡◌, ◌<◌, ◌≤◌, ℕ, false, List, get_or}
use Rattle.std.proofs.Common.{arith}
use Rattle.std.specs.Cmp.{IsStrictWeakOrder}
use Rattle.std.proofs.lemmas.Grind.{common_steps}
use Rattle.std.proofs.lemmas.List.Sorted.{sorted_far}
use Rattle.cross_tables.specs.declared.sums.OpponentScore.{OpponentScore}
use Rattle.cross_tables.specs.declared.standings.Standing.{Standing}
use Rattle.cross_tables.specs.Totals.{AreTotals, times, totals}
use Rattle.cross_tables.specs.Places.{AreRanked, precedes}
use Rattle.cross_tables.proofs.Adding.{sums-at}
use Rattle.cross_tables.proofs.Ranked.{AreInOrder, alike}

-- the order of the places is one
pub precedes_is_order : IsStrictWeakOrder precedes
precedes_is_order =
    record {
      one_way = λ x y. grind (arith, common_steps);
      chain = λ x y z. grind (arith, common_steps);
    }

ties-member : (x y : Standing) → precedes x y ≡ false → precedes y x ≡ false → x.member ≡ y.member
ties-member x y = grind (arith, common_steps)

module _ (rows : List OpponentScore) (xs : List Standing) (t : AreTotals xs rows) (ranked : AreRanked xs) where
  in-order : AreInOrder (λ s. s.member) (λ m. record { member = m; sums = totals m rows }) precedes ties-member xs
  in-order = record {
    own = λ i d h k. record { member = (get_or xs i d).member; sums = sums-at xs rows t i d h k };
    far = sorted_far precedes precedes_is_order xs ranked;
  }

one-or-none : (n k : ℕ) → n ≤ 1 → k ≤ 1 → (0 < n → 0 < k) → (0 < k → 0 < n) → n ≡ k
one-or-none n k low few to back = grind (arith, to, back)

pub only-one : (xs ys : List Standing) (rows : List OpponentScore) → AreTotals xs rows → AreTotals ys rows → AreRanked xs
    → AreRanked ys → xs ≡ ys
only-one xs ys rows tx ty rx ry =
    alike (λ s. s.member) (λ m. record { member = m; sums = totals m rows }) precedes ties-member xs ys
    (in-order rows xs tx rx) (in-order rows ys ty ry)
    (λ m. one-or-none (times m xs) (times m ys) (tx.once m) (ty.once m) (λ h. ty.listed m (tx.scored m h))
    (λ h. tx.listed m (ty.scored m h)))
