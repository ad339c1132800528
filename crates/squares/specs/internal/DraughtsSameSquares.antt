-- Equality of sets: `same_squares` holds exactly for equal sets. No promise of the program rests on these definitions.
use Rattle.std.proofs.Common.{◌≡◌, Bool, true, false, ◌&&◌, refl, ap}
use Rattle.std.specs.Cmp.{IsEquivalence, IsPartialEquivalence, partial_equiv_from_equiv, nat_cmp_total, both_ways}
use Rattle.std.specs.FinSet as set
use Rattle.std.specs.FinSet.{nat_cmp-IsAntisymmetric}
use Rattle.squares.specs.DraughtsSets.{Squares, same_squares}

and_true : (a b : Bool) → (a && b) ≡ true → (a ≡ true) × (b ≡ true)
and_true true b e = (refl, e)
and_true false b e = cc

and_swap : (a b : Bool) → (a && b) ≡ (b && a)
and_swap true true = refl
and_swap true false = refl
and_swap false true = refl
and_swap false false = refl

pub same_squares-same : (s t : Squares) → same_squares s t ≡ true → s ≡ t
unfolding same_squares
same_squares-same s t e =
    let w = and_true (set.is_subset s t) (set.is_subset t s) e in
    set.same_set nat_cmp_total nat_cmp-IsAntisymmetric s t
    (λ q. both_ways (set.contains s q) (set.contains t q) (set.is_subset-contains nat_cmp_total s t w.0 q)
    (set.is_subset-contains nat_cmp_total t s w.1 q))

pub same_squares-itself : (s : Squares) → same_squares s s ≡ true
unfolding same_squares
same_squares-itself s = let h = set.contains-is_subset nat_cmp_total s s (λ q e. e) in λ i. h i && h i

same_squares-swap : (s t : Squares) → same_squares s t ≡ same_squares t s
unfolding same_squares
same_squares-swap s t = and_swap (set.is_subset s t) (set.is_subset t s)

pub same_squares-equivalence : IsEquivalence same_squares
same_squares-equivalence =
    record {
      refl = same_squares-itself;
      symm = same_squares-swap;
      congr = λ s t u e. ap (λ v. same_squares v u) (same_squares-same s t e);
    }

pub same_squares-partial : IsPartialEquivalence same_squares
same_squares-partial = partial_equiv_from_equiv same_squares-equivalence
