-- Two lists of moves are compared move by move.
use Rattle.std.proofs.Common.{◌≡◌, ℕ, zero, suc, ◌+◌, ◌<◌, List, [], ◌∷◌, length, drop, get_or, Bool, true, false, ◌&&◌}
use Rattle.std.proofs.Common.{refl, ap, arith}
use Rattle.club_rules.specs.GameRules.{GameRules}
use Rattle.club_rules.proofs.Proved.{drop-at}
use Rattle.club_core.specs.Imports.{same_moves}

module _ {P M E T : Type 0} (rules : GameRules P M E T) where
  -- the moves from a place on are one where the first of them are, and the rest
  pub same-at : (ms ns : List M) (k : ℕ) (m n : M) → k < length ms → k < length ns → m ≡ get_or ms k m
      → n ≡ get_or ns k n → same_moves rules (drop k ms) (drop k ns)
      ≡ (rules.same m n && same_moves rules (drop (k + 1) ms) (drop (k + 1) ns))
  same-at ms ns k m n within also_within m_is n_is =
      λ i. same_moves rules (drop-at ms k m within m_is i) (drop-at ns k n also_within n_is i)

  -- lists of two lengths differ
  pub lengths-differ : (ms ns : List M) → (length ms ≡ length ns → ⊥) → same_moves rules ms ns ≡ false
  lengths-differ [] [] differ = absurd (differ refl)
  lengths-differ [] (n ∷ ns) differ = refl
  lengths-differ (m ∷ ms) [] differ = refl
  lengths-differ (m ∷ ms) (n ∷ ns) differ =
      and-false (rules.same m n) (lengths-differ ms ns (λ same. differ (ap suc same)))
    where
      and-false : (b : Bool) {c : Bool} → c ≡ false → (b && c) ≡ false
      and-false true is = is
      and-false false is = refl

  pub none-left : (ms ns : List M) (k : ℕ) → length ms ≡ length ns → k ≡ length ms
      → same_moves rules (drop k ms) (drop k ns) ≡ true
  none-left [] [] k same is = empty k
    where
      empty : (k : ℕ) → same_moves rules (drop k []) (drop k []) ≡ true
      empty zero = refl
      empty (suc k) = refl
  none-left [] (n ∷ ns) k same is = cc
  none-left (m ∷ ms) [] k same is = cc
  none-left (m ∷ ms) (n ∷ ns) zero same is = cc
  none-left (m ∷ ms) (n ∷ ns) (suc k) same is = none-left ms ns k (omega (arith, same)) (omega (arith, is))
