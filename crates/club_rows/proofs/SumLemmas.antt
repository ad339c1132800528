-- Sums of signed numbers of 64 bits, as they are read back from their bits.
use Rattle.std.proofs.Common.{◌≡◌, ℤ, ◌+ℤ◌, FitsSigned, w64, to_z, of_z, ap, sym, subst, ◌∙◌}
use Rattle.std.proofs.lemmas.Int.{to_z-of_z}

module _ (a b : ℤ) (a_fits : FitsSigned w64 a) (b_fits : FitsSigned w64 b) where
  read : to_z w64 (of_z w64 a) +ℤ to_z w64 (of_z w64 b) ≡ a +ℤ b
  read = ap (λ x. x +ℤ to_z w64 (of_z w64 b)) (to_z-of_z w64 a a_fits) ∙ ap (λ y. a +ℤ y) (to_z-of_z w64 b b_fits)

  pub summed : (x : ℤ) → FitsSigned w64 (to_z w64 (of_z w64 a) +ℤ to_z w64 (of_z w64 b))
      × (x ≡ to_z w64 (of_z w64 a) +ℤ to_z w64 (of_z w64 b)) → to_z w64 (of_z w64 x) ≡ a +ℤ b
  summed x fits = to_z-of_z w64 x (subst (FitsSigned w64) (sym fits.1) fits.0) ∙ (fits.1 ∙ read)

  pub unfit : (FitsSigned w64 (to_z w64 (of_z w64 a) +ℤ to_z w64 (of_z w64 b)) → ⊥) → FitsSigned w64 (a +ℤ b) → ⊥
  unfit not fits = not (subst (FitsSigned w64) (sym read) fits)
