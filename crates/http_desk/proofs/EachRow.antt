-- What holds of the rows of a list one after another holds of all of them.
use Rattle.std.proofs.Common.{ℕ, zero, suc, ◌<◌, List, [], ◌∷◌, length, arith}
use Rattle.std.specs.Prelude.{All}

module _ {A : Type 0} where
  abbrev pub Each : (A → Type 0) → List A → Type 0
  Each P [] = Unit {0}
  Each P (row ∷ more) = P row × Each P more

  pub all_from : (P : A → Type 0) (rows : List A) → Each P rows → All P rows
  all_from P [] each k d inside = absurd (omega arith)
  all_from P (row ∷ more) each zero d inside = each.0
  all_from P (row ∷ more) each (suc k) d inside = all_from P more each.1 k d (omega arith)
