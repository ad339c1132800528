-- The later keys of a member among all rows of `keys`. No promise of the program rests on these definitions.
use Rattle.std.specs.Prelude.{◌≡◌, ◌≢◌, ◌⊎◌, ◌<ℤ◌, ℕ, suc, ℤ, pos, List, [], ◌∷◌, string_bytes}
use Rattle.store_tables.specs.declared.rows.KeyRow.{KeyRow}

-- The rows of this member have these keys in turn, under the numbers that follow n.
abbrev pub AreLater : ℤ → List KeyRow → ℕ → List (List ℕ) → Type 0
AreLater member [] n keys = keys ≡ []
AreLater member (row ∷ rows) n keys =
    ((row.member ≢ member) × AreLater member rows n keys)
    ⊎ ((row.member ≡ member) × (row.number ≡ pos (suc n)) × ((rest : List (List ℕ))
    × (keys ≡ string_bytes row.key ∷ rest) × AreLater member rows (suc n) rest))

-- no row has a greater number
abbrev pub NoneAfter : ℤ → List KeyRow → Type 0
NoneAfter number [] = Unit {0}
NoneAfter number (row ∷ rows) = (¬ (number <ℤ row.number)) × NoneAfter number rows

-- a row has a greater number
abbrev pub SomeAfter : ℤ → List KeyRow → Type 0
SomeAfter number [] = ⊥
SomeAfter number (row ∷ rows) = (number <ℤ row.number) ⊎ SomeAfter number rows
