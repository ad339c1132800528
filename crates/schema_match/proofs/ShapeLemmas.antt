-- How many of a club's tables a schema has.
use Rattle.std.proofs.Common.{◌≡◌, ◌≤◌, ◌<◌, ℕ, zero, suc, true, false, List, [], ◌∷◌, length, take, get_or}
use Rattle.std.proofs.Common.{refl, arith, ◌∙◌}
use Rattle.std.proofs.lemmas.Bool.{and_parts}
use Rattle.std.specs.Prelude.{nat_le}
use Rattle.sqlite_schema.specs.declared.schema.Schema.{Schema}
use Rattle.store_tables.specs.Tables.{made_as}
use Rattle.store_tables.specs.declared.names.Table as of_club
use Rattle.schema_match.specs.Shapes.{has_table, have_tables}

none_in : (n : ℕ) → nat_le 0 n ≡ true
none_in n = grind arith

one_more : (m n : ℕ) → nat_le (suc m) (suc n) ≡ nat_le m n
one_more m n = grind arith

past_none : (m : ℕ) → nat_le (suc m) 0 ≡ false
past_none m = grind arith

-- up to the first that it does not have
pub counted_to : (schema : Schema) (tables : List of_club.Table) (i : ℕ) (t : of_club.Table) → i < length tables
    → have_tables schema (take i tables) ≡ true → has_table schema (made_as (get_or tables i t) 0) ≡ false
    → (n : ℕ) → n ≤ length tables → nat_le n i ≡ have_tables schema (take n tables)
counted_to schema tables i t within all missing zero least = none_in i
counted_to schema [] i t within all missing (suc n) least = absurd (omega (arith, within))
counted_to schema (x ∷ tables) zero t within all missing (suc n) least =
    past_none n ∙ rw missing refl
counted_to schema (x ∷ tables) (suc i) t within all missing (suc n) least =
    let parts = and_parts (has_table schema (made_as x 0)) (have_tables schema (take i tables)) all in
    one_more n i ∙ rw parts.0 (counted_to schema tables i t (omega (arith, within)) parts.1 missing n (omega (arith, least)))

-- to the last
pub counted_all : (schema : Schema) (tables : List of_club.Table) (i : ℕ) → length tables ≤ i
    → have_tables schema (take i tables) ≡ true → (n : ℕ) → n ≤ length tables
    → nat_le n i ≡ have_tables schema (take n tables)
counted_all schema tables i past all zero least = none_in i
counted_all schema [] i past all (suc n) least = absurd (omega (arith, least))
counted_all schema (x ∷ tables) zero past all (suc n) least = absurd (omega (arith, past))
counted_all schema (x ∷ tables) (suc i) past all (suc n) least =
    let parts = and_parts (has_table schema (made_as x 0)) (have_tables schema (take i tables)) all in
    one_more n i ∙ rw parts.0 (counted_all schema tables i (omega (arith, past)) parts.1 n (omega (arith, least)))
