-- When rows have the same number and the same text, or the same two numbers, as their key.
use Rattle.std.proofs.Common.{◌≡◌, ℕ, List, [], ◌∷◌, pos, true, refl, sym, ◌∙◌}
use Rattle.std.specs.Cmp.{tied_itself}
use Rattle.std.proofs.lemmas.Bool.{and_parts, and_from}
use Rattle.std.proofs.lemmas.Map.Lookups.{exact_bytes}
use Rattle.sqlite_value.specs.declared.value.Value.{Value}
use Rattle.sqlite_value.specs.declared.value.Value.TheVariants.{Null, Text}
use Rattle.sqlite_value.specs.Keys.{first_key}
use Rattle.sqlite_value.proofs.OrderLemmas.{value_cmp_total, value_cmp-Text}
use Rattle.sqlite.specs.Collation.TheVariants.{Binary}
use Rattle.sqlite.specs.Order.{Row, column}
use Rattle.sqlite_schema.specs.Rules.{equal}
use Rattle.store_tables.specs.Content.{same_key}
use Rattle.store_tables.proofs.Proved.{equal_cmp, equal_ints, equal_from}
use Rattle.club_rows.specs.Tables.{number}

pub same-numbers : (a b : Row) (m n : ℕ) → column a 0 ≡ number m → column b 0 ≡ number n
    → same_key (0 ∷ 1 ∷ []) a b ≡ true → m ≡ n
unfolding first_key
same-numbers a b m n p q same = let h = rw (p, q) at same in
    let e : pos m ≡ pos n = equal_ints (pos m) (pos n) (and_parts _ _ h).0 in cc

pub same-texts : (a b : Row) (t u : List ℕ) → column a 1 ≡ Text t → column b 1 ≡ Text u
    → same_key (0 ∷ 1 ∷ []) a b ≡ true → t ≡ u
unfolding first_key
same-texts a b t u p q same =
    let h = rw (p, q) at same in
    exact_bytes t u
    (sym (value_cmp-Text t u) ∙ equal_cmp (Text t) (Text u) (and_parts _ _ (and_parts _ _ h).1).0)

pub same-seconds : (a b : Row) (m n : ℕ) → column a 1 ≡ number m → column b 1 ≡ number n
    → same_key (0 ∷ 1 ∷ []) a b ≡ true → m ≡ n
unfolding first_key
same-seconds a b m n p q same =
    let h = rw (p, q) at same in
    let e : pos m ≡ pos n = equal_ints (pos m) (pos n) (and_parts _ _ (and_parts _ _ h).1).0 in cc

-- a value that is there equals itself
pub itself : (v : Value) → ¬ (v ≡ Null) → equal Binary v v ≡ true
itself Null there = absurd (there refl)
itself v there = equal_from v v refl refl (tied_itself value_cmp_total v)

-- rows whose keys have the same values
pub keys-agree : (a b : Row) (v w : Value) → ¬ (v ≡ Null) → ¬ (w ≡ Null) → column a 0 ≡ v → column b 0 ≡ v
    → column a 1 ≡ w → column b 1 ≡ w → same_key (0 ∷ 1 ∷ []) a b ≡ true
unfolding first_key
keys-agree a b v w there here p q r s =
    rw (p, q, r, s) (and_from _ _ (itself v there) (and_from _ _ (itself w here) refl))
