-- SQL's = on keys.
use Rattle.std.proofs.Common.{◌≡◌, ℤ, Bool, true, false, cond, ◌||◌, Ordering, Less, Equal, Greater, refl, sym, ◌∙◌}
use Rattle.std.proofs.Common.{true≢false, Some, is_eq}
use Rattle.std.specs.Cmp.{Equal-is}
use Rattle.std.specs.Ordering.{is_ne}
use Rattle.std.specs.FinMap.{int_cmp-IsAntisymmetric}
use Rattle.sqlite_value.specs.declared.value.Value.{Value}
use Rattle.sqlite_value.specs.declared.value.Value.TheVariants.{Null, Int}
use Rattle.sqlite_value.specs.Order.{value_cmp}
use Rattle.sqlite_value.proofs.OrderLemmas.{value_cmp-Int}
use Rattle.sqlite_sql.specs.Ops.{binary, is_null, is_true, from_truth}
use Rattle.sqlite_schema.specs.Rules.{equal, differ}
use Rattle.sqlite.specs.Collation.TheVariants.{Binary}

abbrev compared : Bool → Bool → Bool
compared null test = is_true (cond null Null (from_truth (Some test)))

compared_parts : (null test : Bool) → compared null test ≡ true → (null ≡ false) × (test ≡ true)
compared_parts true test h = absurd (true≢false (sym h))
compared_parts false true h = (refl, refl)
compared_parts false false h = absurd (true≢false (sym h))

pub tied : (o : Ordering) → is_eq o ≡ true → o ≡ Equal
tied o = (Equal-is o).0

pub equal_cmp : (a b : Value) → equal Binary a b ≡ true → value_cmp a b ≡ Equal
unfolding binary
equal_cmp a b h = tied _ (compared_parts (is_null a || is_null b) (is_eq (value_cmp a b)) h).1

pub equal_from : (a b : Value) → is_null a ≡ false → is_null b ≡ false → value_cmp a b ≡ Equal → equal Binary a b ≡ true
unfolding binary
equal_from a b p q same = rw (p, q, same)

tested : (t : Bool) → compared false t ≡ t
tested true = refl
tested false = refl

not_ne : (o : Ordering) → is_ne o ≡ false → o ≡ Equal
not_ne Less h = absurd (true≢false h)
not_ne Equal h = refl
not_ne Greater h = absurd (true≢false h)

pub int_same : (m n : ℤ) → value_cmp (Int m) (Int n) ≡ Equal → m ≡ n
int_same m n h = int_cmp-IsAntisymmetric m n (sym (value_cmp-Int m n) ∙ h)

pub equal_ints : (m n : ℤ) → equal Binary (Int m) (Int n) ≡ true → m ≡ n
equal_ints m n h = int_same m n (equal_cmp (Int m) (Int n) h)

pub differ_ints : (m n : ℤ) → differ (Int m) (Int n) ≡ false → m ≡ n
unfolding binary
differ_ints m n h = int_same m n (not_ne _ (sym (tested (is_ne (value_cmp (Int m) (Int n)))) ∙ h))
