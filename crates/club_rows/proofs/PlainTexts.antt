-- Texts in ASCII, as those of a club are.
use Rattle.std.proofs.Common.{◌≡◌, ℕ, zero, suc, ◌/◌, ◌%◌, ◌<◌, List, [], ◌∷◌, ◌++◌, Bool, true, false, nat_eq, nat_lt}
use Rattle.std.proofs.Common.{Ok, get_or, refl, arith}
use Rattle.std.specs.Prelude.{IsTrue, decimal}
use Rattle.std.specs.List.{AllByRecursion, list_all}
use Rattle.std.specs.Char.{is_ascii_alphanumeric}
use Rattle.std.specs.Fmt.{digit_glyph, digits_onto, digits}
use Rattle.std.proofs.lemmas.Bool.{and_parts, cond_both}
use Rattle.std.proofs.lemmas.Bool.Decides.{nat_tests}
use Rattle.std.proofs.lemmas.Str.{IsUtf8-from_ascii}
use Rattle.sqlite_value.specs.declared.value.Value.TheVariants.{Text}
use Rattle.club_rules.specs.GameRules.{GameRules}
use Rattle.club_requests.specs.Limits.{is_name, is_name_byte, is_member_key}
use Rattle.store_tables.specs.Cells.{IsText}

abbrev pub Plain : List ℕ → Type 0
Plain = AllByRecursion (λ c. c < 128)

pub all-append : {A : Type 0} (P : A → Type 0) (a b : List A) → AllByRecursion P a → AllByRecursion P b
    → AllByRecursion P (a ++ b)
all-append P [] b one two = two
all-append P (x ∷ a) b one two = (one.0, all-append P a b one.1 two)

pub plain-append : (a b : List ℕ) → Plain a → Plain b → Plain (a ++ b)
plain-append a b one two = all-append (λ c. c < 128) a b one two

plain-at : (bs : List ℕ) → Plain bs → (i : ℕ) → get_or bs i 0 < 128
plain-at [] plain i = omega arith
plain-at (b ∷ bs) plain zero = plain.0
plain-at (b ∷ bs) plain (suc i) = plain-at bs plain.1 i

pub is-text : (bs : List ℕ) → Plain bs → IsText (Text bs)
is-text bs plain = (bs, refl, IsUtf8-from_ascii bs (plain-at bs plain))

pub all-plain : (test : ℕ → Bool) → ((c : ℕ) → test c ≡ true → c < 128) → (bs : List ℕ) → list_all test bs ≡ true
    → Plain bs
all-plain test low [] all = tt
all-plain test low (b ∷ bs) all = let both = and_parts (test b) (list_all test bs) all in
    (low b both.0, all-plain test low bs both.1)

pub name-plain : (bs : List ℕ) → IsTrue (is_name bs) → Plain bs
name-plain bs is = all-plain is_name_byte (λ c low. grind (arith, nat_tests)) bs (and_parts _ _ is).1

pub key-plain : (bs : List ℕ) → IsTrue (is_member_key bs) → Plain bs
key-plain bs is = all-plain is_ascii_alphanumeric (λ c low. grind (arith, nat_tests)) bs (and_parts _ _ is).1

-- a text that is written out
pub written : (bs : List ℕ) → list_all (λ c. nat_lt c 128) bs ≡ true → IsText (Text bs)
written bs all = is-text bs (all-plain (λ c. nat_lt c 128) (λ c low. grind (arith, nat_tests)) bs all)

-- ---- numbers

digit-low : (n : ℕ) → digit_glyph false (n % 10) < 128
digit-low n = cond_both (nat_lt (n % 10) 10) _ _ (λ d. d < 128) (λ e. omega arith) (λ e. omega arith)

digits-plain : (k n : ℕ) (after : List ℕ) → Plain after → Plain (digits_onto k 10 false n after)
digits-plain zero n after plain = plain
digits-plain (suc k) n after plain = cond_both (nat_eq (n / 10) 0) _ _ Plain (λ e. (digit-low n, plain))
    (λ e. digits-plain k (n / 10) (digit_glyph false (n % 10) ∷ after) (digit-low n, plain))

pub decimal-plain : (n : ℕ) → Plain (decimal n)
unfolding digits
decimal-plain n = digits-plain 64 n [] tt

-- ---- games

-- the texts of a game are in ASCII
pub record ArePlain {P M E T : Type 0} (rules : GameRules P M E T) : Type 0 where
  pub move : (p : P) (m : M) → rules.check p m ≡ Ok tt → Plain (rules.write_move p m)
  pub position : (p : P) → Plain (rules.write_position p)
