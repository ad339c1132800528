-- The reading of squares, and of the last square of a range, of which any square is the case from 0.
use Rattle.std.proofs.Common.{◌≡◌, ℕ, ◌+◌, ◌-◌, ◌*◌, ◌/◌, ◌%◌, ◌<◌, ◌≤◌, inl, inr, Bool, true, false, cond, nat_eq}
use Rattle.std.proofs.Common.{nat_lt, nat_le, ◌&&◌, ◌||◌, List, [], ◌∷◌, ◌++◌, length, Option, Some, None, Ok, Err}
use Rattle.std.proofs.Common.{refl, sym, ap, ◌∙◌, subst, arith}
use Rattle.std.proofs.lemmas.Bool.{and_parts, le-leb}
use Rattle.std.proofs.lemmas.Bool.Decides.{nat_tests}
use Rattle.squares.specs.internal.DraughtsGeometry.{OnBoard}
use Rattle.squares.specs.internal.DraughtsMarks.{nat_eq-same, nat_eq_other}
use Rattle.pdn.specs.SquareText.{FrontReading, is_digit, square_text, read_second, read_number, after_zero, read_square}
use Rattle.pdn.specs.internal.Grammar.{IsSquareText}
use Rattle.pdn.specs.FenItems.{read_end_second, can_begin, read_end_number, read_end}
use Rattle.pdn.proofs.StopLemmas.{first, Goes, Halts, Begun, after, halts-after}

abbrev pub good : ℕ → List ℕ → FrontReading
good n rest = Ok (record { square = n; rest = rest })

-- a text at which a number ends
abbrev pub EndsNumber : List ℕ → Type 0
EndsNumber [] = Unit {0}
EndsNumber (c ∷ rest) = is_digit c ≡ false

-- the text of a number of one digit, and of two
pub digit-text : (d : ℕ) → d < 10 → square_text d ≡ (48 + d) ∷ []
digit-text d h = let small : nat_lt d 10 ≡ true = grind (arith, nat_tests) in rw small refl

pub digits-text : (d e : ℕ) → 1 ≤ d → e < 10 → square_text (10 * d + e) ≡ (48 + d) ∷ (48 + e) ∷ []
digits-text d e h k =
    let great : nat_lt (10 * d + e) 10 ≡ false = grind (arith, nat_tests) in
    let tens : (10 * d + e) / 10 ≡ d = omega arith in
    let ones : (10 * d + e) % 10 ≡ e = omega arith in
    rw (great, tens, ones) refl

-- a text that begins with a digit from this one
pub record Starts (least : ℕ) (text : List ℕ) : Type 0 where
  pub first : ℕ
  pub more : List ℕ
  pub split : text ≡ first ∷ more
  pub low : least ≤ first
  pub high : first ≤ 57

number-starts : (n : ℕ) → OnBoard n → Starts 49 (square_text n)
number-starts n on =
    elim (nat_lt n 10) as (λ b. nat_lt n 10 ≡ b
    → Starts 49 (cond b ((48 + n) ∷ []) ((48 + n / 10) ∷ (48 + n % 10) ∷ []))) [
      | true ↦ λ e.
          let small : n < 10 = grind (arith, nat_tests, e) in
          record { first = 48 + n; more = []; split = refl; low = omega (arith, on.0); high = omega arith }
      | false ↦ λ e.
          let great : 10 ≤ n = grind (arith, nat_tests, e) in
          record {
            first = 48 + n / 10;
            more = (48 + n % 10) ∷ [];
            split = refl;
            low = omega arith;
            high =
                omega (arith, on.1);
          }
    ] refl

pub square-starts : (n : ℕ) (text : List ℕ) → IsSquareText n text → Starts 48 text
square-starts n text (on, inl e) = let s = number-starts n on in
    record { first = s.first; more = s.more; split = e ∙ s.split; low = omega (arith, s.low); high = s.high }
square-starts n text (on, inr e) =
    record { first = 48; more = square_text n; split = e; low = omega arith; high = omega arith }

-- the first digit can begin a number from `low`
can_begin-one : (low d : ℕ) → low ≤ d → can_begin low d ≡ true
can_begin-one low d h = ap (λ b. b || (nat_le d 5 && nat_le low (10 * d + 9))) (le-leb low d h)

can_begin-two : (low d : ℕ) → d ≤ 5 → low ≤ 10 * d + 9 → can_begin low d ≡ true
can_begin-two low d h k = elim (nat_le low d) as (λ b. (b || (nat_le d 5 && nat_le low (10 * d + 9))) ≡ true)
    [ true ↦ refl | false ↦ λ i. le-leb d 5 h i && le-leb low (10 * d + 9) k i ]

-- A square is read as the last one of a range from 0.
and-true : (a b : Bool) → b ≡ true → (a && b) ≡ a
and-true true b e = e
and-true false b e = refl

second-end : (d : ℕ) (text : List ℕ) → read_end_second 0 d text ≡ read_second d text
second-end d [] = ap (λ b. cond b (good d []) (Err 1)) (le-leb 0 d (omega arith))
second-end d (c ∷ rest) =
    let n = 10 * d + (c - 48) in
    λ i. cond (is_digit c && and-true (nat_le n 50) (nat_le 0 n) (le-leb 0 n (omega arith)) i) (good n rest)
    (cond (le-leb 0 d (omega arith) i) (good d (c ∷ rest)) (Err 1))

number-end : (text : List ℕ) → read_end_number 0 text ≡ read_number text
number-end [] = refl
number-end (c ∷ rest) =
    λ i. cond
    (and-true (nat_le 49 c && nat_le c 57) (can_begin 0 (c - 48)) (can_begin-one 0 (c - 48) (omega arith)) i)
    (second-end (c - 48) rest i) (Err 0)

pub square-end : (text : List ℕ) → read_end 0 text ≡ read_square text
square-end [] = refl
square-end (c ∷ rest) = λ i. cond (nat_eq c 48) (after_zero (number-end rest i)) (number-end (c ∷ rest) i)

-- whether a number from `low` begins here, and whether its second digit is here
abbrev pub begins : ℕ → Option ℕ → Bool
begins low None = false
begins low (Some f) = (nat_le 49 f && nat_le f 57) && can_begin low (f - 48)

abbrev pub takes : ℕ → ℕ → Option ℕ → Bool
takes low d None = false
takes low d (Some c) = is_digit c && (nat_le (10 * d + (c - 48)) 50 && nat_le low (10 * d + (c - 48)))

begun : (low f : ℕ) (rest : List ℕ) → begins low (Some f) ≡ true
    → read_end_number low (f ∷ rest) ≡ read_end_second low (f - 48) rest
begun low f rest e = ap (λ b. cond b (read_end_second low (f - 48) rest) (Err 0)) e

not_begun : (low : ℕ) (text : List ℕ) → begins low (first text) ≡ false
    → ◌≡◌ {A = FrontReading} (read_end_number low text) (Err 0)
not_begun low [] e = refl
not_begun low (f ∷ rest) e = ap (λ b. cond b (read_end_second low (f - 48) rest) (Err 0)) e

taken : (low d c : ℕ) (rest : List ℕ) → takes low d (Some c) ≡ true
    → ◌≡◌ {A = FrontReading} (read_end_second low d (c ∷ rest)) (good (10 * d + (c - 48)) rest)
taken low d c rest e = ap
    (λ b. cond b (good (10 * d + (c - 48)) rest) (cond (nat_le low d) (good d (c ∷ rest)) (Err 1))) e

left : (low d : ℕ) (text : List ℕ) (b : Bool) → takes low d (first text) ≡ false → nat_le low d ≡ b
    → ◌≡◌ {A = FrontReading} (read_end_second low d text) (cond b (good d text) (Err 1))
left low d [] b e enough = ap (λ b. cond b (good d []) (Err 1)) enough
left low d (c ∷ rest) b e enough = λ i. cond (e i) (good (10 * d + (c - 48)) rest)
    (cond (enough i) (good d (c ∷ rest)) (Err 1))

ends-number : (low d : ℕ) (text : List ℕ) → EndsNumber text → takes low d (first text) ≡ false
ends-number low d [] e = refl
ends-number low d (c ∷ rest) e = ap
    (λ b. b && (nat_le (10 * d + (c - 48)) 50 && nat_le low (10 * d + (c - 48)))) e

-- what is written is read
end_number-read : (low n : ℕ) (rest : List ℕ) → OnBoard n → low ≤ n → EndsNumber rest
    → ◌≡◌ {A = FrontReading} (read_end_number low (square_text n ++ rest)) (good n rest)
end_number-read low n rest on least ends =
    elim (nat_lt n 10) as (λ b. nat_lt n 10 ≡ b
    →
    ◌≡◌ {A = FrontReading}
    (read_end_number low (cond b ((48 + n) ∷ []) ((48 + n / 10) ∷ (48 + n % 10) ∷ []) ++ rest)) (good n rest)) [
      | true ↦ λ e.
          let small : n < 10 = grind (arith, nat_tests, e) in
          let d = 48 + n - 48 in
          let digit : d ≡ n = omega arith in
          begun low (48 + n) rest
          (λ i. (le-leb 49 (48 + n) (omega (arith, on.0)) i && le-leb (48 + n) 57 (omega arith) i) &&
          can_begin-one low d (omega (arith, least)) i)
          ∙ left low d rest true (ends-number low d rest ends) (le-leb low d (omega (arith, least)))
          ∙ ap (λ d. good d rest) digit
      | false ↦ λ e.
          let great : 10 ≤ n = grind (arith, nat_tests, e) in
          let d = 48 + n / 10 in
          let c = 48 + n % 10 in
          let number : 10 * (d - 48) + (c - 48) ≡ n = omega arith in
          begun low d (c ∷ rest)
          (λ i. (le-leb 49 d (omega arith) i && le-leb d 57 (omega (arith, on.1)) i) &&
          can_begin-two low (d - 48) (omega (arith, on.1)) (omega (arith, least)) i)
          ∙ taken low (d - 48) c rest
          (λ i. (le-leb 48 c (omega arith) i && le-leb c 57 (omega arith) i) &&
          (le-leb (10 * (d - 48) + (c - 48)) 50 (omega (arith, number, on.1)) i &&
          le-leb low (10 * (d - 48) + (c - 48)) (omega (arith, number, least)) i))
          ∙ ap (λ m. good m rest) number
    ] refl

-- where no 0 stands before the number
abbrev pub is_zero : Option ℕ → Bool
is_zero None = false
is_zero (Some c) = nat_eq c 48

end-plain : (low : ℕ) (text : List ℕ) → is_zero (first text) ≡ false → read_end low text ≡ read_end_number low text
end-plain low [] e = refl
end-plain low (c ∷ rest) e = ap (λ b. cond b (after_zero (read_end_number low rest)) (read_end_number low (c ∷ rest)))
    e

pub end-read : (low n : ℕ) (last rest : List ℕ) → IsSquareText n last → low ≤ n → EndsNumber rest
    → ◌≡◌ {A = FrontReading} (read_end low (last ++ rest)) (good n rest)
end-read low n last rest (on, inl e) least ends =
    let s = number-starts n on in
    let plain : is_zero (first (square_text n ++ rest)) ≡ false = ap (λ t. is_zero (first (t ++ rest))) s.split
    ∙ nat_eq_other s.first 48 (λ e. omega (arith, s.low)) in
    ap (λ t. read_end low (t ++ rest)) e ∙ end-plain low (square_text n ++ rest) plain
    ∙ end_number-read low n rest on least ends
end-read low n last rest (on, inr e) least ends = ap (λ t. read_end low (t ++ rest)) e
    ∙ ap after_zero (end_number-read low n rest on least ends)

pub square-read : (n : ℕ) (square rest : List ℕ) → IsSquareText n square → EndsNumber rest
    → ◌≡◌ {A = FrontReading} (read_square (square ++ rest)) (good n rest)
square-read n square rest is ends = sym (square-end (square ++ rest)) ∙ end-read 0 n square rest is (omega arith) ends

-- a number from `low` with no 0 before it, and the last square of a range from `low`
abbrev pub IsNumber : ℕ → ℕ → List ℕ → Type 0
IsNumber low n text = OnBoard n × (low ≤ n) × (text ≡ square_text n)

abbrev pub IsLast : ℕ → ℕ → List ℕ → Type 0
IsLast low n text = IsSquareText n text × (low ≤ n)

-- how far a text is read: to a number, or to where it goes wrong
abbrev pub Outcome : (List ℕ → FrontReading) → (ℕ → List ℕ → Type 0) → List ℕ → FrontReading → Type 0
Outcome read Is text (Ok front) = Goes (Is front.square)
    (λ t r. ◌≡◌ {A = FrontReading} (read t) (good front.square r)) text front.rest
Outcome read Is text (Err bytes) = Halts 0 (Begun ℕ Is) (λ t. ◌≡◌ {A = FrontReading} (read t) (Err bytes)) text bytes

-- a second digit with which the number is great enough
completes : (low d : ℕ) → low ≤ 50 → can_begin low d ≡ true → nat_le low d ≡ false → (digit : ℕ)
    × (digit ≤ 9) × (10 * d + digit ≤ 50) × (low ≤ 10 * d + digit)
completes low d on can small =
    let test : (nat_le d 5 && nat_le low (10 * d + 9)) ≡ true =
    sym (ap (λ b. b || (nat_le d 5 && nat_le low (10 * d + 9))) small) ∙ can in
    let five : d ≤ 5 = grind (arith, nat_tests, test) in
    let nine : low ≤ 10 * d + 9 = grind (arith, nat_tests, test) in
    (low - 10 * d, omega arith, omega arith, omega arith)

module _ (low n : ℕ) (on : OnBoard n) (least : low ≤ n) where
  none : (text : List ℕ) → begins low (first text) ≡ false
      → Outcome (read_end_number low) (IsNumber low) text (Err 0)
  none text e =
      record {
        written = [];
        rest = text;
        split = refl;
        size = refl;
        begins = record { more = square_text n; value = n; is = (on, least, refl) };
        reads = λ r alike. not_begun low r (ap (begins low) alike ∙ e);
      }

  module _ (f : ℕ) (e : begins low (Some f) ≡ true) (at_least : 49 ≤ f) (at_most : f ≤ 57) where
    back : 48 + (f - 48) ≡ f
    back = omega arith

    -- one digit, and two
    one : (text : List ℕ) → takes low (f - 48) (first text) ≡ false → (b : Bool) → nat_le low (f - 48) ≡ b
        → Outcome (read_end_number low) (IsNumber low) (f ∷ text) (cond b (good (f - 48) text) (Err 1))
    one text stops true enough =
        let great : low ≤ f - 48 = grind (arith, nat_tests, enough) in
        record {
          written = f ∷ [];
          split = refl;
          is = (
            (omega arith, omega arith),
            great,
            ap (λ x. x ∷ []) (sym back)
                ∙ sym (digit-text (f - 48) (omega arith)),
          );
          reads = λ r alike. begun low f r e ∙ left low (f - 48) r true (ap (takes low (f - 48)) alike ∙ stops) enough;
        }
    one text stops false few =
        let w = completes low (f - 48) (omega (arith, on.1))
        (and_parts (nat_le 49 f && nat_le f 57) (can_begin low (f - 48)) e).1 few in
        record {
          written = f ∷ [];
          rest = text;
          split = refl;
          size = refl;
          begins = record {
            more = (48 + w.0) ∷ [];
            value = 10 * (f - 48) + w.0;
            is = (
              (omega arith, w.2),
              w.3,
              ap (λ x. x ∷ (48 + w.0) ∷ []) (sym back)
                  ∙ sym (digits-text (f - 48) w.0 (omega arith) (omega (arith, w.1))),
            );
          };
          reads = λ r alike. begun low f r e ∙ left low (f - 48) r false (ap (takes low (f - 48)) alike ∙ stops) few;
        }

    two : (c : ℕ) (rest : List ℕ) → takes low (f - 48) (Some c) ≡ true
        → Outcome (read_end_number low) (IsNumber low) (f ∷ c ∷ rest) (good (10 * (f - 48) + (c - 48)) rest)
    two c rest t =
        let low_digit : 48 ≤ c = grind (arith, nat_tests, t) in
        let high_digit : c ≤ 57 = grind (arith, nat_tests, t) in
        let within : 10 * (f - 48) + (c - 48) ≤ 50 = grind (arith, nat_tests, t) in
        let great : low ≤ 10 * (f - 48) + (c - 48) = grind (arith, nat_tests, t) in
        let last : 48 + (c - 48) ≡ c = omega arith in
        record {
          written = f ∷ c ∷ [];
          split = refl;
          is = (
            (omega arith, within),
            great,
            (λ i. sym back i ∷ sym last i ∷ []) ∙ sym (digits-text (f - 48) (c - 48) (omega arith) (omega arith)),
          );
          reads = λ r alike. begun low f (c ∷ r) e ∙ taken low (f - 48) c r t;
        }

    begun-outcome : (text : List ℕ)
        → Outcome (read_end_number low) (IsNumber low) (f ∷ text) (read_end_second low (f - 48) text)
    begun-outcome [] = one [] refl (nat_le low (f - 48)) refl
    begun-outcome (c ∷ rest) =
        elim (takes low (f - 48) (Some c)) as (λ b. takes low (f - 48) (Some c) ≡ b
        → Outcome (read_end_number low) (IsNumber low) (f ∷ c ∷ rest)
        (cond b (good (10 * (f - 48) + (c - 48)) rest)
        (cond (nat_le low (f - 48)) (good (f - 48) (c ∷ rest)) (Err 1)))) [
          | true ↦ λ t. two c rest t
          | false ↦ λ t. one (c ∷ rest) t (nat_le low (f - 48)) refl
        ] refl

  number-outcome : (text : List ℕ)
      → Outcome (read_end_number low) (IsNumber low) text (read_end_number low text)
  number-outcome [] = none [] refl
  number-outcome (f ∷ text) =
      elim (begins low (Some f)) as (λ b. begins low (Some f) ≡ b
      → Outcome (read_end_number low) (IsNumber low) (f ∷ text) (cond b (read_end_second low (f - 48) text) (Err 0))) [
        | true ↦ λ e.
            let digit = (and_parts (nat_le 49 f && nat_le f 57) (can_begin low (f - 48)) e).0 in
            begun-outcome f e (grind (arith, nat_tests, digit)) (grind (arith, nat_tests, digit)) text
        | false ↦ λ e. none (f ∷ text) e
      ] refl

  plain-outcome : (text : List ℕ) → is_zero (first text) ≡ false → (r : FrontReading)
      → Outcome (read_end_number low) (IsNumber low) text r → Outcome (read_end low) (IsLast low) text r
  plain-outcome text e (Ok front) g =
      after (λ t. t) (λ x y. refl) text text refl front.rest g (λ t h. ((h.0, inl h.2), h.1))
      (λ t r alike same s. end-plain low t (ap is_zero alike ∙ e) ∙ s)
  plain-outcome text e (Err bytes) h =
      halts-after (λ t. t) (λ x y. refl) text text refl h (λ t s. s)
      (λ t b. record { more = b.more; value = b.value; is = ((b.is.0, inl b.is.2), b.is.1) })
      (λ t alike s. end-plain low t (ap is_zero alike ∙ e) ∙ s)

  zero-outcome : (c : ℕ) (text : List ℕ) → c ≡ 48 → (r : FrontReading)
      → Outcome (read_end_number low) (IsNumber low) text r
      → Outcome (read_end low) (IsLast low) (c ∷ text) (after_zero r)
  zero-outcome c text e (Ok front) g =
      after (λ t. 48 ∷ t) (λ x y. refl) text (c ∷ text) (ap (λ x. x ∷ text) e) front.rest g
      (λ t h. ((h.0, inr (ap (λ x. 48 ∷ x) h.2)), h.1)) (λ t r alike same s. ap after_zero s)
  zero-outcome c text e (Err bytes) h =
      halts-after (λ t. 48 ∷ t) (λ x y. refl) text (c ∷ text) (ap (λ x. x ∷ text) e) h (λ t s. omega arith)
      (λ t b. record { more = b.more; value = b.value; is = ((b.is.0, inr (ap (λ x. 48 ∷ x) b.is.2)), b.is.1) })
      (λ t alike s. ap after_zero s)

  pub end-outcome : (text : List ℕ) → Outcome (read_end low) (IsLast low) text (read_end low text)
  end-outcome [] = plain-outcome [] refl (Err 0) (number-outcome [])
  end-outcome (c ∷ rest) =
      elim (nat_eq c 48) as (λ b. nat_eq c 48 ≡ b → Outcome (read_end low) (IsLast low) (c ∷ rest)
      (cond b (after_zero (read_end_number low rest)) (read_end_number low (c ∷ rest)))) [
        | true ↦ λ e. zero-outcome c rest (nat_eq-same c 48 e) (read_end_number low rest) (number-outcome rest)
        | false ↦ λ e. plain-outcome (c ∷ rest) e (read_end_number low (c ∷ rest)) (number-outcome (c ∷ rest))
      ] refl

pub square-outcome : (text : List ℕ) → Outcome read_square (IsLast 0) text (read_square text)
square-outcome text = subst (λ (read : List ℕ → FrontReading). Outcome read (IsLast 0) text (read text))
    (λ i t. square-end t i) (end-outcome 0 1 (omega arith, omega arith) (omega arith) text)

-- a square takes a byte at least
pub square-some : (n : ℕ) (text : List ℕ) → IsSquareText n text → 1 ≤ length text
square-some n text is = let s = square-starts n text is in omega (arith, ap length s.split)
