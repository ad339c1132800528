-- A token that is a move has a move's form.
use Rattle.std.proofs.Common.{◌≡◌, ℕ, zero, suc, ◌+◌, ◌-◌, ◌*◌, ◌<◌, ◌≤◌, inl, inr, List, [], ◌∷◌, ◌++◌, Bool}
use Rattle.std.proofs.Common.{append-nil, length, take, drop, true, false, cond, nat_eq, nat_le, ◌&&◌, ◌||◌, refl, sym}
use Rattle.std.proofs.Common.{ap, subst, ◌∙◌, arith}
use Rattle.std.proofs.lemmas.Bool.Decides.{nat_tests}
use Rattle.std.proofs.Math.Seq.{take-add}
use Rattle.squares.specs.internal.DraughtsGeometry.{OnBoard}
use Rattle.squares.specs.internal.DraughtsMarks.{nat_eq-same}
use Rattle.pdn.specs.SquareText.{is_digit, square_text}
use Rattle.pdn.specs.Forms.{quiet, capture, is_cross}
use Rattle.pdn.specs.internal.Grammar.{IsSquareText, IsCross, IsLanding, AreLandings}
use Rattle.pdn.proofs.Proved.{one_digit, two_digits}
use Rattle.pdn_games.specs.Lengths.{both, with_second, plain_len, square_len, step_len, landing_len}
use Rattle.pdn_games.specs.Lengths.{landings_within, landings_len, tail_len, move_len}
use Rattle.pdn_games.specs.internal.Replaying.{IsMoveForm}
use Rattle.pdn_games.proofs.DigitLemmas.{both-sum}
use Rattle.pdn_games.proofs.LengthLemmas.{within-none, within-more}
use Rattle.pdn_games.proofs.SkipLemmas.{by-bool}

-- two parts that are there
pub both-none : (a : ℕ) → both a 0 ≡ 0
both-none a = elim (nat_eq a 0) as (λ b. cond b 0 (cond (nat_eq 0 0) 0 (a + 0)) ≡ 0) [ true ↦ refl | false ↦ refl ]

both-parts : (a b : ℕ) → 0 < both a b → (0 < a) × (0 < b) × (both a b ≡ a + b)
both-parts zero b some = absurd (omega (arith, some))
both-parts (suc a) zero some = absurd (let none = both-none (suc a) in omega (arith, some, none))
both-parts (suc a) (suc b) some = (omega arith, omega arith, both-sum (suc a) (suc b) (omega arith) (omega arith))

-- a byte, and after it a part that is there
one-more : (c : ℕ) (rest : List ℕ) (k : ℕ) → 0 < both 1 k → (0 < k) × (take (both 1 k) (c ∷ rest) ≡ c ∷ take k rest)
one-more c rest k some =
    let parts = both-parts 1 k some in
    let long : both 1 k ≡ suc k = let sum = parts.2 in omega (arith, sum) in
    (parts.1, ap (λ j. take j (c ∷ rest)) long)

-- what is counted only where a test holds
counted : (b : Bool) (k : ℕ) → 0 < cond b k 0 → (b ≡ true) × (cond b k 0 ≡ k)
counted true k some = (refl, refl)
counted false k some = absurd (omega (arith, some))

-- a number from 1 to 50, any square, and any landing
abbrev IsNumber : List ℕ → Type 0
IsNumber text = (n : ℕ) × OnBoard n × (text ≡ square_text n)

abbrev IsSquare : List ℕ → Type 0
IsSquare text = (n : ℕ) × IsSquareText n text

second-number : (d : ℕ) (rest : List ℕ) → 1 ≤ d → d < 10 → IsNumber (take (with_second d rest) ((48 + d) ∷ rest))
second-number d [] low high = (d, (low, omega arith), sym (one_digit d high))
second-number d (c ∷ rest) low high =
    elim (is_digit c && nat_le (10 * d + (c - 48)) 50) as (λ b. (is_digit c && nat_le (10 * d + (c - 48)) 50) ≡ b
    → IsNumber (take (cond b 2 1) ((48 + d) ∷ c ∷ rest))) [
      | true ↦ λ e.
          let least : 48 ≤ c = grind (arith, nat_tests, e) in
          let most : c ≤ 57 = grind (arith, nat_tests, e) in
          let within : 10 * d + (c - 48) ≤ 50 = grind (arith, nat_tests, e) in
          let back : 48 + (c - 48) ≡ c = omega arith in
          let split = ap (λ x. (48 + d) ∷ x ∷ []) (sym back) ∙ sym (two_digits d (c - 48) low (omega arith)) in
          (10 * d + (c - 48), (omega arith, within), split)
      | false ↦ λ e. (d, (low, omega arith), sym (one_digit d high))
    ] refl

number-of : (text : List ℕ) → 0 < plain_len text → IsNumber (take (plain_len text) text)
number-of [] some = absurd (omega (arith, some))
number-of (c ∷ rest) some =
    let test = counted (nat_le 49 c && nat_le c 57) (with_second (c - 48) rest) some in
    let is = test.0 in
    let least : 49 ≤ c = grind (arith, nat_tests, is) in
    let most : c ≤ 57 = grind (arith, nat_tests, is) in
    let back : 48 + (c - 48) ≡ c = omega arith in
    subst (λ k. IsNumber (take k (c ∷ rest))) (sym test.1)
    (subst (λ x. IsNumber (take (with_second (c - 48) rest) (x ∷ rest))) back
    (second-number (c - 48) rest (omega arith) (omega arith)))

-- so many bytes, if any, are a square
pub square-of : (text : List ℕ) → 0 < square_len text → IsSquare (take (square_len text) text)
square-of [] some = absurd (omega (arith, some))
square-of (c ∷ rest) some =
    elim (nat_eq c 48) as (λ b. nat_eq c 48 ≡ b → 0 < cond b (both 1 (plain_len rest)) (plain_len (c ∷ rest))
    → IsSquare (take (cond b (both 1 (plain_len rest)) (plain_len (c ∷ rest))) (c ∷ rest))) [
      | true ↦ λ is there.
          let more = one-more c rest (plain_len rest) there in
          let number = number-of rest more.0 in
          (number.0, (number.1, inr (more.1 ∙ (λ i. nat_eq-same c 48 is i ∷ number.2 i))))
      | false ↦ λ is there. let number = number-of (c ∷ rest) there in (number.0, (number.1, inl number.2))
    ] refl some

-- so many bytes, if any, are a byte that passes and a square
after-byte : (b : Bool) (c : ℕ) (rest : List ℕ) → 0 < cond b (both 1 (square_len rest)) 0
    → (b ≡ true) × (square : List ℕ) × IsSquare square
    × (take (cond b (both 1 (square_len rest)) 0) (c ∷ rest) ≡ c ∷ square)
after-byte b c rest some =
    let test = counted b (both 1 (square_len rest)) some in
    let long = test.1 in
    let more = one-more c rest (square_len rest) (omega (arith, some, long)) in
    (test.0, take (square_len rest) rest, square-of rest more.0, ap (λ k. take k (c ∷ rest)) long ∙ more.1)

test-cross : (c : ℕ) → is_cross c ≡ true → IsCross c
test-cross c e =
    by-bool (λ b. b || nat_eq c 58) (nat_eq c 120) true e (λ f g. inl (nat_eq-same c 120 f))
    (λ f g. inr (nat_eq-same c 58 g))

-- so many bytes, if any, are a landing
landing-of : (text : List ℕ) → 0 < landing_len text → (n : ℕ) × IsLanding n (take (landing_len text) text)
landing-of [] some = absurd (omega (arith, some))
landing-of (c ∷ rest) some =
    let w = after-byte (is_cross c) c rest some in
    (w.2.0, (c, w.1, test-cross c w.0, w.2.1, w.3))

-- so many bytes, if any, are landings
abbrev AreSomeLandings : List ℕ → Type 0
AreSomeLandings text = (s : ℕ) × (more : List ℕ) × AreLandings (s ∷ more) text

landings-with : (n : ℕ) (text : List ℕ) (l k : ℕ) → IsLanding n (take l text)
    → (0 < k → AreSomeLandings (take k (drop l text))) → AreSomeLandings (take (l + k) text)
landings-with n text l zero is later =
    let same : l + 0 ≡ l = omega arith in
    let alone = ap (λ j. take j text) same ∙ sym (append-nil (take l text)) in
    (n, [], (take l text, [], is, refl, alone))
landings-with n text l (suc k) is later = let w = later (omega arith) in
    (n, w.0 ∷ w.1, (take l text, take (suc k) (drop l text), is, w.2, take-add l (suc k) text))

landings-of : (n : ℕ) (text : List ℕ) → 0 < landings_within n text
    → AreSomeLandings (take (landings_within n text) text)
unfolding landings_within
landings-of zero text some = absurd (omega (arith, some))
landings-of (suc n) text some = begun (landing_len text) refl (λ rest. landings-of n rest)
  where
    begun : (l : ℕ) → landing_len text ≡ l
        → ((rest : List ℕ) → 0 < landings_within n rest → AreSomeLandings (take (landings_within n rest) rest))
        → AreSomeLandings (take (landings_within (suc n) text) text)
    begun zero is later = absurd (let none = within-none (suc n) text is in omega (arith, some, none))
    begun (suc l) is later =
        let first = landing-of text (omega (arith, is)) in
        subst (λ k. AreSomeLandings (take k text)) (sym (within-more n (suc l) text is (omega arith)))
        (landings-with first.0 text (suc l) (landings_within n (drop (suc l) text))
        (subst (λ k. IsLanding first.0 (take k text)) is first.1) (later (drop (suc l) text)))

-- the last of some squares
last-of : (s : ℕ) (more : List ℕ) → (middle : List ℕ) × (to : ℕ) × (s ∷ more ≡ middle ++ to ∷ [])
last-of s [] = ([], s, refl)
last-of s (n ∷ more) = let w = last-of n more in (s ∷ w.0, w.1, ap (λ l. s ∷ l) w.2)

-- so many bytes, if any, are a hyphen and a square
step-of : (text : List ℕ) → 0 < step_len text → (n : ℕ) × (square : List ℕ) × IsSquareText n square
    × (take (step_len text) text ≡ 45 ∷ square)
step-of [] some = absurd (omega (arith, some))
step-of (c ∷ rest) some =
    let w = after-byte (nat_eq c 45) c rest some in
    (w.2.0, w.1, w.2.1, w.3 ∙ ap (λ x. x ∷ w.1) (nat_eq-same c 45 w.0))

-- a square, and so many bytes of what follows it, are a move
with-step : (text : List ℕ) (a n : ℕ) → IsSquareText n (take a text) → 0 < step_len (drop a text)
    → IsMoveForm (take (a + step_len (drop a text)) text)
with-step text a n first some =
    let w = step-of (drop a text) some in
    let split = take-add a (step_len (drop a text)) text ∙ ap (λ l. take a text ++ l) w.3 in
    (quiet n w.0, (take a text, w.1, first, w.2, split))

with-landings : (text : List ℕ) (a n : ℕ) → IsSquareText n (take a text) → 0 < landings_len (drop a text)
    → IsMoveForm (take (a + landings_len (drop a text)) text)
unfolding landings_len
with-landings text a n first some =
    let rest : List ℕ = drop a text in
    let k : ℕ = landings_within (length rest) rest in
    let are = landings-of (length rest) rest some in
    let last = last-of are.0 are.1 in (
      capture n last.0 last.1,
      (take a text, take k rest, first, subst (λ l. AreLandings l (take k rest)) last.2 are.2, take-add a k text),
    )

with-tail : (text : List ℕ) (a n : ℕ) → IsSquareText n (take a text) → 0 < tail_len (drop a text)
    → IsMoveForm (take (a + tail_len (drop a text)) text)
with-tail text a n first some =
    elim (nat_eq (step_len (drop a text)) 0) as (λ b. nat_eq (step_len (drop a text)) 0 ≡ b
    → 0 < cond b (landings_len (drop a text)) (step_len (drop a text))
    → IsMoveForm (take (a + cond b (landings_len (drop a text)) (step_len (drop a text))) text)) [
      | true ↦ λ is there. with-landings text a n first there
      | false ↦ λ is there. with-step text a n first there
    ] refl some

-- so many bytes, if any, are a move
pub move-of : (text : List ℕ) → 0 < move_len text → IsMoveForm (take (move_len text) text)
unfolding move_len
move-of text some =
    let parts = both-parts (square_len text) (tail_len (drop (square_len text) text)) some in
    let first = square-of text parts.0 in
    subst (λ k. IsMoveForm (take k text)) (sym parts.2) (with-tail text (square_len text) first.0 first.1 parts.1)
