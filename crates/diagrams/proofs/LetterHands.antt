-- What the line of a hand in letters tells.
use Rattle.std.proofs.Common.{◌≡◌, ℕ, zero, suc, ◌+◌, ◌-◌, ◌*◌, ◌/◌, ◌%◌, ◌<◌, ◌≤◌, List, [], ◌∷◌, ◌++◌, get_or, drop}
use Rattle.std.proofs.Common.{nat_eq, nat_lt, lt-ltb, false, cond, refl, ap, ◌∙◌, arith, ◌⊎◌, inl, inr}
use Rattle.std.specs.Fmt.{decimal}
use Rattle.std.proofs.lemmas.Bool.{cases_lt}
use Rattle.std.proofs.lemmas.Grind.{common_steps}
use Rattle.std.proofs.lemmas.Fmt.{decimal_digit, decimal_step}
use Rattle.squares.specs.declared.shogi.piece.HandKind.{HandKind}
use Rattle.squares.specs.declared.shogi.hand.Hand.{Hand}
use Rattle.squares.specs.internal.DraughtsMarks.{nat_eq_same}
use Rattle.squares.specs.ShogiPieces.{on_board}
use Rattle.diagrams.specs.ShogiLetters.{capital}
use Rattle.diagrams.specs.ShogiLines.{hand_kinds}
use Rattle.diagrams.specs.ShogiDiagram.{held_text, hand_text}
use Rattle.diagrams.proofs.HandLemmas as hands
use Rattle.diagrams.proofs.HandLemmas.{IsFew, NamesTell, AreApart, IsOther}

-- a count of one digit or two
abbrev IsCount : ℕ → List ℕ → Type 0
IsCount n text =
    ((n < 10) × (text ≡ (48 + n) ∷ [])) ⊎ ((10 ≤ n) × (text ≡ (48 + n / 10) ∷ (48 + n % 10) ∷ []))

count-written : (n : ℕ) → n ≤ 99 → IsCount n (decimal n)
count-written n h = elim (cases_lt n 10) [
  | inl less ↦ inl (less, decimal_digit n less)
  | inr more ↦ inr (
    omega arith,
    decimal_step n (omega arith) (omega (arith, h))
        ∙ ap (λ t. t ++ (48 + n % 10) ∷ []) (decimal_digit (n / 10) (omega (arith, h))),
  )
]

-- what a text has at its beginning
abbrev pub first : List ℕ → ℕ
first text = get_or text 0 0

abbrev pub second : List ℕ → ℕ
second text = get_or text 1 0

-- a text that goes on neither with a digit nor with that letter after a character
abbrev pub Ends : ℕ → List ℕ → Type 0
Ends letter text = (first text < 48) × (nat_eq (second text) letter ≡ false)

-- a count in letters, where there are pieces of that letter, and what stands behind it
abbrev read : ℕ → List ℕ → ℕ × List ℕ
read c text =
    let at : ℕ = get_or text 2 0 in
    let next : ℕ = get_or text 3 0 in
    cond (nat_eq (second text) c)
    (cond (nat_lt at 48) (1, drop 2 text)
    (cond (nat_lt next 48) (at - 48, drop 3 text) (10 * (at - 48) + (next - 48), drop 4 text)))
    (0, text)

held-read : (c n : ℕ) (r : List ℕ) → n ≤ 99 → Ends c r → read c (held_text c n ++ r) ≡ (n, r)
held-read c zero r few ends = rw ends.1
held-read c (suc zero) r few ends = simp (nat_eq_same c c refl, lt-ltb (first r) 48 ends.0)
held-read c (suc (suc n)) r few ends = elim (count-written (suc (suc n)) few) [
  | inl one ↦ let small : nat_lt (48 + suc (suc n)) 48 ≡ false = grind (arith, common_steps) in
      let is : 48 + suc (suc n) - 48 ≡ suc (suc n) = omega arith in
      simp (one.1, nat_eq_same c c refl, small, lt-ltb (first r) 48 ends.0, is)
  | inr two ↦ let tens : nat_lt (48 + suc (suc n) / 10) 48 ≡ false = grind (arith, common_steps) in
      let ones : nat_lt (48 + suc (suc n) % 10) 48 ≡ false = grind (arith, common_steps) in
      let is : 10 * (48 + suc (suc n) / 10 - 48) + (48 + suc (suc n) % 10 - 48) ≡ suc (suc n) = omega arith in
      simp (two.1, nat_eq_same c c refl, tens, ones, is)
]

held-ends : (letter c n : ℕ) (rest : List ℕ) → nat_eq c letter ≡ false → Ends letter rest
    → Ends letter (held_text c n ++ rest)
held-ends letter c zero rest other ends = ends
held-ends letter c (suc zero) rest other ends = (omega arith, other)
held-ends letter c (suc (suc n)) rest other ends = (omega arith, other)

-- ---- a line

abbrev letter : HandKind → ℕ
letter kind = capital (on_board kind)

abbrev held : HandKind → ℕ → List ℕ
held kind n = held_text (letter kind) n

tell : NamesTell letter held Ends
tell = record {
  goes_on = λ c kind n rest other ends. held-ends c (letter kind) n rest other ends;
  read = λ kind text. read (letter kind) text;
  reads = λ kind n rest few ends. held-read (letter kind) n rest (omega (arith, few)) ends;
}

-- a line without its hyphen
abbrev without_hyphen : List ℕ → List ℕ
without_hyphen text = cond (nat_eq (second text) 45) (drop 2 text) text

apart : AreApart letter held Ends hand_kinds
unfolding hand_kinds
apart = search

other : IsOther letter held Ends 45 hand_kinds
unfolding hand_kinds
other = search

-- a line's end, and no letter of a kind and no hyphen after it
abbrev pub IsLineEnd : List ℕ → Type 0
IsLineEnd = hands.IsLineEnd letter held Ends 45

pub hands-apart : (a b : Hand) (r s : List ℕ) → IsFew a → IsFew b → IsLineEnd r → IsLineEnd s
    → hand_text a ++ r ≡ hand_text b ++ s → (a ≡ b) × (r ≡ s)
unfolding hand_text
hands-apart = hands.lines-apart letter held Ends tell (32 ∷ 45 ∷ []) 45 without_hyphen (λ rest. refl)
    (λ text ends. ap (λ t. cond t (drop 2 text) text) ends.1) apart other
