-- The grammar of the parts that are skipped between tokens. No promise of the program rests on these definitions.
use Rattle.std.specs.Prelude.{◌≡◌, ◌≢◌, ◌⊎◌, ◌↔◌, ◌<◌, ℕ, List, [], ◌∷◌, ◌++◌, length, Bool, true, false, Some}
use Rattle.pdn.specs.SquareText.{is_digit}
use Rattle.pdn_games.specs.Skips.{is_blank, is_mark, is_in_line, past_skipped}

-- a text that does not contain this byte
abbrev pub Lacks : ℕ → List ℕ → Type 0
Lacks c [] = Unit {0}
Lacks c (d ∷ text) = (d ≢ c) × Lacks c text

-- a text all of whose bytes satisfy p
abbrev pub All : (ℕ → Bool) → List ℕ → Type 0
All p [] = Unit {0}
All p (c ∷ text) = (p c ≡ true) × All p text

-- a text whose first byte, if any, does not satisfy p
abbrev pub StopsAt : (ℕ → Bool) → List ℕ → Type 0
StopsAt p [] = Unit {0}
StopsAt p (c ∷ text) = p c ≡ false

-- a maximal run of bytes that satisfy p, and the rest of the text
abbrev pub IsRun : (ℕ → Bool) → List ℕ → List ℕ → Type 0
IsRun p run rest = All p run × StopsAt p rest

-- The inside of a variation: bytes, brace comments and nested brackets.
pub data IsInner : List ℕ → Type 0 where
  nothing : IsInner []
  byte : (c : ℕ) (text : List ℕ) → c ≢ 40 → c ≢ 41 → c ≢ 123 → IsInner text → IsInner (c ∷ text)
  braces : (inside text : List ℕ) → Lacks 125 inside → IsInner text → IsInner (123 ∷ inside ++ 125 ∷ text)
  brackets : (inside text : List ℕ) → IsInner inside → IsInner text → IsInner (40 ∷ inside ++ 41 ∷ text)

-- A skipped part and the rest of the text. The part is a blank or a line end, a brace comment, `$` and digits, a
-- variation in brackets, or a run of `!` and `?`. Comments from `;`, or from `%` at a line's start, extend to its end.
pub data IsSkipped (line : Bool) (text rest : List ℕ) : Type 0 where
  blank : (c : ℕ) → is_blank c ≡ true → text ≡ c ∷ rest → IsSkipped line text rest
  comment : (inside : List ℕ) → Lacks 125 inside → text ≡ 123 ∷ inside ++ 125 ∷ rest → IsSkipped line text rest
  note : (digits : List ℕ) → 0 < length digits → IsRun is_digit digits rest → text ≡ 36 ∷ digits ++ rest
      → IsSkipped line text rest
  variation : (inside : List ℕ) → IsInner inside → text ≡ 40 ∷ inside ++ 41 ∷ rest → IsSkipped line text rest
  marks : (c : ℕ) (run : List ℕ) → is_mark c ≡ true → IsRun is_mark run rest → text ≡ c ∷ run ++ rest
      → IsSkipped line text rest
  line_end : (c : ℕ) (run : List ℕ) → (c ≡ 59) ⊎ ((c ≡ 37) × (line ≡ true)) → IsRun is_in_line run rest
      → text ≡ c ∷ run ++ rest → IsSkipped line text rest

-- The lexer skips exactly these parts.
abbrev pub SkipsFollowGrammar : Type 0
SkipsFollowGrammar =
    (line : Bool) (text rest : List ℕ) → (past_skipped line text ≡ Some rest) ↔ IsSkipped line text rest
