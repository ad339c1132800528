-- The grammar of the texts of moves. No promise of the program rests on these definitions.
use Rattle.std.specs.Prelude.{◌≡◌, ◌⊎◌, ◌↔◌, ℕ, List, [], ◌∷◌, ◌++◌, Ok}
use Rattle.squares.specs.internal.DraughtsGeometry.{OnBoard}
use Rattle.pdn.specs.SquareText.{square_text}
use Rattle.pdn.specs.Forms.{Form, quiet, capture, read_form}

-- a square's number in decimal, with at most one leading 0
abbrev pub IsSquareText : ℕ → List ℕ → Type 0
IsSquareText n text = OnBoard n × ((text ≡ square_text n) ⊎ (text ≡ 48 ∷ square_text n))

-- the sign of a capture: `x` or `:`
abbrev pub IsCross : ℕ → Type 0
IsCross c = (c ≡ 120) ⊎ (c ≡ 58)

-- a landing square after an `x` or `:`
abbrev pub IsLanding : ℕ → List ℕ → Type 0
IsLanding n text = (cross : ℕ) × (square : List ℕ) × IsCross cross × IsSquareText n square × (text ≡ cross ∷ square)

-- consecutive landing squares
abbrev pub AreLandings : List ℕ → List ℕ → Type 0
AreLandings [] text = text ≡ []
AreLandings (n ∷ squares) text = (landing : List ℕ) × (rest : List ℕ) × IsLanding n landing × AreLandings squares rest
    × (text ≡ landing ++ rest)

-- A quiet move is two squares separated by a hyphen; a capture is a square and one or more landing squares.
abbrev pub HasForm : List ℕ → Form → Type 0
HasForm text (quiet from to) = (first : List ℕ) × (second : List ℕ) × IsSquareText from first × IsSquareText to second
    × (text ≡ first ++ 45 ∷ second)
HasForm text (capture from middle to) = (first : List ℕ) × (landings : List ℕ) × IsSquareText from first
    × AreLandings (middle ++ to ∷ []) landings × (text ≡ first ++ landings)

-- The parser accepts exactly the texts of the grammar, with the same forms.
abbrev pub FormsAreTexts : Type 0
FormsAreTexts = (text : List ℕ) (form : Form) → (read_form text ≡ Ok form) ↔ HasForm text form
