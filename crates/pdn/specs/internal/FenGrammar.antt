-- The grammar of FEN texts. No promise of the program rests on these definitions.
use Rattle.std.specs.Prelude.{◌≡◌, ◌⊎◌, ◌↔◌, ◌+◌, ◌≤◌, ℕ, List, [], ◌∷◌, ◌++◌, length, Ok}
use Rattle.squares.specs.declared.sides.Side.{Side}
use Rattle.squares.specs.Sides.{other}
use Rattle.pdn.specs.declared.items.Item.{Item}
use Rattle.pdn.specs.internal.Grammar.{IsSquareText}
use Rattle.pdn.specs.FenText.{side_letter}
use Rattle.pdn.specs.FenItems.{man, king}
use Rattle.pdn.specs.FenForm.{FenForm, ReadsForm}

-- a man: its square
abbrev pub IsManText : Side → Item → List ℕ → Type 0
IsManText side i text = IsSquareText i.from text × (i.to ≡ i.from) × (i.piece ≡ man side)

-- a king: `K` and its square
abbrev pub IsKingText : Side → Item → List ℕ → Type 0
IsKingText side i text = (square : List ℕ) × IsSquareText i.from square × (i.to ≡ i.from) × (i.piece ≡ king side)
    × (text ≡ 75 ∷ square)

-- a range of men: its first and last square, separated by a hyphen
abbrev pub AreMenText : Side → Item → List ℕ → Type 0
AreMenText side i text = (first : List ℕ) × (last : List ℕ) × IsSquareText i.from first × IsSquareText i.to last
    × (i.from ≤ i.to) × (i.piece ≡ man side) × (text ≡ first ++ 45 ∷ last)

abbrev pub IsItemText : Side → Item → List ℕ → Type 0
IsItemText side i text = IsManText side i text ⊎ (IsKingText side i text ⊎ AreMenText side i text)

-- The items of a side's list, separated by commas; `before` is the offset of the list. Each item records its own
-- offset.
abbrev pub AreItemsText : Side → ℕ → List Item → List ℕ → Type 0
AreItemsText side before [] text = text ≡ []
AreItemsText side before (i ∷ []) text = (i.at ≡ before) × IsItemText side i text
AreItemsText side before (i ∷ j ∷ items) text = (first : List ℕ) × (rest : List ℕ) × (i.at ≡ before)
    × IsItemText side i first × AreItemsText side (before + length first + 1) (j ∷ items) rest
    × (text ≡ first ++ 44 ∷ rest)

-- The side to move, one side's list and the other side's list, each after its letter and separated by colons, with an
-- optional dot.
pub record HasFenForm (text : List ℕ) (form : FenForm) : Type 0 where
  pub listed : Side
  pub first : List Item
  pub second : List Item
  pub first_text : List ℕ
  pub second_text : List ℕ
  pub dot : List ℕ
  pub items : form.items ≡ first ++ second
  pub first_is : AreItemsText listed 3 first first_text
  pub second_is : AreItemsText (other listed) (3 + length first_text + 2) second second_text
  pub dot_is : (dot ≡ []) ⊎ (dot ≡ 46 ∷ [])
  pub text_is : text ≡ side_letter form.turn
      ++ (58 ∷ (side_letter listed ++ (first_text ++ (58 ∷ (side_letter (other listed) ++ (second_text ++ dot))))))

-- The parser accepts exactly the texts of the grammar, with the same forms.
abbrev pub FenFormsAreTexts : Type 0
FenFormsAreTexts = (text : List ℕ) (form : FenForm) → ReadsForm text (Ok form) ↔ HasFenForm text form
