-- A position's text is ASCII.
use Rattle.std.proofs.Common.{◌≡◌, ◌⊎◌, ℕ, ◌+◌, inl, inr, List, [], ◌∷◌, ◌++◌, length, sym, subst, arith}
use Rattle.std.specs.Str.{IsAscii, IsUtf8}
use Rattle.std.proofs.lemmas.Str.{IsAscii-append, IsUtf8-from_ascii}
use Rattle.std.proofs.lemmas.Str.Ascii.{IsAscii-nil, IsAscii-cons}
use Rattle.squares.specs.declared.sides.Side.{Side}
use Rattle.squares.specs.declared.sides.Side.TheVariants.{First, Second}
use Rattle.squares.specs.Sides.{other}
use Rattle.squares.specs.DraughtsBoard.{Position}
use Rattle.pdn.specs.declared.items.Item.{Item}
use Rattle.pdn.specs.FenText.{side_letter}
use Rattle.pdn.specs.FenForm.{FenForm}
use Rattle.pdn.specs.internal.FenGrammar.{IsItemText, AreItemsText, HasFenForm, FenFormsAreTexts}
use Rattle.pdn.specs.ReadFen.{IsFen}
use Rattle.pdn_games.proofs.FormTextLemmas.{square-ascii}

item-ascii : (side : Side) (i : Item) (text : List ℕ) → IsItemText side i text → IsAscii text
item-ascii side i text (inl (square, to, piece)) = square-ascii i.from text square
item-ascii side i text (inr (inl (square, is, to, piece, split))) =
    subst IsAscii (sym split) (IsAscii-cons 75 square (omega arith) (square-ascii i.from square is))
item-ascii side i text (inr (inr (first, last, from_is, to_is, order, piece, split))) =
    subst IsAscii (sym split)
    (IsAscii-append first (45 ∷ last) (square-ascii i.from first from_is)
    (IsAscii-cons 45 last (omega arith) (square-ascii i.to last to_is)))

items-ascii : (side : Side) (before : ℕ) (items : List Item) (text : List ℕ) → AreItemsText side before items text
    → IsAscii text
items-ascii side before [] text none = subst IsAscii (sym none) IsAscii-nil
items-ascii side before (i ∷ []) text (at, is) = item-ascii side i text is
items-ascii side before (i ∷ j ∷ items) text (first, rest, at, is, are, split) =
    subst IsAscii (sym split)
    (IsAscii-append first (44 ∷ rest) (item-ascii side i first is)
    (IsAscii-cons 44 rest (omega arith) (items-ascii side (before + length first + 1) (j ∷ items) rest are)))

letter-ascii : (side : Side) → IsAscii (side_letter side)
letter-ascii First = IsAscii-cons 87 [] (omega arith) IsAscii-nil
letter-ascii Second = IsAscii-cons 66 [] (omega arith) IsAscii-nil

dot-ascii : (dot : List ℕ) → (dot ≡ []) ⊎ (dot ≡ 46 ∷ []) → IsAscii dot
dot-ascii dot (inl is) = subst IsAscii (sym is) IsAscii-nil
dot-ascii dot (inr is) = subst IsAscii (sym is) (IsAscii-cons 46 [] (omega arith) IsAscii-nil)

form-ascii : (text : List ℕ) (form : FenForm) → HasFenForm text form → IsAscii text
form-ascii text form h =
    let ends = IsAscii-append h.second_text h.dot (items-ascii (other h.listed) _ h.second h.second_text h.second_is)
    (dot-ascii h.dot h.dot_is) in
    let second = IsAscii-cons 58 _ (omega arith)
    (IsAscii-append (side_letter (other h.listed)) (h.second_text ++ h.dot) (letter-ascii (other h.listed)) ends) in
    let first = IsAscii-append h.first_text _ (items-ascii h.listed _ h.first h.first_text h.first_is) second in
    subst IsAscii (sym h.text_is)
    (IsAscii-append (side_letter form.turn) _ (letter-ascii form.turn)
    (IsAscii-cons 58 _ (omega arith) (IsAscii-append (side_letter h.listed) _ (letter-ascii h.listed) first)))

pub fen-utf8 : FenFormsAreTexts → (text : List ℕ) (p : Position) → IsFen text p → IsUtf8 text
fen-utf8 laws text p fen = IsUtf8-from_ascii text (form-ascii text fen.0 ((laws text fen.0).0 fen.1))
