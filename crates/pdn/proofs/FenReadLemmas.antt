-- A position's text of the grammar is read as its form.
use Rattle.std.proofs.Common.{◌≡◌, true, ℕ, ◌+◌, ◌-◌, ◌⊎◌, inl, inr, false, cond, ◌||◌, List, [], ◌∷◌, ◌++◌, length}
use Rattle.std.proofs.Common.{Some, None, Ok, refl, sym, ap, ◌∙◌, subst, append_assoc, append-nil, arith, length-append}
use Rattle.squares.specs.declared.sides.Side.{Side}
use Rattle.squares.specs.declared.sides.Side.TheVariants.{First, Second}
use Rattle.squares.specs.Sides.{other}
use Rattle.squares.specs.internal.DraughtsMarks.{nat_eq_other}
use Rattle.pdn.specs.declared.items.Item.{Item}
use Rattle.pdn.specs.internal.Grammar.{IsSquareText}
use Rattle.pdn.specs.FenText.{side_letter}
use Rattle.pdn.specs.FenItems.{man, king, past_byte, ItemReading, range_of, after_man, read_item, Items, ReadsItems}
use Rattle.pdn.specs.FenItems.{last_item, more_items, ends_list, ReadsList, no_item, some_items}
use Rattle.pdn.specs.FenForm.{FenForm, Header, HeaderReading, read_header, RestReading, read_between, past_end, ended}
use Rattle.pdn.specs.FenForm.{both, ReadsForm, lists}
use Rattle.pdn.specs.internal.FenGrammar.{IsItemText, AreItemsText, HasFenForm}
use Rattle.squares.specs.declared.draughts.piece.DPiece.{DPiece}
use Rattle.pdn.proofs.NumberLemmas.{good, EndsNumber, square-starts, end-read, square-read}
use Rattle.pdn.proofs.FenItemStopLemmas.{IsItemAt, ReadsItem, item_of, kings, plain}

no_letter : (n : ℕ) (text rest : List ℕ) → IsSquareText n text → past_byte 75 (text ++ rest) ≡ None
no_letter n text rest is =
    let s = square-starts n text is in
    ap (λ t. past_byte 75 (t ++ rest)) s.split
    ∙ ap (λ b. cond b (Some (s.more ++ rest)) None) (nat_eq_other s.first 75 (λ e. omega (arith, s.high)))

no_end : (n : ℕ) (text rest : List ℕ) → IsSquareText n text → ends_list (text ++ rest) ≡ false
no_end n text rest is =
    let s = square-starts n text is in
    ap (λ t. ends_list (t ++ rest)) s.split ∙
    (λ i. nat_eq_other s.first 58 (λ e. omega (arith, s.high)) i || nat_eq_other s.first 46
    (λ e. omega (arith, s.low)) i)

-- an item after `base` bytes
module _ (side : Side) (base : ℕ) (i : Item) (tail : List ℕ) (ends : EndsNumber tail)
    (hyphen : past_byte 45 tail ≡ None) where
  done : (to : ℕ) (piece : DPiece) → i.at ≡ base → i.to ≡ to → i.piece ≡ piece
      → ◌≡◌ {A = ItemReading} (Ok (record { item = item_of base i.from to piece; rest = tail }))
      (Ok (record { item = i; rest = tail }))
  done to piece at to_is piece_is =
      λ j. Ok (record { item = item_of (sym at j) i.from (sym to_is j) (sym piece_is j); rest = tail })

  pub item-read : (written : List ℕ) → IsItemAt base side i written
      → ReadsItem base side (written ++ tail) (Ok (record { item = i; rest = tail }))
  item-read written (at, inl (is, to, piece)) total size =
      plain side base total (written ++ tail) (good i.from tail) size (no_letter i.from written tail is)
      (square-read i.from written tail is ends)
      ∙ ap (after_man total base side (record { square = i.from; rest = tail })) hyphen
      ∙ done i.from (man side) at to piece
  item-read written (at, inr (inl (square, is, to, piece, split))) total size =
      let whole : written ++ tail ≡ 75 ∷ (square ++ tail) = ap (λ t. t ++ tail) split in
      ap (read_item total side) whole
      ∙ kings side base total (square ++ tail) (good i.from tail) (size ∙ ap (λ t. base + length t) whole)
      (square-read i.from square tail is ends) ∙ done i.from (king side) at to piece
  item-read written (at, inr (inr (first, last, is, last_is, order, piece, split))) total size =
      let rest = last ++ tail in
      let whole : written ++ tail ≡ first ++ 45 ∷ rest = ap (λ t. t ++ tail) split
      ∙ append_assoc first (45 ∷ last) tail in
      ap (read_item total side) whole
      ∙ plain side base total (first ++ 45 ∷ rest) (good i.from (45 ∷ rest)) (size ∙ ap (λ t. base + length t) whole)
      (no_letter i.from first (45 ∷ rest) is) (square-read i.from first (45 ∷ rest) is refl)
      ∙ ap (range_of base (total - length rest) side i.from) (end-read i.from i.to last tail last_is order ends)
      ∙ done i.to (man side) at refl piece

item-no_end : (side : Side) (i : Item) (written tail : List ℕ) → IsItemText side i written
    → ends_list (written ++ tail) ≡ false
item-no_end side i written tail (inl (is, to, piece)) = no_end i.from written tail is
item-no_end side i written tail (inr (inl (square, is, to, piece, split))) = ap (λ t. ends_list (t ++ tail)) split
item-no_end side i written tail (inr (inr (first, last, is, last_is, order, piece, split))) =
    ap (λ t. ends_list (t ++ tail)) split ∙ ap ends_list (append_assoc first (45 ∷ last) tail)
    ∙ no_end i.from first (45 ∷ (last ++ tail)) is

-- what ends a list
pub record IsTail (tail : List ℕ) : Type 0 where
  pub number : EndsNumber tail
  pub no_hyphen : past_byte 45 tail ≡ None
  pub no_comma : past_byte 44 tail ≡ None
  pub ends : ends_list tail ≡ true

colon-tail : (rest : List ℕ) → IsTail (58 ∷ rest)
colon-tail rest = record { number = refl; no_hyphen = refl; no_comma = refl; ends = refl }

-- items, and a list
module _ (total : ℕ) (side : Side) (tail : List ℕ) (is_tail : IsTail tail) where
  items-read : (before : List Item) (base : ℕ) (i : Item) (others : List Item) (written : List ℕ)
      → total ≡ base + length (written ++ tail) → AreItemsText side base (i ∷ others) written
      → ReadsItems total side before (written ++ tail) (Ok (record { items = before ++ i ∷ others; rest = tail }))
  items-read before base i [] written size are =
      last_item before (written ++ tail) i tail
      (item-read side base i tail is_tail.number is_tail.no_hyphen written are total size) is_tail.no_comma
  items-read before base i (j ∷ others) written size (first, rest, at, is, are, split) =
      let more = rest ++ tail in
      let text = first ++ 44 ∷ more in
      let whole : written ++ tail ≡ text = ap (λ t. t ++ tail) split ∙ append_assoc first (44 ∷ rest) tail in
      let long : total ≡ base + length text = size ∙ ap (λ t. base + length t) whole in
      let next : total ≡ base + length first + 1 + length more =
      omega (arith, long, length-append first (44 ∷ more)) in
      let later = items-read (before ++ i ∷ []) (base + length first + 1) j others rest next are in
      let here = more_items before text i (44 ∷ more) more
      (Ok (record { items = (before ++ i ∷ []) ++ j ∷ others; rest = tail }))
      (item-read side base i (44 ∷ more) refl refl first (at, is) total long) refl later in
      subst (λ t. ReadsItems total side before t (Ok (record { items = before ++ i ∷ j ∷ others; rest = tail })))
      (sym whole)
      (subst (λ (xs : List Item). ReadsItems total side before text (Ok (record { items = xs; rest = tail })))
      (append_assoc before (i ∷ []) (j ∷ others)) here)

  starts-item : (base : ℕ) (i : Item) (others : List Item) (written : List ℕ)
      → AreItemsText side base (i ∷ others) written → ends_list (written ++ tail) ≡ false
  starts-item base i [] written (at, is) = item-no_end side i written tail is
  starts-item base i (j ∷ others) written (first, rest, at, is, are, split) =
      ap (λ t. ends_list (t ++ tail)) split ∙ ap ends_list (append_assoc first (44 ∷ rest) tail)
      ∙ item-no_end side i first (44 ∷ (rest ++ tail)) is

  pub list-read : (before : List Item) (base : ℕ) (items : List Item) (written : List ℕ)
      → total ≡ base + length (written ++ tail) → AreItemsText side base items written
      → ReadsList total side before (written ++ tail) (Ok (record { items = before ++ items; rest = tail }))
  list-read before base [] written size none =
      subst (λ t. ReadsList total side before (t ++ tail) (Ok (record { items = before ++ []; rest = tail })))
      (sym none)
      (subst (λ (xs : List Item). ReadsList total side before tail (Ok (record { items = xs; rest = tail })))
      (sym (append-nil before)) (no_item before tail is_tail.ends))
  list-read before base (i ∷ others) written size are =
      some_items before (written ++ tail) (Ok (record { items = before ++ i ∷ others; rest = tail }))
      (starts-item base i others written are) (items-read before base i others written size are)

-- what stands round the lists
pub one_letter : (side : Side) → length (side_letter side) ≡ 1
one_letter First = refl
one_letter Second = refl

pub header-read : (turn first : Side) (rest : List ℕ)
    → ◌≡◌ {A = HeaderReading} (read_header (side_letter turn ++ (58 ∷ (side_letter first ++ rest))))
    (Ok (record { turn = turn; first = first; rest = rest }))
header-read First First rest = refl
header-read First Second rest = refl
header-read Second First rest = refl
header-read Second Second rest = refl

pub between-read : (total : ℕ) (listed : Side) (rest : List ℕ)
    → ◌≡◌ {A = RestReading} (read_between total listed (58 ∷ (side_letter (other listed) ++ rest))) (Ok rest)
between-read total First rest = refl
between-read total Second rest = refl

-- one dot at the end or none
abbrev pub IsDot : List ℕ → Type 0
IsDot text = (text ≡ []) ⊎ (text ≡ 46 ∷ [])

dot-tail : (dot : List ℕ) → IsDot dot → IsTail dot
dot-tail dot (inl e) = subst IsTail (sym e) (record { number = tt; no_hyphen = refl; no_comma = refl; ends = refl })
dot-tail dot (inr e) = subst IsTail (sym e) (record { number = refl; no_hyphen = refl; no_comma = refl; ends = refl })

dot-end : (total : ℕ) (dot : List ℕ) → IsDot dot → past_end total dot ≡ None
dot-end total dot (inl e) = ap (past_end total) e
dot-end total dot (inr e) = ap (past_end total) e

-- the text of two lists
pub lists-form : (turn l : Side) (first second : List Item) (one two dot : List ℕ) → AreItemsText l 3 first one
    → AreItemsText (other l) (3 + length one + 2) second two → IsDot dot
    → HasFenForm (side_letter turn ++ (58 ∷ (side_letter l ++ (one ++ (58 ∷ (side_letter (other l) ++ (two ++ dot)))))))
    (record { turn = turn; items = first ++ second })
lists-form turn l first second one two dot one_is two_is dot_is =
    record {
      listed = l;
      first = first;
      second = second;
      first_text = one;
      second_text = two;
      dot = dot;
      items = refl;
      first_is = one_is;
      second_is = two_is;
      dot_is = dot_is;
      text_is = refl;
    }

-- a whole text
pub text-reads : (text : List ℕ) (form : FenForm) → HasFenForm text form → ReadsForm text (Ok form)
text-reads text form h =
    let two = h.second_text ++ h.dot in
    let tail = 58 ∷ (side_letter (other h.listed) ++ two) in
    let one = h.first_text ++ tail in
    let whole = side_letter form.turn ++ (58 ∷ (side_letter h.listed ++ one)) in
    let total = length whole in
    let size : total ≡ 3 + length one = omega (
      arith,
      length-append (side_letter form.turn) (58 ∷ (side_letter h.listed ++ one)),
      length-append (side_letter h.listed) one,
      one_letter form.turn,
      one_letter h.listed,
    ) in
    let later : total ≡ 3 + length h.first_text + 2 + length two =
    omega (
      arith,
      size,
      length-append h.first_text tail,
      length-append (side_letter (other h.listed)) two,
      one_letter (other h.listed),
    ) in
    let first = list-read total h.listed tail (colon-tail (side_letter (other h.listed) ++ two)) [] 3 h.first
    h.first_text size h.first_is in
    let second = list-read total (other h.listed) h.dot (dot-tail h.dot h.dot_is) h.first (3 + length h.first_text + 2)
    h.second h.second_text later h.second_is in
    let header : Header = record { turn = form.turn; first = h.listed; rest = one } in
    let list : Items = record { items = h.first; rest = tail } in
    let end : Items = record { items = h.first ++ h.second; rest = h.dot } in
    let made : FenForm = record { turn = form.turn; items = h.first ++ h.second } in
    let read = lists header (Ok made) (header-read form.turn h.listed one)
    (both list two (Ok made) first (between-read total h.listed two) (ended end second (dot-end total h.dot h.dot_is)))
    in
    subst (λ t. ReadsForm t (Ok form)) (sym h.text_is)
    (subst (λ (xs : List Item). ReadsForm whole (Ok (record { turn = form.turn; items = xs }))) (sym h.items) read)
