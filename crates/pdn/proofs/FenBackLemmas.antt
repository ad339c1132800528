-- What is written for a position is read as its items.
use Rattle.std.proofs.Common.{◌≡◌, ℕ, ◌+◌, inl, inr, Bool, true, false, cond, List, [], ◌∷◌, ◌++◌, length, Option, Some}
use Rattle.std.proofs.Common.{None, Ok, refl, sym, ap, ◌∙◌, append_assoc, append-nil}
use Rattle.std.specs.Prelude.{map as list_map, codes}
use Rattle.std.specs.List.{cons_option, filter_map, join_with_byte}
use Rattle.std.specs.FinMap as map
use Rattle.squares.specs.declared.sides.Side.{Side}
use Rattle.squares.specs.declared.sides.Side.TheVariants.{First, Second}
use Rattle.squares.specs.declared.draughts.piece.DPiece.{DPiece}
use Rattle.squares.specs.Sides.{same_side}
use Rattle.squares.specs.DraughtsBoard.{Board, Position}
use Rattle.squares.specs.internal.DraughtsGeometry.{OnBoard}
use Rattle.pdn.specs.declared.items.Item.{Item}
use Rattle.pdn.specs.SquareText.{square_text}
use Rattle.pdn.specs.FenText.{side_letter, piece_text, piece_of, pieces_on, all_squares, pieces_text, fen_text}
use Rattle.pdn.specs.FenForm.{ReadsForm}
use Rattle.pdn.specs.internal.FenGrammar.{IsItemText, AreItemsText}
use Rattle.pdn.proofs.FenReadLemmas.{lists-form, text-reads}

-- the squares of a side's pieces, and which of these are kings
abbrev pub Entry : Type 0
Entry = ℕ × Bool

abbrev pub own : Side → ℕ → Option DPiece → Option Entry
own side n None = None
own side n (Some q) = cond (same_side q.side side) (Some (n, q.king)) None

abbrev pub own_on : Side → Board → List ℕ → List Entry
own_on side board [] = []
own_on side board (n ∷ ns) = cons_option (own side n (map.get board n)) (own_on side board ns)

abbrev pub entry_text : Entry → List ℕ
entry_text e = cond e.1 (75 ∷ square_text e.0) (square_text e.0)

abbrev pub entries_text : List Entry → List ℕ
entries_text es = join_with_byte 44 (list_map entry_text es)

one_more : (side : Side) (n : ℕ) (o : Option DPiece) (es : List Entry)
    → cons_option (piece_of side n o) (list_map entry_text es) ≡ list_map entry_text (cons_option (own side n o) es)
one_more side n None es = refl
one_more side n (Some q) es =
    elim (same_side q.side side) as (λ b. cons_option (cond b (Some (piece_text n q)) None) (list_map entry_text es)
    ≡ list_map entry_text (cons_option (cond b (Some (n, q.king)) None) es)) [ true ↦ refl | false ↦ refl ]

texts-own : (side : Side) (board : Board) (ns : List ℕ)
    → filter_map (λ n. piece_of side n (map.get board n)) ns ≡ list_map entry_text (own_on side board ns)
texts-own side board [] = refl
texts-own side board (n ∷ ns) =
    ap (cons_option (piece_of side n (map.get board n))) (texts-own side board ns)
    ∙ one_more side n (map.get board n) (own_on side board ns)

pub pieces_on-entries : (side : Side) (board : Board) (ns : List ℕ)
    → pieces_on side board ns ≡ entries_text (own_on side board ns)
unfolding pieces_on
pieces_on-entries side board ns = ap (join_with_byte 44) (texts-own side board ns)

-- an item for each entry
abbrev pub IsItemOf : Side → Entry → Item → Type 0
IsItemOf side e i = (i.from ≡ e.0) × (i.to ≡ e.0) × (i.piece ≡ record { side = side; king = e.1 })

abbrev pub AllOn : List Entry → Type 0
AllOn [] = Unit {0}
AllOn (e ∷ es) = OnBoard e.0 × AllOn es

abbrev pub item_at : ℕ → ℕ → Side → Bool → Item
item_at at n side king = record { at = at; from = n; to = n; piece = record { side = side; king = king } }

-- the items of a list of entries that stands after so many bytes
abbrev pub items_at : Side → ℕ → List Entry → List Item
items_at side base [] = []
items_at side base (e ∷ es) =
    item_at base e.0 side e.1 ∷ items_at side (base + length (entry_text e) + 1) es

entry-item : (side : Side) (base n : ℕ) (king : Bool) → OnBoard n
    → IsItemText side (item_at base n side king) (entry_text (n, king))
entry-item side base n true on = inr (inl (square_text n, (on, inl refl), refl, refl, refl))
entry-item side base n false on = inl ((on, inl refl), refl, refl)

entries-items : (side : Side) (base : ℕ) (es : List Entry) → AllOn es
    → AreItemsText side base (items_at side base es) (entries_text es)
entries-items side base [] on = refl
entries-items side base (e ∷ []) on = (refl, entry-item side base e.0 e.1 on.0)
entries-items side base (e ∷ f ∷ es) on = (
  entry_text e,
  entries_text (f ∷ es),
  refl,
  entry-item side base e.0 e.1 on.0,
  entries-items side (base + length (entry_text e) + 1) (f ∷ es) on.1,
  refl,
)

-- the form of a written text
pub reads-back : (turn : Side) (white black : List Entry) → AllOn white → AllOn black
    → ReadsForm (side_letter turn ++ (58 ∷ 87 ∷ (entries_text white ++ (58 ∷ 66 ∷ (entries_text black ++ [])))))
    (Ok (record {
      turn = turn;
      items = items_at First 3 white ++ items_at Second (3 + length (entries_text white) + 2) black;
    }))
reads-back turn white black on_white on_black =
    let base = 3 + length (entries_text white) + 2 in
    text-reads (side_letter turn ++ (58 ∷ 87 ∷ (entries_text white ++ (58 ∷ 66 ∷ (entries_text black ++ [])))))
    (record { turn = turn; items = items_at First 3 white ++ items_at Second base black })
    (lists-form turn First (items_at First 3 white) (items_at Second base black) (entries_text white)
    (entries_text black) [] (entries-items First 3 white on_white) (entries-items Second base black on_black)
    (inl refl))

regroup : (a b c d e : List ℕ) → (((a ++ b) ++ c) ++ d) ++ e ≡ a ++ (b ++ (c ++ (d ++ e)))
regroup a b c d e = simp append_assoc

-- the written text by its entries
pub fen_text-entries : (p : Position) → fen_text p ≡ side_letter p.turn
    ++
    (58 ∷ 87
    ∷
    (entries_text (own_on First p.board all_squares)
    ++ (58 ∷ 66 ∷ (entries_text (own_on Second p.board all_squares) ++ []))))
unfolding fen_text
fen_text-entries p =
    let white = pieces_on-entries First p.board all_squares in
    let black = pieces_on-entries Second p.board all_squares
    ∙ sym (append-nil (entries_text (own_on Second p.board all_squares))) in
    regroup (side_letter p.turn) (codes ":W") (pieces_text First p.board) (codes ":B") (pieces_text Second p.board)
    ∙ (λ i. side_letter p.turn ++ (58 ∷ 87 ∷ (white i ++ (58 ∷ 66 ∷ black i))))
