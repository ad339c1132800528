-- The pieces of a side, written square by square.
use Rattle.std.proofs.Common.{◌≡◌, ℕ, List, [], ◌∷◌, ◌++◌, Bool, true, false, cond, Option, Some, None}
use Rattle.std.proofs.Common.{refl, sym, ap, ◌∙◌, append_assoc, append-nil}
use Rattle.std.specs.Prelude.{filter}
use Rattle.std.specs.List.{cons_option, filter_map, join_with_byte}
use Rattle.std.specs.FinMap as map
use Rattle.std.specs.FinSet as set
use Rattle.squares.specs.declared.draughts.piece.DPiece.{DPiece}
use Rattle.squares.specs.declared.sides.Side.{Side}
use Rattle.squares.specs.DraughtsBoard.{Board}
use Rattle.squares.specs.internal.DraughtsBoard.{is_of}
use Rattle.squares.specs.DraughtsSets.{Squares, ascending}
use Rattle.squares.specs.Sides.{same_side}
use Rattle.pdn.specs.FenText.{piece_of, piece_text, pieces_text, pieces_on, all_squares}
use Rattle.pdn.specs.internal.FenText.{next_text}

-- parts after a comma each, but the first of all
abbrev pub parted : Bool → List (List ℕ) → List ℕ
parted is_first [] = []
parted is_first (t ∷ ts) = next_text is_first t ++ parted false ts

parted-joins : (ts : List (List ℕ)) → parted true ts ≡ join_with_byte 44 ts
parted-joins [] = refl
parted-joins (t ∷ []) = append-nil t
parted-joins (t ∷ u ∷ us) = ap (λ r. t ++ (44 ∷ r)) (parted-joins (u ∷ us))

-- the texts of the pieces of a side on squares
abbrev pub items_on : Side → Board → List ℕ → List (List ℕ)
items_on side board squares = filter_map (λ square. piece_of side square (map.get board square)) squares

filter_map-filter : (f : ℕ → Option (List ℕ)) (p : ℕ → Bool) (ns : List ℕ) → ((n : ℕ) → p n ≡ false → f n ≡ None)
    → filter_map f (filter p ns) ≡ filter_map f ns
filter_map-filter f p [] none = refl
filter_map-filter f p (n ∷ ns) none = elim (p n) as (λ b. p n ≡ b
    → filter_map f (cond b (n ∷ filter p ns) (filter p ns)) ≡ cons_option (f n) (filter_map f ns)) [
      | true ↦ λ is. ap (cons_option (f n)) (filter_map-filter f p ns none)
      | false ↦ λ is. filter_map-filter f p ns none ∙ ap (λ o. cons_option o (filter_map f ns)) (sym (none n is))
    ] refl

no_piece : (side : Side) (n : ℕ) (o : Option DPiece) → is_of side o ≡ false → piece_of side n o ≡ None
no_piece side n None none = refl
no_piece side n (Some piece) none = ap (λ b. cond b (Some (piece_text n piece)) None) none

-- the squares of the side's pieces are enough
pub parted-all : (side : Side) (board : Board) (s : Squares)
    → ((n : ℕ) → set.contains s n ≡ is_of side (map.get board n))
    → parted true (items_on side board (ascending s)) ≡ pieces_text side board
unfolding ascending pieces_on all_squares
parted-all side board s is = parted-joins (items_on side board (ascending s))
    ∙ ap (join_with_byte 44) (filter_map-filter (λ n. piece_of side n (map.get board n)) (set.contains s) all_squares
    (λ n none. no_piece side n (map.get board n) (sym (is n) ∙ none)))
