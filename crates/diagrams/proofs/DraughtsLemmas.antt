-- What is read of a diagram at the places of the squares.
use Rattle.std.proofs.Common.{◌≡◌, ℕ, zero, suc, ◌+◌, ◌*◌, ◌<◌, ◌==◌, List, get_or, Option}
use Rattle.std.proofs.Common.{Some, None, true, false, Bool, refl, sym, ap, ◌∙◌, arith, inl, inr, if◌then◌else◌}
use Rattle.std.specs.Prelude.{map as list_map}
use Rattle.std.specs.List.{range_with_len}
use Rattle.std.specs.Cmp.{nat_cmp_total}
use Rattle.std.specs.FinMap as map
use Rattle.std.specs.FinMap.{nat_cmp-IsAntisymmetric}
use Rattle.std.proofs.lemmas.Bool.{cases_lt}
use Rattle.std.proofs.lemmas.List.FromFn.{get_or-map-range_with_len}
use Rattle.squares.specs.declared.draughts.piece.DPiece.{DPiece}
use Rattle.squares.specs.declared.sides.Side.{Side}
use Rattle.squares.specs.declared.sides.Side.TheVariants.{First, Second}
use Rattle.squares.specs.DraughtsBoard.{Board}
use Rattle.squares.specs.DraughtsGeometry.{row_of, column_of}
use Rattle.diagrams.specs.DraughtsDiagram.{piece_letter, cell_sign, row_text, diagram_text}
use Rattle.diagrams.specs.internal.Laws.{KeepsToSquares, TellsDraughts}

-- what a sign stands for
abbrev read_sign : ℕ → Option DPiece
read_sign c =
    if c == 119 then Some (record { side = First; king = false }) else
    if c == 87 then Some (record { side = First; king = true }) else
    if c == 98 then Some (record { side = Second; king = false }) else
    if c == 66 then Some (record { side = Second; king = true }) else None

read_letter : (side : Side) (king : Bool)
    → read_sign (piece_letter side king) ≡ Some (record { side = side; king = king })
read_letter First false = refl
read_letter Second false = refl
read_letter _ _ = refl

read_cell : (cell : Option DPiece) → read_sign (cell_sign cell) ≡ cell
read_cell None = refl
read_cell (Some piece) = read_letter piece.side piece.king

-- where the sign of a square stands in the diagram: 37 characters a line
abbrev place : ℕ → ℕ
place n = 37 * row_of n + 3 * column_of n + 5

abbrev signs_of : List ℕ → List ℕ
signs_of text = list_map (λ n. get_or text (place n) 0) (range_with_len 1 50)

abbrev signs_on : Board → List ℕ
signs_on board = list_map (λ n. cell_sign (map.get board n)) (range_with_len 1 50)

signs_read : (board : Board) → signs_of (diagram_text board) ≡ signs_on board
unfolding diagram_text row_text
signs_read board = refl

module _ (a b : Board) (same : diagram_text a ≡ diagram_text b) where
  signs-same : signs_on a ≡ signs_on b
  signs-same = sym (signs_read a) ∙ ap signs_of same ∙ signs_read b

  sign-at : (board : Board) (k : ℕ) → k < 50 → get_or (signs_on board) k 0 ≡ cell_sign (map.get board (suc k))
  sign-at board k h =
      get_or-map-range_with_len (λ n. cell_sign (map.get board n)) 1 50 k (suc k) 0 h (omega arith)

  cell-same : (k : ℕ) → k < 50 → map.get a (suc k) ≡ map.get b (suc k)
  cell-same k h =
      sym (read_cell (map.get a (suc k)))
      ∙ ap read_sign (sym (sign-at a k h) ∙ ap (λ l. get_or l k 0) signs-same ∙ sign-at b k h)
      ∙ read_cell (map.get b (suc k))

  module _ (on_a : KeepsToSquares a) (on_b : KeepsToSquares b) where
    each : (n : ℕ) → map.get a n ≡ map.get b n
    each zero = on_a 0 (inl (omega arith)) ∙ sym (on_b 0 (inl (omega arith)))
    each (suc k) = elim (cases_lt k 50) [
      | inl less ↦ cell-same k less
      | inr past ↦ on_a (suc k) (inr (omega arith)) ∙ sym (on_b (suc k) (inr (omega arith)))
    ]

    pub board-same : a ≡ b
    board-same = map.same_map nat_cmp_total nat_cmp-IsAntisymmetric a b each

pub position-same : TellsDraughts
position-same p q on_p on_q same turn =
    let board = board-same p.board q.board same on_p on_q in
    λ i. record { board = board i; turn = turn i }
