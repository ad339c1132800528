-- What the cells and the turn feed a hash, one after the other.
use Rattle.std.proofs.Common.{◌≡◌, ◌∙◌, ℕ, Option, List, length, fold, sym, ap}
use Rattle.std.specs.Prelude.{map}
use Rattle.std.specs.List.{range_with_len}
use Rattle.std.specs.FinMap.{get}
use Rattle.std.specs.Hash.{HashWrites, fed_then, fed_along, slice}
use Rattle.squares.specs.declared.draughts.piece.DPiece.{DPiece}
use Rattle.squares.specs.declared.sides.Side.{Side}
use Rattle.squares.specs.DraughtsBoard.{Position, board_of}
use Rattle.squares.specs.internal.DraughtsCells.{cells_back}
use Rattle.squares.specs.internal.DraughtsHash.{hash_writes}

module _ {S : Type 0} (write : S → List ℕ → S) (of_cell : Option DPiece → HashWrites)
    (of_turn : Side → HashWrites) where
  made : (cells : List (Option DPiece)) (turn : Side) (p : Position) → length cells ≡ 50
      → (let made : Position = record { board = board_of cells; turn = turn } in made) ≡ p →
      (slice of_cell cells ≡ slice of_cell (map (λ n. get p.board n) (range_with_len 1 50)))
      × (of_turn turn ≡ of_turn p.turn)
  made cells turn p many is = (
    ap (slice of_cell) (sym (cells_back cells many)
        ∙ ap (λ (q : Position). map (λ n. get q.board n) (range_with_len 1 50)) is),
    ap (λ (q : Position). of_turn q.turn) is,
  )

  pub hashed : (s t u : S) (cells : List (Option DPiece)) (turn : Side) (p : Position) → length cells ≡ 50
      → (let made : Position = record { board = board_of cells; turn = turn } in made) ≡ p →
      t ≡ fold write s (slice of_cell cells) → u ≡ fold write t (of_turn turn)
      → u ≡ fold write s (hash_writes of_cell of_turn p)
  unfolding hash_writes
  hashed s t u cells turn p many is first second =
      let w = made cells turn p many is in
      fed_then write s t u (slice of_cell (map (λ n. get p.board n) (range_with_len 1 50))) (of_turn p.turn)
      (fed_along write s t w.0 first) (fed_along write t u w.1 second)
