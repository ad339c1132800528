-- Equality of draughts positions: the same pieces on the same squares, and the same side to move.
use Rattle.std.proofs.Common.{ℕ, Bool, true, false, ◌&&◌, not, nat_eq, List, [], ◌∷◌}
use Rattle.std.specs.FinMap as map
use Rattle.squares.specs.declared.draughts.piece.DPiece.{DPiece}
use Rattle.squares.specs.Sides.{same_side}
use Rattle.squares.specs.DraughtsBoard.{Position}

-- Whether both are kings or both are men.
abbrev pub same_rank : Bool → Bool → Bool
same_rank true b = b
same_rank false b = not b

-- Whether two pieces have the same side and are both kings or both men.
abbrev pub same_piece : DPiece → DPiece → Bool
same_piece a b = same_side a.side b.side && same_rank a.king b.king

-- Whether two entries have the same square and the same piece.
abbrev pub same_entry : ℕ × DPiece → ℕ × DPiece → Bool
same_entry a b = nat_eq a.0 b.0 && same_piece a.1 b.1

-- Whether two lists have the same entries in the same order.
abbrev pub same_entries : List (ℕ × DPiece) → List (ℕ × DPiece) → Bool
same_entries [] [] = true
same_entries [] (b ∷ ys) = false
same_entries (a ∷ xs) [] = false
same_entries (a ∷ xs) (b ∷ ys) = same_entry a b && same_entries xs ys

-- Whether two positions have the same pieces on the same squares and the same side to move.
unfoldable pub same_position : Position → Position → Bool
same_position p q = same_side p.turn q.turn && same_entries (map.entries p.board) (map.entries q.board)
