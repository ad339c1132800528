-- Equality of shogi positions: the same board, the same hands and the same side to move.
use Rattle.std.proofs.Common.{ℕ, Bool, true, false, ◌&&◌, nat_eq, List, [], ◌∷◌}
use Rattle.std.specs.FinMap as map
use denote.Enum.Bare.{sameb}
use Rattle.squares.specs.contracts.shogi.piece.Role.{the_type}
use Rattle.squares.specs.declared.shogi.piece.Role.{Role}
use Rattle.squares.specs.declared.shogi.piece.SPiece.{SPiece}
use Rattle.squares.specs.declared.shogi.hand.Hand.{Hand}
use Rattle.squares.specs.declared.shogi.hand.Hands.{Hands}
use Rattle.squares.specs.Sides.{same_side}
use Rattle.squares.specs.ShogiBoard.{ShogiBoard}
use Rattle.squares.specs.ShogiSets.{ShogiPosition}

-- Whether two roles are equal, as by `==`.
abbrev pub same_role : Role → Role → Bool
same_role a b = sameb the_type a b

-- Whether two pieces have the same side and the same role.
abbrev pub same_shogi_piece : SPiece → SPiece → Bool
same_shogi_piece a b = same_side a.side b.side && same_role a.role b.role

-- Whether two entries have the same square and the same piece.
abbrev pub same_shogi_entry : ℕ × SPiece → ℕ × SPiece → Bool
same_shogi_entry a b = nat_eq a.0 b.0 && same_shogi_piece a.1 b.1

-- Whether two lists have the same entries in the same order.
abbrev pub same_shogi_entries : List (ℕ × SPiece) → List (ℕ × SPiece) → Bool
same_shogi_entries [] [] = true
same_shogi_entries [] (b ∷ ys) = false
same_shogi_entries (a ∷ xs) [] = false
same_shogi_entries (a ∷ xs) (b ∷ ys) = same_shogi_entry a b && same_shogi_entries xs ys

-- Whether two boards have the same pieces on the same squares.
unfoldable pub same_shogi_board : ShogiBoard → ShogiBoard → Bool
same_shogi_board a b = same_shogi_entries (map.entries a) (map.entries b)

-- Whether two hands hold the same number of each kind.
unfoldable pub same_hand : Hand → Hand → Bool
same_hand a b =
    nat_eq a.rook b.rook &&
    (nat_eq a.bishop b.bishop &&
    (nat_eq a.gold b.gold &&
    (nat_eq a.silver b.silver && (nat_eq a.knight b.knight && (nat_eq a.lance b.lance && nat_eq a.pawn b.pawn)))))

-- Whether each side holds the same number of each kind in both.
abbrev pub same_hands : Hands → Hands → Bool
same_hands a b = same_hand a.first b.first && same_hand a.second b.second

-- Whether two positions have the same side to move, hands and board.
unfoldable pub same_shogi_position : ShogiPosition → ShogiPosition → Bool
same_shogi_position p q = same_side p.turn q.turn && (same_hands p.hands q.hands && same_shogi_board p.board q.board)
