-- The move list: steps by start, end and not promoting first; then drops by kind and square.
use Rattle.std.specs.Prelude.{ℕ, if◌then◌else◌, List, [], ◌∷◌}
use Rattle.std.specs.Ordering.{nat_cmp}
use Rattle.std.specs.Cmp.Lexicographic.{slice_cmp}
use Rattle.std.specs.declared.cmp.Ordering.{Ordering}
use Rattle.squares.specs.declared.shogi.piece.HandKind.{HandKind}
use Rattle.squares.specs.declared.shogi.piece.HandKind.TheVariants as in_hand
use Rattle.squares.specs.declared.shogi.moves.SMove.{SMove}
use Rattle.squares.specs.declared.shogi.moves.SMove.TheVariants.{Step, Drop}

-- The order of the kinds in which drops are listed.
abbrev pub place : HandKind → ℕ
place in_hand.Rook = 0
place in_hand.Bishop = 1
place in_hand.Gold = 2
place in_hand.Silver = 3
place in_hand.Knight = 4
place in_hand.Lance = 5
place in_hand.Pawn = 6

-- The sort key of a move.
abbrev pub key_of : SMove → List ℕ
key_of (Step from to promote) = 0 ∷ from ∷ to ∷ (if promote then 1 else 0) ∷ []
key_of (Drop kind to) = 1 ∷ place kind ∷ to ∷ []

-- The order of two moves in the list.
abbrev pub move_cmp : SMove → SMove → Ordering
move_cmp a b = slice_cmp nat_cmp (key_of a) (key_of b)
