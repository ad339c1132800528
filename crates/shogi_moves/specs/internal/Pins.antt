-- Pieces that can leave their squares without exposing a king. No promise of the program rests on these definitions.
use Rattle.std.specs.Prelude.{◌≡◌, ℕ, Bool, false, not, ◌&&◌, Option, Some}
use Rattle.std.specs.FinMap as map
use Rattle.std.specs.FinSet as set
use Rattle.masks.specs.Words.{Numbers}
use Rattle.squares.specs.declared.sides.Side.{Side}
use Rattle.squares.specs.declared.shogi.moves.SMove.{SMove}
use Rattle.squares.specs.declared.shogi.moves.SMove.TheVariants.{Step, Drop}
use Rattle.squares.specs.ShogiBoard.{ShogiBoard}
use Rattle.squares.specs.internal.ShogiSets.{holds_king}
use Rattle.squares.specs.internal.ShogiWords.{is_side}
use Rattle.shogi_moves.specs.declared.heading.MoveDirection.{MoveDirection}
use Rattle.shogi_moves.specs.internal.Facing.{faced_along}
use Rattle.shogi_moves.specs.internal.Search.{king_attacked}

-- Whether the square holds a piece of the side other than a king, and without it no king of the side is attacked.
unfoldable pub is_unpinned : ShogiBoard → Side → ℕ → Bool
is_unpinned board side n =
    (is_side side (map.get board n) && not (holds_king side (map.get board n)))
    && not (king_attacked (map.remove board n) side)

-- Whether a move is known to leave the king safe: a step of a piece that is not pinned, or a drop out of check.
abbrev pub exposes_nothing : Bool → Numbers → SMove → Bool
exposes_nothing checked unpinned (Step from to promote) = set.contains unpinned from
exposes_nothing checked unpinned (Drop kind to) = not checked

-- Only the removal of the piece on `pinned`, if any, can expose the square to an attack along a heading.
abbrev pub ExposesAlone : ShogiBoard → Side → ℕ → MoveDirection → Option ℕ → Type 0
ExposesAlone board side square heading pinned =
    (n : ℕ) → (pinned ≡ Some n → ⊥) → faced_along board side square heading ≡ false
    → faced_along (map.remove board n) side square heading ≡ false
