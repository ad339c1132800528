-- A diagram determines the position except the side to move; a BOD diagram determines that, too. No promise of the
-- program rests on these definitions.
use Rattle.std.specs.Prelude.{◌≡◌, ◌<◌, ◌≤◌, ◌⊎◌, ℕ, None}
use Rattle.std.specs.FinMap as map
use Rattle.squares.specs.DraughtsBoard.{Board, Position}
use Rattle.squares.specs.ShogiBoard.{ShogiBoard}
use Rattle.squares.specs.ShogiSets.{ShogiPosition}
use Rattle.squares.specs.internal.ShogiSets.{IsShogiPosition}
use Rattle.diagrams.specs.BodDiagram.{bod_text}
use Rattle.diagrams.specs.DraughtsDiagram.{diagram_text}
use Rattle.diagrams.specs.ShogiDiagram.{shogi_text}

-- Pieces are only on squares 1 to 50.
abbrev pub KeepsToSquares : Board → Type 0
KeepsToSquares board = (n : ℕ) → (n < 1) ⊎ (50 < n) → map.get board n ≡ None

-- Draughts positions with the same diagram and the same side to move are equal.
abbrev pub TellsDraughts : Type 0
TellsDraughts =
    (p q : Position) → KeepsToSquares p.board → KeepsToSquares q.board
    → diagram_text p.board ≡ diagram_text q.board → p.turn ≡ q.turn → p ≡ q

-- Pieces are only on squares 0 to 80.
abbrev pub KeepsToShogiSquares : ShogiBoard → Type 0
KeepsToShogiSquares board = (n : ℕ) → 81 ≤ n → map.get board n ≡ None

-- Shogi positions with the same diagram and the same side to move are equal.
abbrev pub TellsShogi : Type 0
TellsShogi =
    (p q : ShogiPosition) → IsShogiPosition p.board p.hands → IsShogiPosition q.board q.hands
    → KeepsToShogiSquares p.board → KeepsToShogiSquares q.board
    → shogi_text p ≡ shogi_text q → p.turn ≡ q.turn → p ≡ q

-- Shogi positions with the same BOD diagram are equal.
abbrev pub TellsBod : Type 0
TellsBod =
    (p q : ShogiPosition) → IsShogiPosition p.board p.hands → IsShogiPosition q.board q.hands
    → KeepsToShogiSquares p.board → KeepsToShogiSquares q.board
    → bod_text p ≡ bod_text q → p ≡ q
