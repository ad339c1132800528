-- The moves that written moves denote in their positions.
use Rattle.std.specs.Prelude.{◌≡◌, ◌≢◌, ℕ, Bool, true, Some, None, List, [], ◌∷◌}
use Rattle.std.specs.FinMap as map
use Rattle.squares.specs.declared.shogi.piece.Role.{Role}
use Rattle.squares.specs.declared.shogi.piece.SPiece.{SPiece}
use Rattle.squares.specs.declared.shogi.moves.SMove.{SMove}
use Rattle.squares.specs.declared.shogi.moves.SMove.TheVariants.{Step, Drop}
use Rattle.squares.specs.ShogiSets.{ShogiPosition}
use Rattle.shogi_moves.specs.Rules.{arrived, dropped_role, play}
use Rattle.csa.specs.declared.statements.WrittenMove.{WrittenMove}

-- The code of a step is that of the piece after it; the code before the step means that the piece does not promote.
pub record CodedAs (piece : SPiece) (promote : Bool) (code : Role) : Type 0 where
  pub after : code ≡ (arrived piece promote).role
  pub own : promote ≡ true → code ≢ piece.role

-- a step from a square with a piece that has this code after the step
abbrev pub StepsAs : ShogiPosition → ℕ → Bool → Role → Type 0
StepsAs p from promote code = (piece : SPiece) × (map.get p.board from ≡ Some piece) × CodedAs piece promote code

-- A written move denotes a move of the side to move: a step, or the drop of a piece with this code.
abbrev pub Means : ShogiPosition → WrittenMove → SMove → Type 0
Means p w (Step from to promote) = (w.side ≡ p.turn) × (w.to ≡ to) × (w.from ≡ Some from)
    × StepsAs p from promote w.role
Means p w (Drop kind to) = (w.side ≡ p.turn) × (w.to ≡ to) × (w.from ≡ None) × (w.role ≡ dropped_role kind)

-- the written moves denote the moves, each in its position
abbrev pub MeanAll : ShogiPosition → List WrittenMove → List SMove → Type 0
MeanAll p [] [] = Unit {0}
MeanAll p [] (m ∷ ms) = ⊥
MeanAll p (w ∷ ws) [] = ⊥
MeanAll p (w ∷ ws) (m ∷ ms) = Means p w m × MeanAll (play p m) ws ms
