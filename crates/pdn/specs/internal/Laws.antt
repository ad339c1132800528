-- Properties of the writers and the readers. No promise of the program rests on these definitions.
use Rattle.std.specs.Prelude.{◌≡◌, ◌≢◌, ◌↔◌, ℕ, List, Ok, Err, IsSome}
use Rattle.std.specs.FinMap as map
use Rattle.squares.specs.internal.DraughtsGeometry.{OnBoard}
use Rattle.squares.specs.declared.draughts.moves.DMove.{DMove}
use Rattle.squares.specs.DraughtsBoard.{Position}
use Rattle.draughts_moves.specs.Legal.{Legal}
use Rattle.pdn.specs.declared.faults.FenFault.{FenFault}
use Rattle.pdn.specs.declared.faults.FenFault.TheVariants as fen_fault
use Rattle.pdn.specs.declared.faults.MoveFault.{MoveFault}
use Rattle.pdn.specs.declared.faults.MoveFault.TheVariants as fault
use Rattle.pdn.specs.MoveText.{IsMoveText}
use Rattle.pdn.specs.MoveValue.{move_text}
use Rattle.pdn.specs.internal.MoveValue.{move_reading}
use Rattle.pdn.specs.FenText.{fen_text}
use Rattle.pdn.specs.ReadFen.{IsFen}
use Rattle.pdn.specs.internal.ReadFen.{HasFenFault}
use Rattle.pdn.specs.ReadMove.{IsRead, HasReadFault}

-- The text written for a legal move is read as that move.
abbrev pub ReadsBack : Type 0
ReadsBack = (p : Position) (m : DMove) (text : List ℕ) → Legal p m → IsMoveText p m text → IsRead p text m

-- A text that is read as a move is read as no other, and its only possible fault is out of memory.
abbrev pub ReadsOneMove : Type 0
ReadsOneMove = (p : Position) (text : List ℕ) (m : DMove) → IsRead p text m → ((n : DMove) → IsRead p text n → n ≡ m)
    × ((e : MoveFault) → HasReadFault p text e → e ≡ fault.Memory)

-- The writing function returns the only text of a legal move.
abbrev pub WritesOneText : Type 0
WritesOneText = (p : Position) (m : DMove) → Legal p m → IsMoveText p m (move_text p m)
    × ((text : List ℕ) → IsMoveText p m text → text ≡ move_text p m)

-- The reading function returns the move of a text, or its only fault except out of memory.
abbrev pub ReadsByRules : Type 0
ReadsByRules = (p : Position) (text : List ℕ) → ((m : DMove) → (move_reading p text ≡ Ok m) ↔ IsRead p text m)
    × ((e : MoveFault) → (move_reading p text ≡ Err e) ↔ (HasReadFault p text e × (e ≢ fault.Memory)))

-- A text that is read as a position is read as no other, and its only possible fault is out of memory.
abbrev pub ReadsOnePosition : Type 0
ReadsOnePosition = (p : Position) (text : List ℕ) → IsFen text p → ((q : Position) → IsFen text q → q ≡ p)
    × ((e : FenFault) → HasFenFault text e → e ≡ fen_fault.Memory)

-- all pieces are on squares of the board
abbrev pub IsOnBoard : Position → Type 0
IsOnBoard p = (n : ℕ) → IsSome (map.get p.board n) → OnBoard n

-- The text written for a position is read as that position.
abbrev pub ReadsPositionBack : Type 0
ReadsPositionBack = (p : Position) → IsOnBoard p → IsFen (fen_text p) p
