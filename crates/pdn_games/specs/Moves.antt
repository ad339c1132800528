-- The moves that the texts of a game denote, each in its position.
use Rattle.std.specs.Prelude.{◌≡◌, ℕ, ◌+◌, List, [], ◌∷◌, ◌++◌, length, None, IsSome}
use Rattle.squares.specs.declared.draughts.moves.DMove.{DMove}
use Rattle.squares.specs.DraughtsBoard.{Position}
use Rattle.squares.specs.DraughtsOpening.{opening}
use Rattle.draughts_moves.specs.Legal.{play}
use Rattle.draughts_draws.specs.Line.{last_position}
use Rattle.draughts_draws.specs.Ends.{end_of}
use Rattle.draughts_draws.specs.Faults.{IsPlayed}
use Rattle.pdn.specs.declared.faults.MoveFault.TheVariants as move_fault
use Rattle.pdn.specs.ReadMove.{IsRead, HasReadFault}
use Rattle.pdn_games.specs.declared.faults.PdnFault.{PdnFault}
use Rattle.pdn_games.specs.declared.faults.PdnFault.TheVariants as fault

-- the texts denote the moves, each in its position
abbrev pub MeanAll : Position → List (List ℕ) → List DMove → Type 0
MeanAll p [] [] = Unit {0}
MeanAll p [] (m ∷ ms) = ⊥
MeanAll p (text ∷ texts) [] = ⊥
MeanAll p (text ∷ texts) (m ∷ ms) = IsRead p text m × MeanAll (play p m) texts ms

-- The texts denote these moves of a game from the initial position: each is legal, and none follows the end of the
-- game.
pub record AreMoves (texts : List (List ℕ)) (ms : List DMove) : Type 0 where
  pub mean : MeanAll opening texts ms
  pub played : IsPlayed opening ms (length ms)

-- The next text after these moves is refused: the game has ended, or the text is ambiguous or denotes no legal move.
abbrev pub RefusesNext : List DMove → List ℕ → PdnFault → Type 0
RefusesNext ms text (fault.AfterEnd ply) = (ply ≡ length ms + 1) × IsSome (end_of opening ms)
RefusesNext ms text (fault.Ambiguous ply) = (ply ≡ length ms + 1) × (end_of opening ms ≡ None)
    × HasReadFault (last_position opening ms) text move_fault.Ambiguous
RefusesNext ms text (fault.Illegal ply cause) = (ply ≡ length ms + 1) × (end_of opening ms ≡ None)
    × HasReadFault (last_position opening ms) text (move_fault.Illegal cause)
RefusesNext ms text _ = ⊥

-- one of the texts is refused, and those before it denote moves of a game
pub record RefusesMove (texts : List (List ℕ)) (f : PdnFault) : Type 0 where
  pub before : List (List ℕ)
  pub refused : List ℕ
  pub after : List (List ℕ)
  pub parts : texts ≡ before ++ refused ∷ after
  pub moves : List DMove
  pub played : AreMoves before moves
  pub refuses : RefusesNext moves refused f
