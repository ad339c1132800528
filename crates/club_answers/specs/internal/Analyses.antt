-- Analyses as the code makes them. No promise of the program rests on these definitions.
use Rattle.std.specs.Prelude.{◌≡◌, ◌≤◌, ◌<◌, ℕ, List, length, take, Bool, true, false, Option, Some, None}
use Rattle.club_rules.specs.GameRules.{GameRules}
use Rattle.club_rules.specs.declared.names.GameKind.{GameKind}
use Rattle.club_rules.specs.declared.names.GameKind.TheVariants.{Draughts, Shogi}
use Rattle.club_core.specs.Game.{Game, moves_of}
use Rattle.club_analysis.specs.Tried.{LineShown}
use Rattle.club_analysis.specs.declared.lines.Line.{Line}
use Rattle.club_answers.specs.Analyses.{are_few}

abbrev pub same_kind : GameKind → GameKind → Bool
same_kind Draughts Draughts = true
same_kind Draughts Shogi = false
same_kind Shogi Draughts = false
same_kind Shogi Shogi = true

-- the texts are few, and this is shown
abbrev pub IsFew : List (List ℕ) → (LineShown → Type 0) → LineShown → Type 0
IsFew texts IsShown shown = (are_few texts ≡ true) × IsShown shown

-- the line is the game's after so many plies, if it has so many
abbrev pub IsLineAt : {R P M E T : Type 0} → GameRules P M E T → Game M → ℕ → Option (Line R P M E T) → Type 0
IsLineAt rules game ply None = length game.entries < ply
IsLineAt rules game ply (Some line) = (ply ≤ length game.entries) × (line.moves.items ≡ take ply (moves_of game))
