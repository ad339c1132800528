-- The state of a replay. No promise of the program rests on these definitions.
use Rattle.std.specs.Prelude.{◌≡◌, ◌⊎◌, ℕ, List, [], ◌∷◌, ◌++◌}
use Rattle.squares.specs.declared.draughts.moves.DMove.{DMove}
use Rattle.squares.specs.DraughtsOpening.{opening}
use Rattle.draughts_draws.specs.Line.{last_position}
use Rattle.draughts_draws.specs.internal.Counting.{Follows}
use Rattle.game_history.specs.declared.faults.LineFault.{LineFault}
use Rattle.game_history.specs.declared.faults.LineFault.TheVariants as line_fault
use Rattle.draughts_moves.specs.declared.checking.Illegal.{Illegal}
use Rattle.pdn.specs.Forms.{Form}
use Rattle.pdn.specs.internal.Grammar.{HasForm}
use Rattle.pdn.specs.ReadMove.{IsRead}
use Rattle.pdn.specs.declared.faults.MoveFault.{MoveFault}
use Rattle.pdn.specs.declared.faults.MoveFault.TheVariants as move_fault
use Rattle.pdn_games.specs.declared.faults.PdnFault.{PdnFault}
use Rattle.pdn_games.specs.declared.faults.PdnFault.TheVariants as fault
use Rattle.pdn_games.specs.declared.replay.PdnReplay.{PdnReplay}
use Rattle.pdn_games.specs.Tokens.{Token, tag, number, move_by, result, PlacedToken}
use Rattle.pdn_games.specs.Contents.{texts_in}
use Rattle.pdn_games.specs.Moves.{MeanAll, RefusesNext}

-- a text with the form of a move
abbrev pub IsMoveForm : List ℕ → Type 0
IsMoveForm text = (form : Form) × HasForm text form

-- a move token has the form of a move
abbrev pub HasItsForm : Token → Type 0
HasItsForm (tag name value) = Unit {0}
HasItsForm number = Unit {0}
HasItsForm (move_by text) = IsMoveForm text
HasItsForm (result w) = Unit {0}

abbrev pub HaveForms : List PlacedToken → Type 0
HaveForms [] = Unit {0}
HaveForms (placed ∷ more) = HasItsForm placed.token × HaveForms more

-- The position and the repetition counts of a replay are those of its moves.
pub record IsConsistent (replay : PdnReplay) : Type 0 where
  pub follows : Follows opening replay.moves.items replay.counts
  pub position : replay.position ≡ last_position opening replay.moves.items

-- the moves are extended by one that the text denotes
pub record GrowsBy (text : List ℕ) (old new : List DMove) : Type 0 where
  pub made : DMove
  pub grown : new ≡ old ++ made ∷ []
  pub means : IsRead (last_position opening old) text made

-- if texts denote the old moves, then those texts with this token denote the new ones
abbrev pub GrowsWith : Token → List DMove → List DMove → Type 0
GrowsWith t old new = (texts : List (List ℕ)) → MeanAll opening texts old → MeanAll opening (texts ++ texts_in t []) new

-- out of memory, or the text is refused
abbrev pub RefusesText : List DMove → List ℕ → PdnFault → Type 0
RefusesText ms text f = (f ≡ fault.Memory) ⊎ RefusesNext ms text f

-- out of memory, or the text of the token is refused
abbrev pub RefusesIn : List DMove → Token → PdnFault → Type 0
RefusesIn ms t f = (f ≡ fault.Memory) ⊎ ((text : List ℕ) × (texts_in t [] ≡ text ∷ []) × RefusesNext ms text f)

-- the fault of a move's text, with its ply
abbrev pub at_ply : ℕ → MoveFault → PdnFault
at_ply ply move_fault.Memory = fault.Memory
at_ply ply (move_fault.BadText offset) = fault.BadText offset
at_ply ply move_fault.Ambiguous = fault.Ambiguous ply
at_ply ply (move_fault.Illegal cause) = fault.Illegal ply cause

abbrev pub fault_of : LineFault Illegal → PdnFault
fault_of line_fault.Memory = fault.Memory
fault_of (line_fault.Illegal ply cause) = fault.Illegal ply cause
fault_of (line_fault.AfterEnd ply) = fault.AfterEnd ply
