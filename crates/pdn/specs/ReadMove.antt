-- The move that a text denotes in a position.
use Rattle.std.specs.Prelude.{◌≡◌, ◌≢◌, ℕ, List, [], ◌∷◌, ◌++◌, Result, Ok, Err}
use Rattle.squares.specs.declared.draughts.moves.DMove.{DMove}
use Rattle.squares.specs.DraughtsBoard.{Position}
use Rattle.draughts_moves.specs.declared.checking.Illegal.{Illegal}
use Rattle.draughts_moves.specs.declared.checking.Illegal.TheVariants.{NoSuchMove, MustCapture, NotLongest}
use Rattle.draughts_moves.specs.Capture.{Capture}
use Rattle.draughts_moves.specs.Legal.{IsShortCapture, Legal}
use Rattle.draughts_moves.specs.Listing.{step_to}
use Rattle.draughts_moves.proofs.Proved.{check-answer}
use Rattle.pdn.specs.declared.faults.MoveFault.{MoveFault}
use Rattle.pdn.specs.declared.faults.MoveFault.TheVariants as fault
use Rattle.pdn.specs.Forms.{Form, quiet, capture, read_form}
use Rattle.pdn.specs.Subsequence.{IsSubsequence}

-- The text of a capture matches a move if both have the same origin and destination, and some route of the move lands
-- on the squares in between, in order.
pub record Fits (p : Position) (from : ℕ) (middle : List ℕ) (to : ℕ) (m : DMove) : Type 0 where
  pub leaves : m.from ≡ from
  pub comes : m.to ≡ to
  pub before : List ℕ
  pub route : Capture p m.from (before ++ to ∷ []) m.taken m.to
  pub passes : IsSubsequence middle before

-- no legal move matches
abbrev pub NoneFits : Position → ℕ → List ℕ → ℕ → Type 0
NoneFits p from middle to = (m : DMove) → Legal p m → Fits p from middle to m → ⊥

-- a capture matches that takes fewer pieces than another would
abbrev pub ShortFits : Position → ℕ → List ℕ → ℕ → Type 0
ShortFits p from middle to = (m : DMove) × IsShortCapture p m × Fits p from middle to m

-- A quiet text denotes its move, which captures nothing. A capture's text denotes the only legal move that it matches.
abbrev pub StandsFor : Position → Form → DMove → Type 0
StandsFor p (quiet from to) m = (m ≡ step_to from to) × Legal p m
StandsFor p (capture from middle to) m = Legal p m × Fits p from middle to m
    × ((n : DMove) → Legal p n → Fits p from middle to n → n ≡ m)

-- two legal moves match
abbrev pub IsAmbiguous : Position → Form → Type 0
IsAmbiguous p (quiet from to) = ⊥
IsAmbiguous p (capture from middle to) = (m : DMove) × (n : DMove) × Legal p m × Fits p from middle to m × Legal p n
    × Fits p from middle to n × (m ≢ n)

-- the reason why a text denotes no legal move
abbrev pub IsRefused : Position → Form → Illegal → Type 0
IsRefused p (quiet from to) cause = (check-answer p (step_to from to)).value ≡ Err cause
IsRefused p (capture from middle to) NoSuchMove = NoneFits p from middle to × (ShortFits p from middle to → ⊥)
IsRefused p (capture from middle to) MustCapture = ⊥
IsRefused p (capture from middle to) NotLongest = NoneFits p from middle to × ShortFits p from middle to

-- the text is read as the move
abbrev pub IsRead : Position → List ℕ → DMove → Type 0
IsRead p text m = (form : Form) × (read_form text ≡ Ok form) × StandsFor p form m

-- The faults of a text. The offset of a syntax error is that of the parser.
abbrev pub HasReadFault : Position → List ℕ → MoveFault → Type 0
HasReadFault p text fault.Memory = Unit {0}
HasReadFault p text (fault.BadText offset) = read_form text ≡ Err offset
HasReadFault p text fault.Ambiguous = (form : Form) × (read_form text ≡ Ok form) × IsAmbiguous p form
HasReadFault p text (fault.Illegal cause) = (form : Form) × (read_form text ≡ Ok form) × IsRefused p form cause

-- The result of reading a move: the move, or the fault of its text.
abbrev pub Reading : Type 0
Reading = Result DMove MoveFault

-- The result of reading a text: the move that is read, or a fault other than out of memory.
abbrev pub IsReadingOf : Position → List ℕ → Reading → Type 0
IsReadingOf p text (Ok m) = IsRead p text m
IsReadingOf p text (Err e) = HasReadFault p text e × (e ≢ fault.Memory)
