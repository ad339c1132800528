-- The writer and the reader of moves as functions of the position. No promise of the program rests on these
-- definitions.
use Rattle.std.specs.Prelude.{ℕ, ◌==◌, ◌&&◌, ◌||◌, not, Bool, List, [], ◌∷◌, Option, Some, None, Result, Ok, Err}
use Rattle.std.specs.Prelude.{if◌then◌else◌}
use Rattle.std.specs.List.{list_any, list_all, range_with_len}
use Rattle.squares.specs.declared.draughts.moves.DMove.{DMove}
use Rattle.squares.specs.DraughtsBoard.{Position}
use Rattle.draughts_moves.specs.declared.checking.Illegal.{Illegal}
use Rattle.draughts_moves.specs.declared.checking.Illegal.TheVariants.{NoSuchMove, NotLongest}
use Rattle.draughts_moves.specs.Listing.{moves, captures_at, step_to}
use Rattle.draughts_moves.specs.Check.{Answer}
use Rattle.draughts_moves.specs.internal.Check.{check_of}
use Rattle.pdn.specs.declared.faults.MoveFault.{MoveFault}
use Rattle.pdn.specs.declared.faults.MoveFault.TheVariants as fault
use Rattle.pdn.specs.Forms.{Form, FormReading, quiet, capture, read_form}
use Rattle.pdn.specs.internal.Passing.{passes}
use Rattle.pdn.specs.Choice.{same_move}
pub use Rattle.pdn.specs.ReadMove.{Reading}
use Rattle.pdn.specs.MoveValue.{legal_moves, routes_in}

-- whether the squares of a capture's text match a move
unfoldable pub does_fit : Position → ℕ → List ℕ → ℕ → DMove → Bool
does_fit p from middle to m = (m.from == from) && ((m.to == to) && list_any (passes middle) (routes_in p m))

-- The result of a choice: the only matching move, no move, or the fault that several moves match.
abbrev pub Choosing : Type 0
Choosing = Result (Option DMove) MoveFault

-- the only matching move, if any matches
abbrev pub choose : (DMove → Bool) → List DMove → Choosing
choose fits [] = Ok None
choose fits (m ∷ moves) =
    if fits m then if list_all (λ n. not (fits n) || same_move m n) moves then Ok (Some m) else Err
    fault.Ambiguous else choose fits moves

-- whether any capture matches, legal or not
unfoldable pub some_fit : Position → ℕ → List ℕ → ℕ → Bool
some_fit p from middle to = list_any (λ n. list_any (does_fit p from middle to) (captures_at p n from))
    (range_with_len 0 51)

-- the fault of a text that denotes an illegal move
abbrev pub illegal : Illegal → MoveFault
illegal cause = fault.Illegal cause

-- the move that was chosen; if none was, `some` says whether a capture that is not the longest matches
abbrev pub chosen : Bool → Choosing → Reading
chosen some (Err e) = Err e
chosen some (Ok (Some m)) = Ok m
chosen some (Ok None) = Err (illegal (if some then NotLongest else NoSuchMove))

-- the move, if its check finds it legal
abbrev pub checked : DMove → Answer → Reading
checked m (Ok u) = Ok m
checked m (Err cause) = Err (illegal cause)

-- the move that a form denotes in a position, or its fault
abbrev pub form_reading : Position → Form → Reading
form_reading p (quiet from to) = checked (step_to from to) (check_of p (step_to from to))
form_reading p (capture from middle to) =
    chosen (some_fit p from middle to) (choose (does_fit p from middle to) (legal_moves p))

-- the move that a parsed text denotes in a position, or its fault
abbrev pub with_form : Position → FormReading → Reading
with_form p (Err offset) = Err (fault.BadText offset)
with_form p (Ok form) = form_reading p form

-- the move that a text denotes, or its fault
unfoldable pub move_reading : Position → List ℕ → Reading
move_reading p text = with_form p (read_form text)
