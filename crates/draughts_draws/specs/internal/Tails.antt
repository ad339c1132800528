-- Counters that give the end of a history without its earlier plies. No promise of the program rests on these
-- definitions.
use Rattle.std.specs.Prelude.{◌≡◌, ℕ, ◌++◌, Option, Some, None, List}
use Rattle.std.specs.Prelude.{[], ◌∷◌, length}
use Rattle.std.specs.List.{suffix_len, zip}
use Rattle.game_history.specs.Line as line
use Rattle.squares.specs.declared.draughts.moves.DMove.{DMove}
use Rattle.squares.specs.DraughtsBoard.{Position}
use Rattle.squares.specs.DraughtsSamePosition.{same_position}
use Rattle.draughts_moves.specs.Legal.{play}
use Rattle.draughts_draws.specs.declared.tails.Class.{Class}
use Rattle.draughts_draws.specs.declared.tails.Tail.{Tail}
use Rattle.draughts_draws.specs.Line.{last_position, positions}
use Rattle.draughts_draws.specs.Ends.{is_king_move, end_of}
use Rattle.draughts_draws.specs.Tails.{in_class, class_of, first_tail, next_tail, end_by}

-- The number of consecutive last positions that are in the class.
abbrev pub run_in : Option Class → List Position → ℕ
run_in None ps = 0
run_in (Some c) ps = suffix_len (in_class c) ps

-- The number of consecutive king moves without a capture up to the last ply, each move paired with its position. Also
-- the number of consecutive last positions in the class of the last one.
unfoldable pub tail_of : Position → List DMove → Tail
tail_of start ms =
    record {
      king_plies = suffix_len (λ e. is_king_move e.0 e.1) (zip (positions start ms) ms);
      class_positions = run_in (class_of (last_position start ms)) (positions start ms);
    }

-- Properties of tails.

-- The tail before the first move, and after one more move.
abbrev pub TailsBegin : Type 0
TailsBegin = (start : Position) → tail_of start [] ≡ first_tail start

abbrev pub TailsGoOn : Type 0
TailsGoOn =
    (start : Position) (ms : List DMove) (m : DMove) →
    tail_of start (ms ++ m ∷ []) ≡ next_tail (tail_of start ms) (last_position start ms) m
    (play (last_position start ms) m)

-- The repetition count of the last position.
abbrev pub times_stood : Position → List DMove → ℕ
times_stood = line.times_stood play same_position

-- The end by the tail is the end by all positions and moves.
abbrev pub TailsTellEnds : Type 0
TailsTellEnds =
    (start : Position) (ms : List DMove) →
    end_by (tail_of start ms) (last_position start ms) (length ms) (times_stood start ms) ≡ end_of start ms
