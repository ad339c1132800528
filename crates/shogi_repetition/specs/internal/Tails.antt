-- Counters that give the end of a history without its earlier plies. No promise of the program rests on these
-- definitions.
use Rattle.std.specs.Prelude.{◌≡◌, ℕ, ◌++◌}
use Rattle.std.specs.Prelude.{List, [], ◌∷◌, length, drop, filter}
use Rattle.std.specs.List.{suffix_len}
use Rattle.game_history.specs.Line as line
use Rattle.squares.specs.declared.sides.Side.{Side}
use Rattle.squares.specs.declared.sides.Side.TheVariants.{First, Second}
use Rattle.squares.specs.declared.shogi.moves.SMove.{SMove}
use Rattle.squares.specs.Sides.{other, same_side}
use Rattle.squares.specs.ShogiSets.{ShogiPosition}
use Rattle.squares.specs.ShogiSamePosition.{same_shogi_position}
use Rattle.shogi_moves.specs.Rules.{play}
use Rattle.shogi_repetition.specs.declared.tails.Tail.{Tail}
use Rattle.shogi_repetition.specs.Line.{last_position}
use Rattle.shogi_repetition.specs.internal.Line.{positions}
use Rattle.shogi_repetition.specs.Ends.{FirstOccurs, is_in_check}
use Rattle.shogi_repetition.specs.internal.Computed.{end_of}
use Rattle.shogi_repetition.specs.Tails.{no_checks, next_tail, end_by}

-- The positions after the moves of a side, among all positions of a history.
abbrev pub led_to : Side → List ShogiPosition → List ShogiPosition
led_to side ps = filter (λ p. same_side p.turn (other side)) (drop 1 ps)

-- The number of the side's consecutive last moves that gave check.
abbrev pub checks_in_a_row : Side → List ShogiPosition → ℕ
checks_in_a_row side ps = suffix_len is_in_check (led_to side ps)

unfoldable pub tail_of : ShogiPosition → List SMove → Tail
tail_of start ms =
    record {
      first_checks = checks_in_a_row First (positions start ms);
      second_checks = checks_in_a_row Second (positions start ms);
    }

-- Properties of tails.

-- The tail before the first move, and after one more move.
abbrev pub TailsBegin : Type 0
TailsBegin = (start : ShogiPosition) → tail_of start [] ≡ no_checks

abbrev pub TailsGoOn : Type 0
TailsGoOn = (start : ShogiPosition) (ms : List SMove) (m : SMove)
    → tail_of start (ms ++ m ∷ []) ≡ next_tail (tail_of start ms) (play (last_position start ms) m)

-- The repetition count of the last position.
abbrev pub times_stood : ShogiPosition → List SMove → ℕ
times_stood = line.times_stood play same_shogi_position

-- The end by the tail is the end by all positions.
abbrev pub TailsTellEnds : Type 0
TailsTellEnds =
    (start : ShogiPosition) (ms : List SMove) (first : ℕ) → FirstOccurs start ms first →
    end_by (tail_of start ms) (last_position start ms) (length ms) (times_stood start ms) first ≡ end_of start ms
