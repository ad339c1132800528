-- Counters that give the end of a history without its earlier plies.
use Rattle.std.specs.Prelude.{ℕ, ◌+◌, ◌-◌, ◌*◌, ◌==◌, nat_le, not, if◌then◌else◌, Bool, Option, Some, None}
use Rattle.squares.specs.declared.sides.Side.{Side}
use Rattle.squares.specs.declared.sides.Side.TheVariants.{First, Second}
use Rattle.squares.specs.ShogiSets.{ShogiPosition}
use Rattle.shogi_repetition.specs.declared.ends.SEnd.{SEnd}
use Rattle.shogi_repetition.specs.declared.ends.SEnd.TheVariants.{NoMove, PlyLimit}
use Rattle.shogi_repetition.specs.declared.tails.Tail.{Tail}
use Rattle.shogi_repetition.specs.Ends.{can_move, is_in_check, end_by_checks}

-- The tail, ply by ply.

-- The tail of a history without moves.
abbrev pub no_checks : Tail
no_checks = record { first_checks = 0; second_checks = 0 }

-- The number of a side's consecutive checks after one more of its moves.
abbrev pub count_on : ℕ → Bool → ℕ
count_on checks gives_check = if gives_check then checks + 1 else 0

-- The moving side is the opponent of the side to move after the move.
abbrev pub tail_after : Tail → Bool → Side → Tail
tail_after tail gives_check First =
    record { first_checks = tail.first_checks; second_checks = count_on tail.second_checks gives_check }
tail_after tail gives_check Second =
    record { first_checks = count_on tail.first_checks gives_check; second_checks = tail.second_checks }

-- The tail after one more move, which leads to the position `after`.
abbrev pub next_tail : Tail → ShogiPosition → Tail
next_tail tail after = tail_after tail (is_in_check after) after.turn

-- A side made half of the plies since the first occurrence; it gave check throughout if at least that many of its
-- consecutive last moves gave check.
abbrev pub repetition_by : Tail → ℕ → SEnd
repetition_by tail plies = end_by_checks (nat_le plies (2 * tail.first_checks)) (nat_le plies (2 * tail.second_checks))

-- The end of a history with this tail and last position, from the number of plies and the occurrences of the position.
unfoldable pub end_by : Tail → ShogiPosition → ℕ → ℕ → ℕ → Option SEnd
end_by tail last plies times first =
    if not (can_move last)
    then Some NoMove
    else if nat_le 4 times then Some (repetition_by tail (plies - first)) else if plies == 600 then Some
    PlyLimit else None
