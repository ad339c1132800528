-- Counters that give the end of a history without its earlier plies.
use Rattle.std.specs.Prelude.{ℕ, ◌+◌, ◌==◌, ◌&&◌, nat_le, not, if◌then◌else◌, Bool, Option, Some, None}
use Rattle.squares.specs.declared.draughts.moves.DMove.{DMove}
use Rattle.squares.specs.DraughtsBoard.{Position}
use Rattle.draughts_draws.specs.declared.ends.DEnd.{DEnd}
use Rattle.draughts_draws.specs.declared.ends.DEnd.TheVariants.{NoMove, Repetition, KingMoves, ThreeToOne, TwoToOne}
use Rattle.draughts_draws.specs.declared.ends.DEnd.TheVariants.{PlyLimit}
use Rattle.draughts_draws.specs.declared.tails.Class.{Class}
use Rattle.draughts_draws.specs.declared.tails.Class.TheVariants as class
use Rattle.draughts_draws.specs.declared.tails.Tail.{Tail}
use Rattle.draughts_draws.specs.Ends.{can_move, is_king_move, is_three_to_one, is_two_to_one}

-- Whether the position has the material of this class of endings.
abbrev pub in_class : Class → Position → Bool
in_class class.ThreeToOne p = is_three_to_one p
in_class class.TwoToOne p = is_two_to_one p

-- The class of endings to which a position's material belongs, if any.
abbrev pub class_of : Position → Option Class
class_of p = if is_three_to_one p then Some class.ThreeToOne else if is_two_to_one p then Some class.TwoToOne else None

-- The tail, ply by ply.

-- The number of positions in the class at the start of a history: 1 if there is a class, otherwise 0.
abbrev pub first_count : Option Class → ℕ
first_count None = 0
first_count (Some c) = 1

-- The tail of a history without moves.
abbrev pub first_tail : Position → Tail
first_tail p = record { king_plies = 0; class_positions = first_count (class_of p) }

-- The number of consecutive last positions in this class after a move; `before` is the position before it.
abbrev pub count_on : Position → ℕ → Option Class → ℕ
count_on before count None = 0
count_on before count (Some c) = if in_class c before then count + 1 else 1

-- The number of consecutive last positions in the class of `after`, from the count for the position `before`.
abbrev pub class_count : Position → Position → ℕ → ℕ
class_count before after count = count_on before count (class_of after)

-- The tail after one more move, between the positions `before` and `after`.
abbrev pub next_tail : Tail → Position → DMove → Position → Tail
next_tail tail before m after =
    record {
      king_plies = if is_king_move before m then tail.king_plies + 1 else 0;
      class_positions = class_count before after tail.class_positions;
    }

-- The end by an ending with few pieces.
abbrev pub class_end : Tail → Position → Option DEnd
class_end tail last =
    if is_three_to_one last && nat_le 33 tail.class_positions
    then Some ThreeToOne
    else if is_two_to_one last && nat_le 11 tail.class_positions then Some TwoToOne else None

-- The first of two ends, if there is one.
abbrev pub end_or : Option DEnd → Option DEnd → Option DEnd
end_or (Some end) later = Some end
end_or None later = later

-- The end of a history with this tail and last position, from the number of plies and the repetition count.
unfoldable pub end_by : Tail → Position → ℕ → ℕ → Option DEnd
end_by tail last plies times =
    if not (can_move last)
    then Some NoMove
    else if nat_le 3 times
    then Some Repetition
    else if nat_le 50 tail.king_plies then Some KingMoves else end_or (class_end tail last)
    (if plies == 600 then Some PlyLimit else None)
