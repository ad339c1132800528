-- The end of a history, computed from its positions. No promise of the program rests on these definitions.
use Rattle.std.specs.Prelude.{ℕ, ◌==◌, ◌||◌, nat_le, not, if◌then◌else◌, Bool, Option, Some, None, List}
use Rattle.std.specs.Prelude.{length, count_by, drop}
use Rattle.std.specs.List.{list_all, position, zip}
use Rattle.std.specs.Option.{option_map_or}
use Rattle.squares.specs.declared.sides.Side.{Side}
use Rattle.squares.specs.declared.sides.Side.TheVariants.{First, Second}
use Rattle.squares.specs.declared.shogi.moves.SMove.{SMove}
use Rattle.squares.specs.Sides.{other, same_side}
use Rattle.squares.specs.ShogiSets.{ShogiPosition}
use Rattle.squares.specs.ShogiSamePosition.{same_shogi_position}
use Rattle.shogi_moves.specs.internal.Computed.{has_move}
use Rattle.shogi_repetition.specs.declared.ends.SEnd.{SEnd}
use Rattle.shogi_repetition.specs.declared.ends.SEnd.TheVariants.{NoMove, PlyLimit}
use Rattle.shogi_repetition.specs.Ends.{is_in_check, end_by_checks}
use Rattle.shogi_repetition.specs.Line.{last_position}
use Rattle.shogi_repetition.specs.internal.Line.{positions}

-- Whether the move between two positions is one of the other side, or gives check.
abbrev pub keeps_checking : Side → ShogiPosition → ShogiPosition → Bool
keeps_checking side before after = same_side before.turn (other side) || is_in_check after

-- Whether each move of the side, from each position to the next, gives check.
unfoldable pub checks_throughout : Side → List ShogiPosition → Bool
checks_throughout side ps = list_all (λ e. keeps_checking side e.0 e.1) (zip ps (drop 1 ps))

-- Whether the last position occurs for the fourth time.
unfoldable pub stands_four_times : ShogiPosition → List ShogiPosition → Bool
stands_four_times last ps = nat_le 4 (count_by (λ p. same_shogi_position p last) ps)

-- The positions from the first occurrence of the last position on.
unfoldable pub since_first : ShogiPosition → List ShogiPosition → List ShogiPosition
since_first last ps = option_map_or (λ f. drop f ps) (position (λ p. same_shogi_position p last) ps) ps

-- The end by a fourth occurrence of the last position, from the checks since its first occurrence.
unfoldable pub repetition : ShogiPosition → List ShogiPosition → SEnd
repetition last ps = end_by_checks (checks_throughout First (since_first last ps))
    (checks_throughout Second (since_first last ps))

-- The first end that holds, from the last position, all positions and the number of plies.
unfoldable pub first_end : ShogiPosition → List ShogiPosition → ℕ → Option SEnd
first_end last ps plies =
    if not (has_move last) then Some NoMove else if stands_four_times last ps then Some
    (repetition last ps) else if plies == 600 then Some PlyLimit else None

-- The end of a history, if its last ply ends it.
unfoldable pub end_of : ShogiPosition → List SMove → Option SEnd
end_of start ms = first_end (last_position start ms) (positions start ms) (length ms)
