use Rattle.std.proofs.Common.{◌≡◌, ◌≤◌, ◌+◌, ◌-◌, ◌*◌, length}
use Rattle.std.specs.List.{flat_map, range_with_len}
use Rattle.pairings.specs.Table.{row, games}
use Rattle.pairings.proofs.Ahead.{ahead}
use Rattle.pairings.proofs.table.round.Given as goal

abbrev pub invariant-loop-lower : goal.invariant-loop-lower
invariant-loop-lower l =
    record {
      games : ahead l.players l.round l.pairings.items
          (flat_map (row l.players) (range_with_len l.lower (l.lower-end - l.lower))) ≡ games l.players l.round;
      few : length l.pairings.items + 32 ≤ 32 * l.lower;
      from : 1 ≤ l.lower;
    }
