use Rattle.std.proofs.Common.{◌≡◌, ◌≤◌, ◌-◌, ◌++◌}
use Rattle.std.specs.List.{flat_map, range_with_len}
use Rattle.pairings.specs.Table.{games, all_games}
use Rattle.pairings.proofs.table.rounds.Given as goal

abbrev pub invariant-loop-number : goal.invariant-loop-number
invariant-loop-number l =
    record {
      games : l.pairings.items ++ flat_map (games l.players) (range_with_len l.number (l.number-end - l.number))
          ≡ all_games l.players l.is_double;
      from : 1 ≤ l.number;
    }
