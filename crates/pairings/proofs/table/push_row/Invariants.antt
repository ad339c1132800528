use Rattle.std.proofs.Common.{◌≡◌, ◌≤◌, ◌+◌, ◌-◌, suc, length}
use Rattle.pairings.specs.Table.{pairs_from, row}
use Rattle.pairings.proofs.Ahead.{ahead}
use Rattle.pairings.proofs.table.push_row.Given as goal

abbrev pub invariant-loop-higher : goal.invariant-loop-higher
invariant-loop-higher l =
    record {
      games : ahead l.players l.round l.pairings.items (pairs_from l.lower l.higher (l.higher-end - l.higher))
          ≡ ahead l.players l.round l.initial.pairings.items (row l.players l.lower);
      few : length l.pairings.items + suc l.lower ≤ length l.initial.pairings.items + l.higher;
      from : suc l.lower ≤ l.higher;
    }
