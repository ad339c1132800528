use Rattle.std.proofs.Common.{◌≡◌, ◌-◌}
use Rattle.draughts_moves.specs.Listing.{move_cmp}
use Rattle.draughts_moves.proofs.PlaceLemmas.{IsLeft, move_cmp-total}
use Rattle.draughts_moves.proofs.ordering.put_move.Given as goal

abbrev pub invariant-loop-passed : goal.invariant-loop-passed
invariant-loop-passed l =
    record {
      rest : IsLeft move_cmp move_cmp-total l.played l.fn.moves.items l.count l.passed (l.count - l.passed);
      same : l.moves.items ≡ l.fn.moves.items;
    }
