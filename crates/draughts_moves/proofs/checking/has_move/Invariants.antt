use Rattle.std.proofs.Common.{◌≡◌, drop}
use Rattle.std.specs.List.{list_any}
use Rattle.draughts_moves.specs.internal.Search.{can_move}
use Rattle.draughts_moves.proofs.checking.has_move.Given as goal

abbrev pub invariant-loop-square : goal.invariant-loop-square
invariant-loop-square l = list_any (can_move l.position) (drop l.square-index l.square-items)
    ≡ list_any (can_move l.position) l.square-items
