use Rattle.std.proofs.Common.{length}
use Rattle.masks.specs.internal.Words.{ascending}
use Rattle.shogi_moves.proofs.PinLemmas.{Cleared}
use Rattle.shogi_moves.proofs.pins.unpinned_pieces.Given as goal

abbrev pub invariant-loop-king : goal.invariant-loop-king
invariant-loop-king l = Cleared l.board l.side l.free l.rest

abbrev pub decreases-loop-king : goal.decreases-loop-king
decreases-loop-king l = length (ascending 0 81 l.rest)
