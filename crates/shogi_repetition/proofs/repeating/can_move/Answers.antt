use Rattle.std.specs.Cmp.{both_ways}
use Rattle.shogi_moves.specs.internal.Computed.{has_move}
use Rattle.shogi_moves.proofs.Proved.{has_move-is}
use Rattle.shogi_repetition.proofs.repeating.can_move.Goals as goal

pub returns : goal.returns
returns c =
    let p = c.args.position.now in
    both_ways c.has_move.result (has_move p) (λ e. (has_move-is p).1 (c.has_move.ensures.0 e))
    (λ e. c.has_move.ensures.1 ((has_move-is p).0 e))
