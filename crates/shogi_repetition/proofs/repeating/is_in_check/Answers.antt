use Rattle.std.specs.Cmp.{both_ways}
use Rattle.shogi_moves.proofs.Proved.{king_attacked-is}
use Rattle.shogi_repetition.specs.Ends.{is_in_check}
use Rattle.shogi_repetition.proofs.repeating.is_in_check.Goals as goal

pub returns : goal.returns
returns c =
    let p = c.args.position.now in
    let is = king_attacked-is p.board p.turn in
    both_ways c.in_check.result (is_in_check p) (λ e. is.1 (c.in_check.ensures.0 e))
    (λ e. c.in_check.ensures.1 (is.0 e))
