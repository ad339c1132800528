use Rattle.std.proofs.Common.{arith}
use Rattle.squares.proofs.Proved.{keeps_sets_lem}
use Rattle.sfen.proofs.reading.exceeds_sets.Goals as goal

pub returns : goal.returns
returns c = (
  λ e. cc,
  λ w. let most = keeps_sets_lem c.args.board.now c.args.hands (λ k h. c.loop-kind.invariant k (omega arith)) w.0 in
      absurd (omega (arith, most, w.1)),
)
