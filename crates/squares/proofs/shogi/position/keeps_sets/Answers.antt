use Rattle.std.proofs.Common.{rules, arith}
use Rattle.squares.proofs.ShogiCounts.{keeps_sets_lem}
use Rattle.squares.proofs.shogi.position.keeps_sets.Goals as goal

pub returns : goal.returns
returns c = (
  λ _. keeps_sets_lem c.args.board.now c.args.hands (λ k h. c.loop-kind.invariant k (omega arith)),
  λ _. search rules,
)
