use Rattle.std.proofs.Common.{rules}
use Rattle.std.proofs.lemmas.List.FromFn.{fill_by_all}
use Rattle.squares.proofs.shogi.square.Ssq.all.Goals as goal

pub returns : goal.returns
returns c = fill_by_all (λ k. k) c.loop-i.squares 81 0 c.loop-i.invariant.0 (search rules)
