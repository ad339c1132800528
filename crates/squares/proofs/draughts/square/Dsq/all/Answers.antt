use Rattle.std.proofs.Common.{◌+◌, rules}
use Rattle.std.proofs.lemmas.List.FromFn.{fill_by_all}
use Rattle.squares.proofs.draughts.square.Dsq.all.Goals as goal

pub returns : goal.returns
returns c = fill_by_all (λ k. k + 1) c.loop-i.squares 50 0 c.loop-i.invariant.0 (search rules)
