use Rattle.std.proofs.Common.{◌+◌, None, arith}
use Rattle.std.proofs.lemmas.List.FromFn.{fill_by_all}
use Rattle.squares.specs.internal.DraughtsKept.{cell_in, cells_in}
use Rattle.squares.proofs.draughts.position.cells_in.Goals as goal

pub returns : goal.returns
unfolding cells_in
returns c = fill_by_all (λ k. cell_in c.args.first c.args.second c.args.kings (k + 1)) c.loop-i.cells 50 None
    c.loop-i.invariant.0 (λ k h. c.loop-i.invariant.1 k (omega arith))
