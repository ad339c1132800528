use Rattle.std.proofs.Common.{sym, ◌∙◌}
use Rattle.squares.specs.internal.DraughtsOnBoard.{step-neighbor}
use Rattle.squares.proofs.draughts.square.Dsq.step.Goals as goal

pub returns : goal.returns
returns c = c.neighbor.ensures.value ∙ sym (step-neighbor c.args.toward c.args.self c.neighbor.ensures.range)
