use Rattle.std.proofs.Common.{rules}
use Rattle.std.proofs.Math.Utf8.{encode}
use Rattle.diagrams.specs.BodNames.{nothing}
use Rattle.diagrams.proofs.bod.nothing.Goals as goal

pub returns : goal.returns
unfolding nothing encode
returns c = search rules
