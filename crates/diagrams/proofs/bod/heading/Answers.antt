use Rattle.std.proofs.Common.{rules}
use Rattle.std.proofs.Math.Utf8.{encode}
use Rattle.diagrams.specs.BodDiagram.{heading}
use Rattle.diagrams.proofs.bod.heading.Goals as goal

pub returns : goal.returns
unfolding heading encode
returns c = search rules
