use Rattle.std.proofs.Common.{rules}
use Rattle.std.proofs.Math.Utf8.{encode}
use Rattle.diagrams.specs.BodNames.{empty_square}
use Rattle.diagrams.proofs.bod.empty_square.Goals as goal

pub returns : goal.returns
unfolding empty_square encode
returns c = search rules
