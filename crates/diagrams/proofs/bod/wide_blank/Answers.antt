use Rattle.std.proofs.Common.{rules}
use Rattle.std.proofs.Math.Utf8.{encode}
use Rattle.diagrams.specs.BodNames.{wide_blank}
use Rattle.diagrams.proofs.bod.wide_blank.Goals as goal

pub returns : goal.returns
unfolding wide_blank encode
returns c = search rules
