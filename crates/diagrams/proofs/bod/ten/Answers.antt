use Rattle.std.proofs.Common.{rules}
use Rattle.std.proofs.Math.Utf8.{encode}
use Rattle.diagrams.specs.BodNames.{ten}
use Rattle.diagrams.proofs.bod.ten.Goals as goal

pub returns : goal.returns
unfolding ten encode
returns c = search rules
