use Rattle.std.proofs.Common.{arith}
use Rattle.http_head.proofs.IntakeLemmas.{body_there}
use Rattle.http_head.proofs.intake.has_body.Goals as goal

pub returns : goal.returns
returns c = λ test. body_there c.args.bytes.now c.args.start c.args.count c.requires (grind arith)
