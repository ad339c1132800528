use Rattle.std.proofs.Common.{◌≡◌, drop}
use Rattle.http_head.specs.Request.{skip_line_breaks}
use Rattle.http_head.proofs.request.skip_line_breaks.Given as goal

abbrev pub invariant-loop-i : goal.invariant-loop-i
invariant-loop-i l = skip_line_breaks (drop l.i l.bytes) ≡ skip_line_breaks l.bytes
