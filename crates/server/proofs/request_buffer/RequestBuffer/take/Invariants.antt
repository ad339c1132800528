use Rattle.http_head.specs.internal.Intake.{HasTaken}
use Rattle.server.proofs.request_buffer.RequestBuffer.take.Given as goal

-- what was read so far is behind what was in the buffer
abbrev pub invariant-loop : goal.invariant-loop
invariant-loop g l =
    HasTaken l.fn.self.bytes.items l.self.bytes.items (g.R.Read.remaining l.fn.reader) (g.R.Read.remaining l.reader)
