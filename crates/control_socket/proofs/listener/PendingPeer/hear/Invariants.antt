use Rattle.http_head.specs.internal.Intake.{HasTaken}
use Rattle.control_socket.proofs.listener.PendingPeer.hear.Given as goal

-- what was read so far is behind what was received before
abbrev pub invariant-loop : goal.invariant-loop
invariant-loop g l =
    HasTaken l.fn.self.said.items l.self.said.items (g.T.Read.remaining l.fn.self.stream)
    (g.T.Read.remaining l.self.stream)
