use Rattle.std.proofs.Common.{◌≡◌}
use Rattle.server.specs.internal.Outgoing.{StaysInOrder}
use Rattle.server.proofs.outgoing.OutgoingReply.send.Given as goal

abbrev pub invariant-loop : goal.invariant-loop
invariant-loop g l = record {
  reply : l.self.bytes ≡ l.fn.self.bytes;
  in_order : StaysInOrder l.fn.self.bytes.items l.fn.self.sent l.self.sent (g.T.Write.contents l.fn.self.stream)
      (g.T.Write.contents l.self.stream);
}
