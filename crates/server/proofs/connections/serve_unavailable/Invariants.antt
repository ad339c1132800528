use Rattle.std.proofs.Common.{◌≡◌}
use Rattle.server.proofs.ShutLemmas.{HasShutSince}
use Rattle.server.proofs.connections.serve_unavailable.Given as goal

abbrev pub invariant-loop : goal.invariant-loop
invariant-loop g l = record {
  closed : l.closed.fault ≡ l.fn.fault;
  since : HasShutSince g.V.Connections.HasServed l.fn.fault l.fn.visits l.visits;
}
