use Rattle.std.proofs.Common.{refl}
use Rattle.server.specs.Visits.{listed}
use Rattle.server.proofs.ShutLemmas.{none_shut, next_shut}
use Rattle.server.proofs.connections.serve_unavailable.Goals as goal

pub loop-init : goal.loop-init
loop-init g c = record {
  closed = refl;
  since = none_shut g.V.Connections.HasServed c.args.fault c.args.visits.now;
}

pub returns-then-is_none : goal.returns-then-is_none
returns-then-is_none g c = record {
  unavailable = next_shut g.V.Connections.HasServed c.args.fault _ c.loop.visits c.serve_next-item.new.self
      (listed c.serve_next-item.result) c.loop.invariant.since c.serve_next-item.ensures.acknowledged
      (c.serve_next-item.ensures.unavailable c.args.fault c.loop.invariant.closed).1;
}

pub loop-preserved : goal.loop-preserved
loop-preserved g c =
    let shut = c.serve_next-item.ensures.unavailable c.args.fault c.loop.invariant.closed in
    record {
      closed = shut.0;
      since = next_shut g.V.Connections.HasServed c.args.fault _ c.loop.visits c.serve_next-item.new.self
          (listed c.serve_next-item.result) c.loop.invariant.since c.serve_next-item.ensures.acknowledged shut.1;
    }

pub returns : goal.returns
returns g c = record { unavailable = c.loop.invariant.since }
