use Rattle.std.proofs.Common.{refl, slice_index_or}
use Rattle.sfen.proofs.OneLemmas.{goes-on, stops-at}
use Rattle.sfen.proofs.reading.read_through.Goals as goal

pub returns-then-not-take-clause-stopped : goal.returns-then-not-take-clause-stopped
returns-then-not-take-clause-stopped c =
    let bytes = c.args.bytes.now in
    stops-at bytes c.loop-i.i (slice_index_or bytes c.loop-i.i 0) c.loop-i.reading c.loop-i-test.true refl
    c.loop-i.invariant.read c.if-not-take.ensures

pub loop-i-preserved : goal.loop-i-preserved
loop-i-preserved c =
    let bytes = c.args.bytes.now in
    let taken = c.if-not-take.ensures in record {
      sane = taken.1;
      read = goes-on bytes c.loop-i.i (slice_index_or bytes c.loop-i.i 0) c.loop-i.reading c.loop-i-test.true refl
          c.loop-i.invariant.read c.take.new.self taken.0;
    }
