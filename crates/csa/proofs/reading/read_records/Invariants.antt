use Rattle.std.proofs.Common.{take, map}
use Rattle.csa.specs.internal.Reading.{AreRecordsOf}
use Rattle.csa.proofs.reading.read_records.Given as goal

abbrev pub invariant-loop-i : goal.invariant-loop-i
invariant-loop-i l = AreRecordsOf (take l.i (map (λ x. x.now) l.records)) l.games.items
