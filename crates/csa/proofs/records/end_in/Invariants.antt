use Rattle.std.proofs.Common.{◌≡◌, drop}
use Rattle.csa.specs.Records.{end_in}
use Rattle.csa.proofs.records.end_in.Given as goal

abbrev pub invariant-loop-each : goal.invariant-loop-each
invariant-loop-each l = end_in l.placed ≡ end_in (drop l.each-index l.placed)
