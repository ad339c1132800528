use Rattle.std.proofs.Common.{◌≡◌, drop}
use Rattle.csa.specs.Reading.{first_statement}
use Rattle.csa.proofs.reading.first_statement.Given as goal

abbrev pub invariant-loop-each : goal.invariant-loop-each
invariant-loop-each l = first_statement l.placed ≡ first_statement (drop l.each-index l.placed)
