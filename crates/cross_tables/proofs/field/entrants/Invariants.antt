use Rattle.std.proofs.Common.{◌≡◌}
use Rattle.cross_tables.specs.Field.{entrants}
use Rattle.cross_tables.proofs.field.entrants.Given as goal

abbrev pub invariant-loop-before : goal.invariant-loop-before
invariant-loop-before l = l.members.items ≡ entrants l.before l.games
