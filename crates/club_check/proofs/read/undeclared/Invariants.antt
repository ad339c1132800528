use Rattle.std.proofs.Common.{◌≡◌, map, take}
use Rattle.store_tables.specs.internal.Cells.{event_rule_cells}
use Rattle.club_check.specs.internal.ReasonIsRight.{undeclared_row}
use Rattle.club_check.proofs.read.undeclared.Given as goal

abbrev pub invariant-events : goal.invariant-events
invariant-events l = map event_rule_cells l.rules.items ≡ map undeclared_row (take l.event-index l.events)
