use Rattle.std.proofs.Common.{◌≡◌, drop}
use Rattle.club_batches.specs.Seats.{has_twice}
use Rattle.club_batches.proofs.seats.has_twice.Given as goal

abbrev pub invariant-loop-place : goal.invariant-loop-place
invariant-loop-place l = has_twice (drop l.place l.names) ≡ has_twice l.names
