use Rattle.std.proofs.Common.{◌≡◌, ◌++◌, drop}
use Rattle.std.specs.Prelude.{string_bytes}
use Rattle.club_batches.specs.Seats.{seat_lines}
use Rattle.club_batches.proofs.seats.lines_of.Given as goal

abbrev pub invariant-loop-request : goal.invariant-loop-request
invariant-loop-request l =
    string_bytes l.lines ++ seat_lines (drop l.request-index l.requests) ≡ seat_lines l.requests
