use Rattle.std.proofs.Common.{◌≡◌, ◌++◌, drop, map, Some}
use Rattle.std.specs.Prelude.{string_bytes}
use Rattle.club_batches.specs.Seats.{asked_name}
use Rattle.club_batches.proofs.seats.questions_for.Given as goal

abbrev pub invariant-loop-name : goal.invariant-loop-name
invariant-loop-name l =
    map asked_name l.questions.items ++ map (λ name. Some (string_bytes name)) (drop l.name-index l.names)
    ≡ map (λ name. Some (string_bytes name)) l.names
