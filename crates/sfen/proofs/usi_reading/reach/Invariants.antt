use Rattle.std.proofs.Common.{◌≡◌, ◌+◌, ◌≤◌, length, drop}
use Rattle.sfen.specs.UsiReading.{reach}
use Rattle.sfen.proofs.usi_reading.reach.Given as goal

pub record Passed (IsWithin HasCount : Type 0) : Type 0 where
  pub within : IsWithin
  pub count : HasCount

abbrev pub invariant-loop-place : goal.invariant-loop-place
invariant-loop-place l =
    Passed
    (length l.rest ≤ length l.text)
    (reach l.places l.text + length l.rest ≡ length l.text + reach (drop l.place-index l.places) l.rest)
