-- One step of a player's clock: time budget and increment, in seconds. No promise of the program rests on these
-- definitions.
use Rattle.std.specs.Prelude.{ℕ, ◌≤◌}
use Rattle.clocks.specs.declared.clock.Clock.{Clock}

-- A move that took `elapsed` seconds is in time.
abbrev pub IsInTime : Clock → ℕ → Type 0
IsInTime clock elapsed = elapsed ≤ clock.left
