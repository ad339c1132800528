-- One step of a player's clock: time budget and increment, in seconds.
use Rattle.std.specs.Prelude.{ℕ, ◌+◌, ◌-◌}
use Rattle.clocks.specs.declared.clock.Clock.{Clock}

-- The clock after a move in time: the elapsed seconds are subtracted and the increment is added.
abbrev pub after_move : Clock → ℕ → Clock
after_move clock elapsed = record clock { left = clock.left - elapsed + clock.increment }
