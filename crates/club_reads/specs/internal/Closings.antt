-- The closing of an event among all rows of `closings`. No promise of the program rests on these definitions.
use Rattle.std.specs.Prelude.{◌≡◌, ◌≢◌, ◌⊎◌, ℕ, ℤ, pos, List, [], ◌∷◌, Option, Some, None}
use Rattle.store_tables.specs.declared.rows.ClosingRow.{ClosingRow}
use Rattle.club_core.specs.Events.{Event}

-- the event, closed at this timestamp or not closed
abbrev pub closed_as : Option ℕ → Event → Event
closed_as closed e = record e { closed = closed }

-- the event, as if it were open
abbrev pub without_closing : Event → Event
without_closing = closed_as None

-- The first row of this event has this timestamp; no row is of the event if it was not closed.
abbrev pub IsClosing : List ClosingRow → ℤ → Option ℕ → Type 0
IsClosing [] event closed = closed ≡ None
IsClosing (row ∷ rows) event closed =
    ((row.event ≢ event) × IsClosing rows event closed)
    ⊎ ((row.event ≡ event) × ((moment : ℕ) × (pos moment ≡ row.moment) × (closed ≡ Some moment)))
