-- The check of the rows of closed events. No promise of the program rests on these definitions.
use Rattle.std.specs.Prelude.{◌≡◌, ◌<◌, ◌≤◌, ℕ, pos, List, [], ◌∷◌, map, IfSome}
use Rattle.club_requests.specs.Limits.{last_moment}
use Rattle.club_core.specs.Events.{Event}
use Rattle.club_core.specs.LegalState.{Each}
use Rattle.store_tables.specs.internal.Cells.{closing_cells}
use Rattle.store_tables.specs.declared.rows.ClosingRow.{ClosingRow}
use Rattle.club_rows.specs.Tables.{gathered_from, rows_of_closing}

-- the timestamp of the row is not after this one
abbrev pub IsClosedBy : ℕ → ClosingRow → Type 0
IsClosedBy last row = (moment : ℕ) × (row.moment ≡ pos moment) × (moment ≤ last)

-- the row is that of this event, with a valid timestamp, and may come after a row of the event before
pub record IsClosingAfter (count before event : ℕ) (row : ClosingRow) : Type 0 where
  pub event_is : row.event ≡ pos event
  pub later : before < event
  pub within : event ≤ count
  pub moment : IsClosedBy last_moment row

-- each row may come after the one before it
abbrev pub AreClosingsAfter : (count before : ℕ) → List ClosingRow → Type 0
AreClosingsAfter count before [] = Unit {0}
AreClosingsAfter count before (r ∷ rs) =
    (event : ℕ) × IsClosingAfter count before event r × AreClosingsAfter count event rs

-- the rows are those of the closings of these events
pub record AreClosingsOf (events : List Event) (closings : List ClosingRow) : Type 0 where
  pub rows_are : map closing_cells closings ≡ gathered_from rows_of_closing 1 events
  pub moments : Each (λ e. IfSome e.closed (λ moment. moment ≤ last_moment)) events
