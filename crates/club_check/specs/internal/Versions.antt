-- The tables of a club in a database, by schema version. No promise of the program rests on these definitions.
use Rattle.std.specs.Prelude.{◌≡◌, List, map}
use Rattle.sqlite.specs.Effect.{Database}
use Rattle.sqlite.specs.State.{State}
use Rattle.store_tables.specs.Contents as of_schema
use Rattle.store_tables.specs.Cells.{event_cells}
use Rattle.store_tables.specs.Tables.{schema_of}
use Rattle.store_tables.specs.declared.rows.EventRow.{EventRow}
use Rattle.store_tables.specs.declared.names.Version.{Version}
use Rattle.club_rows.specs.Club.{ClubState}
use Rattle.club_rows.specs.FirstSchema.{IsClubOf, tables_at}
use Rattle.club_rows.specs.Tables.{event_row, numbered_from}
use Rattle.club_check.specs.Versions.{HasClub}

-- the connection has exactly the tables of this club, and so does whatever a crash leaves
abbrev pub IsExactlyClub : Version → ClubState → State → Type 0
IsExactlyClub version s = of_schema.IsExactly (schema_of version) (tables_at version s)

-- the rows of events of any club whose tables the database has
abbrev pub HasEvents : List EventRow → Database → Type 0
HasEvents rows db = (version : Version) (s : ClubState) → IsClubOf version s → HasClub version db s
    → map event_cells rows ≡ numbered_from event_row 1 s.events
