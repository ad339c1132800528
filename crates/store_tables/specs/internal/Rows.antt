-- The ids of the rows of a club. No promise of the program rests on these definitions.
use Rattle.std.specs.Prelude.{map}
use Rattle.store_tables.specs.Cells.{event_cells, game_cells}
use Rattle.store_tables.specs.internal.Cells.{member_cells}
use Rattle.store_tables.specs.internal.Reading.{AreIds}
use Rattle.store_tables.specs.declared.rows.Rows.{Rows}

-- No two members, events or games have the same id.
pub record HaveIds (rows : Rows) : Type 0 where
  pub members : AreIds (map member_cells rows.members.items)
  pub events : AreIds (map event_cells rows.events.items)
  pub games : AreIds (map game_cells rows.games.items)
