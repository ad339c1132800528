-- The rows of a club that are read whole, and the meaning of an error about rows. No promise of the program rests on
-- these definitions.
use Rattle.std.specs.Prelude.{◌≡◌, ◌≢◌, ◌⊎◌, ℕ, ◌≤◌, ℤ, pos, map, Option, Some, None}
use Rattle.store_tables.specs.declared.rows.Rows.{Rows}
use Rattle.store_tables.specs.declared.names.Table.{Table}
use Rattle.club_rows.specs.Club.{both_games, ClubState, IsClub}
use Rattle.club_rows.specs.EachOnce.{AreEachOnce}
use Rattle.club_rows.specs.Tables.{challenge_row, event_row, member_row, numbered_from, row_of_game, rule_row}
use Rattle.club_rows.specs.Tables.{gathered_from, rows_of_closing, rows_of_keys}
use Rattle.store_tables.specs.Cells.{event_cells, game_cells}
use Rattle.store_tables.specs.internal.Cells.{challenge_cells, closing_cells, event_rule_cells, key_cells, member_cells}
use Rattle.club_check.specs.declared.fault.OpenFault.{OpenFault}
use Rattle.club_check.specs.declared.fault.OpenFault.TheVariants.{Damaged, Memory}

-- The rows are those of the club, except the moves, positions and scores of its games.
pub record IsRegisterOf (s : ClubState) (rows : Rows) : Type 0 where
  pub last : rows.meta.last ≡ pos s.last
  pub members : map member_cells rows.members.items ≡ numbered_from member_row 1 s.members
  pub keys : map key_cells rows.keys.items ≡ gathered_from rows_of_keys 1 s.members
  pub events : map event_cells rows.events.items ≡ numbered_from event_row 1 s.events
  pub rules : map event_rule_cells rows.event_rules.items ≡ numbered_from rule_row 1 s.events
  pub closings : map closing_cells rows.closings.items ≡ gathered_from rows_of_closing 1 s.events
  pub challenges : AreEachOnce (map challenge_cells rows.challenges.items) (map challenge_row s.challenges)
  pub games : map game_cells rows.games.items ≡ numbered_from (row_of_game both_games s.events) 1 s.games

-- no legal club has these rows
abbrev pub IsNoRegister : Rows → Type 0
IsNoRegister rows = (s : ClubState) → IsClub s → ¬ IsRegisterOf s rows

-- the last second of the year 9999, as a Unix timestamp
abbrev pub last_moment : ℕ
last_moment = 253402300799

-- the timestamp in a row, or none if it is out of range
abbrev pub IsMomentOf : ℤ → Option ℕ → Type 0
IsMomentOf stored None = (n : ℕ) → n ≤ last_moment → stored ≢ pos n
IsMomentOf stored (Some n) = (stored ≡ pos n) × (n ≤ last_moment)

-- out of memory, or a table is reported as damaged and no legal club has these rows
abbrev pub BlamesRows : Rows → OpenFault → Type 0
BlamesRows rows fault = (fault ≡ Memory)
    ⊎ ((t : Table) × (fault ≡ Damaged t) × IsNoRegister rows)
