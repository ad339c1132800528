-- The checks of single tables: the members, events, challenges and games of a legal club.
use Rattle.std.specs.Prelude.{◌≡◌, ◌+◌, ◌<◌, ◌≤◌, ℕ, pos, List, Some, Bool, IsTrue}
use Rattle.club_rules.specs.GameRules.{GameRules}
use Rattle.club_requests.specs.declared.outside_end.OutsideEnd.TheVariants.{Time}
use Rattle.club_requests.specs.Limits.{is_budget, is_increment}
use Rattle.club_core.specs.Events.{Terms}
use Rattle.club_core.specs.Game.{Game, clocks_of, left_of, turn_of}
use Rattle.club_core.specs.LegalState.{Each}
use Rattle.store_tables.specs.declared.rows.EventRow.{EventRow}
use Rattle.store_tables.specs.declared.rows.MoveRow.{MoveRow}
use Rattle.store_tables.specs.declared.rows.GameTableRow.{GameTableRow}
use Rattle.store_tables.specs.declared.rows.RulingRow.{RulingRow}
use Rattle.club_rows.specs.LegalRows.{AreRowsOf}

-- ---- events

-- the row has this budget and increment, both within their limits
pub record GivesTerms (row : EventRow) (budget increment : ℕ) : Type 0 where
  pub budget_is : row.budget ≡ pos budget
  pub increment_is : row.increment ≡ pos increment
  pub has_budget : IsTrue (is_budget budget)
  pub has_increment : IsTrue (is_increment increment)

-- the terms with this budget and increment, with or without declarations
abbrev pub terms_told : ℕ → ℕ → Bool → Terms
terms_told budget increment declares = record { budget = budget; increment = increment; declares = declares }

-- no timestamp of the game is after `last`, and a loss on time had happened by then
pub record EndsBy {P M E T : Type 0} (rules : GameRules P M E T) (terms : Terms) (last : ℕ) (game : Game M) : Type 0
  where
    pub start : game.start ≤ last
    pub entries : Each (λ e. e.moment ≤ last) game.entries
    pub rulings : Each (λ r. r.moment ≤ last) game.rulings
    pub lost_by_time : game.outside ≡ Some Time
        → (clocks_of game terms).since + left_of (turn_of rules game) (clocks_of game terms) < last

-- the rows are those of some legal game with these rules and terms, with timestamps up to `last`
pub record HaveGame {P M E T : Type 0} (rules : GameRules P M E T) (terms : Terms) (last : ℕ) (row : GameTableRow)
    (moves : List MoveRow) (rulings : List RulingRow) : Type 0 where
  pub id : ℕ
  pub game : Game M
  pub are : AreRowsOf rules terms id row moves rulings game
  pub within : EndsBy rules terms last game
