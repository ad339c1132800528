-- Properties of a game that is replayed from its rows.
use Rattle.std.specs.Prelude.{◌≡◌, ◌≤◌, ℕ, List, length, map}
use Rattle.squares.specs.declared.sides.Side.TheVariants.{First}
use Rattle.club_rules.specs.GameRules.{GameRules}
use Rattle.club_rules.specs.Line.{IsPlayedLine}
use Rattle.club_requests.specs.Limits.{last_moment, most_plies}
use Rattle.club_core.specs.Events.{Terms}
use Rattle.club_core.specs.Legal.{IsTimely}
use Rattle.club_core.specs.LegalState.{Each}
use Rattle.club_core.specs.Game.{Game, moments_of, moves_of, opening_clocks}
use Rattle.store_tables.specs.Cells.{move_cells}
use Rattle.store_tables.specs.declared.rows.MoveRow.{MoveRow}
use Rattle.club_rows.specs.Tables.{move_rows}

-- the rows are those of the moves of this game, which starts at `from`: legal moves that were made in time, with what
-- its rulings had granted before each of them
pub record IsPlayedAs {P M E T : Type 0} (rules : GameRules P M E T) (terms : Terms) (id from : ℕ) (rows : List MoveRow)
    (game : Game M) : Type 0 where
  pub line : IsPlayedLine rules rules.start (moves_of game)
  pub plies : length game.entries ≤ most_plies
  pub timely : IsTimely terms.increment game.rulings 0 First (moments_of game) (opening_clocks game terms)
  pub start : game.start ≡ from
  pub moments : Each (λ e. e.moment ≤ last_moment) game.entries
  pub moves : map move_cells rows ≡ move_rows rules terms id game
