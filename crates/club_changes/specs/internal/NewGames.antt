-- The rows of a game that is added. No promise of the program rests on these definitions.
use Rattle.std.specs.Prelude.{◌≡◌, ℕ, map}
use Rattle.club_rules.specs.GameRules.{GameRules}
use Rattle.club_core.specs.Events.{Terms}
use Rattle.club_core.specs.Game.{Game}
use Rattle.club_rows.specs.Seen.{seen_rows}
use Rattle.club_rows.specs.Tables.{game_row, move_rows}
use Rattle.store_tables.specs.Cells.{game_cells, move_cells, seen_cells}
use Rattle.club_changes.specs.declared.imported.added.NewRows.{NewRows}

-- the rows of this game with this id: its own, its moves and its positions
pub record AreNewRows {P M E T : Type 0} (rules : GameRules P M E T) (terms : Terms) (id : ℕ) (game : Game M)
    (new : NewRows) : Type 0 where
  pub game_is : game_cells new.game ≡ game_row rules terms id game
  pub moves_are : map move_cells new.moves.items ≡ move_rows rules terms id game
  pub seen_are : map seen_cells new.seen.items ≡ seen_rows rules id game
