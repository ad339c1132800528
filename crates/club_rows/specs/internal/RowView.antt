-- The view of a game from its row and the rows of one ply, without its other moves. No promise of the program rests on
-- these definitions.
use Rattle.std.specs.Prelude.{◌≡◌, ◌-◌, ℕ, zero, suc, Option, None, slice_get}
use Rattle.std.specs.Option.{option_map}
use Rattle.sqlite.specs.Order.{Row}
use Rattle.club_rules.specs.GameRules.{GameRules}
use Rattle.club_core.specs.declared.rows.Asked.{Asked}
use Rattle.club_core.specs.Events.{Terms}
use Rattle.club_core.specs.Game.{Game, moves_of, last_position}
use Rattle.store_tables.specs.Cells.{move_cells}
use Rattle.club_rows.specs.Tables.{move_rows}
use Rattle.club_rows.specs.internal.Tally.{HasStood}
use Rattle.club_rows.specs.declared.row_view.PlyRows.{PlyRows}
use Rattle.club_rows.specs.declared.tally.Occurrences.{Occurrences}

-- the repetition count and first ply of the game's last position
abbrev pub HasLastStood : {P M E T : Type 0} → GameRules P M E T → Game M → Occurrences → Type 0
HasLastStood rules game stood = HasStood rules (moves_of game) (last_position rules game) stood

-- this move was played at the ply in that position, with this remaining time
pub record IsPlayed {R P M E T : Type 0} (asked : Asked R P M E T) (ply : ℕ) (made : M) (left : ℕ) (before : P) : Type 0
  where
    pub ply_is : asked.ply ≡ ply
    pub made_is : asked.made ≡ made
    pub left_is : asked.left ≡ left
    pub before_is : asked.before ≡ before

module _ {P M E T : Type 0} (rules : GameRules P M E T) (terms : Terms) (id : ℕ) (game : Game M) where
  -- the row of a ply, counted from 1
  abbrev pub row_at : ℕ → Option Row
  row_at zero = None
  row_at (suc n) = slice_get (move_rows rules terms id game) n

  -- the rows are those of the ply and of the ply before it; None if there is no such ply
  pub record AreRowsAt (ply : ℕ) (rows : PlyRows) : Type 0 where
    pub at : option_map move_cells rows.at ≡ row_at ply
    pub before : option_map move_cells rows.before ≡ row_at (ply - 1)
