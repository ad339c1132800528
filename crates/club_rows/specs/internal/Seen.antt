-- The distinct positions of a game with repetition count and first ply. No promise of the program rests on these
-- definitions.
use Rattle.std.specs.Prelude.{◌≡◌, ◌<◌, ℕ, List, Option, Some, None}
use Rattle.std.specs.Prelude.{slice_get}
use Rattle.sqlite_value.specs.declared.value.Value.TheVariants.{Text}
use Rattle.sqlite.specs.Order.{Row, column}
use Rattle.sqlite_rules.specs.Lists.{Has}
use Rattle.club_rules.specs.GameRules.{GameRules}
use Rattle.club_core.specs.Game.{Game}
use Rattle.store_tables.specs.Cells.{seen_cells}
use Rattle.store_tables.specs.declared.rows.SeenRow.{SeenRow}
use Rattle.club_rows.specs.Seen.{seen_rows}

-- the text first occurs after that ply
pub record FirstAt (texts : List (List ℕ)) (ply : ℕ) (text : List ℕ) : Type 0 where
  pub at : slice_get texts ply ≡ Some text
  pub earliest : (k : ℕ) → k < ply → slice_get texts k ≡ Some text → ⊥

module _ {P M E T : Type 0} (rules : GameRules P M E T) where
  -- the game's row of the position with this notation
  pub record IsSeenRow (id : ℕ) (game : Game M) (text : List ℕ) (row : Row) : Type 0 where
    pub there : Has (seen_rows rules id game) row
    pub text_is : column row 1 ≡ Text text

  -- the result of a lookup: the position's row, or None if the game has no such position
  abbrev pub IsFound : ℕ → Game M → List ℕ → Option SeenRow → Type 0
  IsFound id game text None = (row : Row) → ¬ IsSeenRow id game text row
  IsFound id game text (Some found) = IsSeenRow id game text (seen_cells found)
