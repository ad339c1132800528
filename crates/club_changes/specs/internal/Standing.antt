-- Running sums of scores, and the rows to upsert when a game ends. No promise of the program rests on these
-- definitions.
use Rattle.std.specs.Prelude.{◌≡◌, ◌++◌, List, [], ◌∷◌, map, Option}
use Rattle.std.specs.Option.{option_map}
use Rattle.sqlite.specs.Order.{Row}
use Rattle.store_tables.specs.internal.Cells.{score_cells}
use Rattle.store_tables.specs.Changes.{HaveSame}
use Rattle.store_tables.specs.internal.Changes.{put_rows}
use Rattle.store_tables.specs.declared.rows.ScoreRow.{ScoreRow}
use Rattle.club_rows.specs.internal.NextScores.{IsFound, row_with}
use Rattle.club_rows.specs.declared.scores.Pair.{Pair}
use Rattle.club_rows.specs.declared.scores.ScoreSums.{ScoreSums}

-- each pair has the sums of its row; None if it has no row
abbrev pub AreStanding : (Pair → Option ScoreSums) → List Row → Type 0
AreStanding sums rows = (pair : Pair) → IsFound rows pair (option_map (row_with pair) (sums pair))

-- rows were added to those to upsert; with them the old table becomes the new one, which has these sums
pub record PutsRows (was now : List Row) (sums : Pair → Option ScoreSums) (old new : List ScoreRow) : Type 0 where
  pub rows : List Row
  pub more : map score_cells new ≡ map score_cells old ++ rows
  pub makes : HaveSame (put_rows (0 ∷ 1 ∷ 2 ∷ []) rows was) now
  pub standing : AreStanding sums now
