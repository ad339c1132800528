-- The cross table of an event, from the ended games in a state of the club. No promise of the program rests on these
-- definitions.
use Rattle.std.specs.Prelude.{◌≡◌, pos}
use Rattle.cross_tables.specs.declared.sums.ScoreTotals.{ScoreTotals}
use Rattle.store_tables.specs.declared.rows.ScoreRow.{ScoreRow}

-- the sums in a row of scores
pub record AreSumsOf (row : ScoreRow) (sums : ScoreTotals) : Type 0 where
  pub points : row.points ≡ pos sums.points
  pub wins : row.wins ≡ pos sums.wins
  pub draws : row.draws ≡ pos sums.draws
  pub losses : row.losses ≡ pos sums.losses
