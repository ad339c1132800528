-- The totals of the members of an event. No promise of the program rests on these definitions.
use Rattle.std.specs.Prelude.{◌+◌, ◌<◌, ◌^◌}
use Rattle.cross_tables.specs.declared.sums.ScoreTotals.{ScoreTotals}
use Rattle.cross_tables.specs.declared.standings.Standing.{Standing}

abbrev pub plus_sums : ScoreTotals → ScoreTotals → ScoreTotals
plus_sums a b =
    record {
      points = a.points + b.points;
      wins = a.wins + b.wins;
      draws = a.draws + b.draws;
      losses = a.losses + b.losses;
    }

-- Each of the four numbers fits in 32 bits.
pub record Fit (sums : ScoreTotals) : Type 0 where
  pub points : sums.points < 2 ^ 32
  pub wins : sums.wins < 2 ^ 32
  pub draws : sums.draws < 2 ^ 32
  pub losses : sums.losses < 2 ^ 32

-- A standing with more sums added.
abbrev pub raised : Standing → ScoreTotals → Standing
raised standing more = record { member = standing.member; sums = plus_sums standing.sums more }
