-- The totals of the members of an event.
use Rattle.std.specs.Prelude.{◌≡◌, ◌+◌, ◌<◌, ◌≤◌, ◌==◌, ℕ, List, sum_by, count_by, if◌then◌else◌}
use Rattle.cross_tables.specs.declared.sums.ScoreTotals.{ScoreTotals}
use Rattle.cross_tables.specs.declared.sums.OpponentScore.{OpponentScore}
use Rattle.cross_tables.specs.declared.standings.Standing.{Standing}

-- The number of ended games.
abbrev pub games : ScoreTotals → ℕ
games sums = sums.wins + sums.draws + sums.losses

-- The score rows of a member.

-- One of the four numbers, summed over a member's rows.
abbrev pub total : (ScoreTotals → ℕ) → ℕ → List OpponentScore → ℕ
total part member rows = sum_by (λ row. if row.member == member then part row.sums else 0) rows

-- The totals of a member.
abbrev pub totals : ℕ → List OpponentScore → ScoreTotals
totals member rows =
    record {
      points = total (λ s. s.points) member rows;
      wins = total (λ s. s.wins) member rows;
      draws = total (λ s. s.draws) member rows;
      losses = total (λ s. s.losses) member rows;
    }

-- The number of a member's rows.
abbrev pub rows_of : ℕ → List OpponentScore → ℕ
rows_of member rows = count_by (λ row. row.member == member) rows

-- Standings.

-- How often a member is in the standings.
abbrev pub times : ℕ → List Standing → ℕ
times member standings = count_by (λ s. s.member == member) standings

-- No member is in the standings twice.
abbrev pub IsEachOnce : List Standing → Type 0
IsEachOnce standings = (member : ℕ) → times member standings ≤ 1

-- One of the four numbers in a member's standings.
abbrev pub shown : (ScoreTotals → ℕ) → ℕ → List Standing → ℕ
shown part member standings = sum_by (λ s. if s.member == member then part s.sums else 0) standings

-- Each member with a score row is in the standings once, with its totals, and no other member is.
pub record AreTotals (standings : List Standing) (rows : List OpponentScore) : Type 0 where
  pub once : IsEachOnce standings
  pub listed : (member : ℕ) → 0 < rows_of member rows → 0 < times member standings
  pub scored : (member : ℕ) → 0 < times member standings → 0 < rows_of member rows
  pub points : (member : ℕ) → shown (λ s. s.points) member standings ≡ total (λ s. s.points) member rows
  pub wins : (member : ℕ) → shown (λ s. s.wins) member standings ≡ total (λ s. s.wins) member rows
  pub draws : (member : ℕ) → shown (λ s. s.draws) member standings ≡ total (λ s. s.draws) member rows
  pub losses : (member : ℕ) → shown (λ s. s.losses) member standings ≡ total (λ s. s.losses) member rows
