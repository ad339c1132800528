-- The field of an event: each member with a game in it, with its totals, its Sonneborn-Berger number and its place.
use Rattle.std.specs.Prelude.{◌+◌, ◌*◌, ◌==◌, ◌&&◌, ◌||◌, ℕ, Bool, not, nat_lt, List, map, filter, count_by, sum_by}
use Rattle.std.specs.Prelude.{if◌then◌else◌}
use Rattle.std.specs.List.{list_any, range_with_len}
use Rattle.std.specs.List.Sorted.{IsPermutation, IsSortedBy}
use Rattle.cross_tables.specs.declared.sums.OpponentScore.{OpponentScore}
use Rattle.cross_tables.specs.declared.field.EventGame.{EventGame}
use Rattle.cross_tables.specs.declared.field.FieldLine.{FieldLine}
use Rattle.cross_tables.specs.Totals.{total, totals}

-- The member is a player of the game.
abbrev pub plays : ℕ → EventGame → Bool
plays member game = game.first == member || game.second == member

-- The member is a player of the game, and it has not ended.
abbrev pub plays_on : ℕ → EventGame → Bool
plays_on member game = plays member game && not game.is_over

-- The number of a member's running games.
abbrev pub running_games : ℕ → List EventGame → ℕ
running_games member games = count_by (plays_on member) games

-- The member has a game in the event, running or ended.
abbrev pub is_entrant : List EventGame → ℕ → Bool
is_entrant games member = list_any (plays member) games

-- The entrants, each once, of the members with the numbers from 1 to the last.
abbrev pub entrants : ℕ → List EventGame → List ℕ
entrants last games = filter (is_entrant games) (map (λ before. before + 1) (range_with_len 0 last))

-- What a score row adds to a member's Sonneborn-Berger number: the points against the opponent, times the points of
-- that opponent against all.
abbrev pub weighted : ℕ → List OpponentScore → OpponentScore → ℕ
weighted member rows row =
    if row.member == member then row.sums.points * total (λ s. s.points) row.opponent rows else 0

-- The Sonneborn-Berger number of a member.
abbrev pub sonneborn_berger : ℕ → List OpponentScore → ℕ
sonneborn_berger member rows = sum_by (weighted member rows) rows

-- The line of a member.
abbrev pub line_of : List OpponentScore → List EventGame → ℕ → FieldLine
line_of rows games member =
    record {
      standing = record { member = member; sums = totals member rows };
      running = running_games member games;
      sonneborn_berger = sonneborn_berger member rows;
    }

-- More points, then more wins, then the higher Sonneborn-Berger number, then the lower member number.
abbrev pub is_placed_above : FieldLine → FieldLine → Bool
is_placed_above a b =
    nat_lt b.standing.sums.points a.standing.sums.points
    || (a.standing.sums.points == b.standing.sums.points
    && (nat_lt b.standing.sums.wins a.standing.sums.wins
    || (a.standing.sums.wins == b.standing.sums.wins
    && (nat_lt b.sonneborn_berger a.sonneborn_berger
    || (a.sonneborn_berger == b.sonneborn_berger && nat_lt a.standing.member b.standing.member)))))

-- The lines of the entrants, in the order of places.
pub record IsField (last : ℕ) (rows : List OpponentScore) (games : List EventGame) (lines : List FieldLine)
    : Type 0 where
  pub lines_of : IsPermutation (map (line_of rows games) (entrants last games)) lines
  pub ranked : IsSortedBy is_placed_above lines
