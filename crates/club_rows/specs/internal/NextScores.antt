-- The rows of scores of two players after one more game. No promise of the program rests on these definitions.
use Rattle.std.specs.Prelude.{◌≡◌, ◌+ℤ◌, ℕ, pos, negsuc, true, List, [], ◌∷◌, ◌++◌, Option, Some, None}
use Rattle.std.specs.Int.RustNames.{FitsSigned}
use Rattle.std.specs.Int.{w64}
use Rattle.sqlite_value.specs.declared.value.Value.TheVariants.{Int}
use Rattle.sqlite.specs.Order.{Row}
use Rattle.sqlite_rules.specs.Lists.{Has}
use Rattle.squares.specs.declared.sides.Score.{Score}
use Rattle.store_tables.specs.internal.Cells.{score_cells}
use Rattle.store_tables.specs.Content.{same_key}
use Rattle.store_tables.specs.declared.rows.ScoreRow.{ScoreRow}
use Rattle.club_rows.specs.Scores.{Meeting, meetings, wins, draws, losses, points, scores_of, score_row, score_rows}
use Rattle.club_rows.specs.declared.scores.Pair.{Pair}
use Rattle.club_rows.specs.declared.scores.OwnScore.{OwnScore}
use Rattle.club_rows.specs.declared.scores.OwnScore.TheVariants.{Won, Drew, Lost, Void}
use Rattle.club_rows.specs.declared.scores.ScoreRows.{ScoreRows}
use Rattle.club_rows.specs.declared.scores.ScoreSums.{ScoreSums}

-- ---- the lookup of a pair's row, and the two rows of a game

abbrev pub pair_of : (event member opponent : ℕ) → Pair
pair_of event member opponent = record { event = pos event; member = pos member; opponent = pos opponent }

abbrev pub pair_cells : Pair → Row
pair_cells pair = Int pair.event ∷ Int pair.member ∷ Int pair.opponent ∷ []

-- the row of this pair, if there is one
abbrev pub IsFound : List Row → Pair → Option ScoreRow → Type 0
IsFound rows pair None = (row : Row) → Has rows row → same_key (0 ∷ 1 ∷ 2 ∷ []) row (pair_cells pair) ≡ true → ⊥
IsFound rows pair (Some found) = Has rows (score_cells found)
    × (same_key (0 ∷ 1 ∷ 2 ∷ []) (score_cells found) (pair_cells pair) ≡ true)

-- the rows of First and Second sum up these ended games
pub record AreScoresOf (ms : List Meeting) (event first second : ℕ) (rows : ScoreRows) : Type 0 where
  pub of_first : score_cells rows.first ≡ score_row (pair_of event first second)
      (scores_of (pair_of event first second) ms)
  pub of_second : score_cells rows.second ≡ score_row (pair_of event second first)
      (scores_of (pair_of event second first) ms)

-- the rows found are those of First and Second after these ended games
pub record AreFound (event first second : ℕ) (firsts seconds : Option ScoreRow) (ms : List Meeting) : Type 0 where
  pub of_first : IsFound (score_rows ms) (pair_of event first second) firsts
  pub of_second : IsFound (score_rows ms) (pair_of event second first) seconds

-- if the rows found sum up any ended games, the new rows sum up these and one more
abbrev pub AreNext : (event first second : ℕ) → Option Score → (firsts seconds : Option ScoreRow) → ScoreRows → Type 0
AreNext event first second score firsts seconds rows =
    (before after : List Meeting) → AreFound event first second firsts seconds (before ++ after)
    → AreScoresOf (before ++ (meetings (pos event) (pos first) (pos second) score ++ after)) event first second rows

-- if the rows found sum up any ended games with one of this score, the new rows sum up the same with another score
abbrev pub AreChanged : (event first second : ℕ) → (old new : Option Score) → (firsts seconds : Option ScoreRow)
    → ScoreRows → Type 0
AreChanged event first second old new firsts seconds rows =
    (before after : List Meeting)
    → AreFound event first second firsts seconds
    (before ++ (meetings (pos event) (pos first) (pos second) old ++ after))
    → AreScoresOf (before ++ (meetings (pos event) (pos first) (pos second) new ++ after)) event first second rows

-- ---- sums in the tables

-- the sums of results
abbrev pub sums_over : List OwnScore → ScoreSums
sums_over scores =
    record {
      points = pos (points scores);
      wins = pos (wins scores);
      draws = pos (draws scores);
      losses = pos (losses scores);
    }

-- the sums of one result
abbrev pub gains_of : OwnScore → ScoreSums
gains_of Won = record { points = pos 2; wins = pos 1; draws = pos 0; losses = pos 0 }
gains_of Drew = record { points = pos 1; wins = pos 0; draws = pos 1; losses = pos 0 }
gains_of Lost = record { points = pos 0; wins = pos 0; draws = pos 0; losses = pos 1 }
gains_of Void = record { points = pos 0; wins = pos 0; draws = pos 0; losses = pos 0 }

abbrev pub plus_sums : ScoreSums → ScoreSums → ScoreSums
plus_sums a b =
    record {
      points = a.points +ℤ b.points;
      wins = a.wins +ℤ b.wins;
      draws = a.draws +ℤ b.draws;
      losses = a.losses +ℤ b.losses;
    }

-- the sums that take one result back
abbrev pub undoing : OwnScore → ScoreSums
undoing Won = record { points = negsuc 1; wins = negsuc 0; draws = pos 0; losses = pos 0 }
undoing Drew = record { points = negsuc 0; wins = pos 0; draws = negsuc 0; losses = pos 0 }
undoing Lost = record { points = pos 0; wins = pos 0; draws = pos 0; losses = negsuc 0 }
undoing Void = record { points = pos 0; wins = pos 0; draws = pos 0; losses = pos 0 }

pub record Fit (sums : ScoreSums) : Type 0 where
  pub points : FitsSigned w64 sums.points
  pub wins : FitsSigned w64 sums.wins
  pub draws : FitsSigned w64 sums.draws
  pub losses : FitsSigned w64 sums.losses

abbrev pub no_sums : ScoreSums
no_sums = record { points = pos 0; wins = pos 0; draws = pos 0; losses = pos 0 }

-- the sums of a row; zeros if there is none
abbrev pub sums_found : Option ScoreRow → ScoreSums
sums_found None = no_sums
sums_found (Some row) = record { points = row.points; wins = row.wins; draws = row.draws; losses = row.losses }

abbrev pub row_with : Pair → ScoreSums → ScoreRow
row_with pair sums =
    record {
      event = pair.event;
      member = pair.member;
      opponent = pair.opponent;
      points = sums.points;
      wins = sums.wins;
      draws = sums.draws;
      losses = sums.losses;
    }
