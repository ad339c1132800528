-- The keys of rows of scores, and a map from them to sums. No promise of the program rests on these definitions.
use Rattle.std.specs.Prelude.{Option}
use Rattle.std.specs.HashMap.{HashMap, get}
use Rattle.store_tables.specs.declared.rows.GameTableRow.{GameTableRow}
use Rattle.store_tables.specs.declared.rows.ScoreRow.{ScoreRow}
use Rattle.club_rows.specs.Scores.{same_pair}
use Rattle.club_rows.specs.declared.scores.Pair.{Pair}
use Rattle.club_rows.specs.declared.scores.ScoreSums.{ScoreSums}

-- the key of a row of scores
abbrev pub pair_in : ScoreRow → Pair
pair_in row = record { event = row.event; member = row.member; opponent = row.opponent }

-- the keys of First's and of Second's score in a game
abbrev pub firsts_pair : GameTableRow → Pair
firsts_pair game = record { event = game.event; member = game.first; opponent = game.second }

abbrev pub seconds_pair : GameTableRow → Pair
seconds_pair game = record { event = game.event; member = game.second; opponent = game.first }

-- the sums of a pair, if it has any
abbrev pub sums_at : {S : Type 0} → HashMap Pair ScoreSums S → Pair → Option ScoreSums
sums_at standings pair = get same_pair standings pair
