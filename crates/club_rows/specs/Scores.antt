-- The scores of members against opponents in the ended games of an event: 2 points for a win, 1 for a draw. A void game
-- counts for nothing, but its players have met.
use Rattle.std.specs.Prelude.{◌+◌, ◌*◌, ◌&&◌, ℕ, ℤ, pos, Bool, true, false, not, List, [], ◌∷◌, map, filter, count_by}
use Rattle.std.specs.Prelude.{Option, Some, None}
use Rattle.std.specs.Ordering.{int_eq}
use Rattle.std.specs.List.{flat_map}
use Rattle.sqlite_value.specs.declared.value.Value.{Value}
use Rattle.sqlite_value.specs.declared.value.Value.TheVariants.{Int}
use Rattle.sqlite.specs.Order.{Row}
use Rattle.squares.specs.declared.sides.Score.{Score}
use Rattle.squares.specs.declared.sides.Score.TheVariants as score
use Rattle.club_rules.specs.GameRules.{GameRules}
use Rattle.club_core.specs.ClubRules.{ClubRules}
use Rattle.club_core.specs.declared.rows.GameEnd.{GameEnd}
use Rattle.club_core.specs.Game.{Game, end_of, result_of}
use Rattle.club_core.specs.State.{AnyGame, draughts, shogi}
use Rattle.club_rows.specs.declared.scores.Pair.{Pair}
use Rattle.club_rows.specs.declared.scores.OwnScore.{OwnScore}
use Rattle.club_rows.specs.declared.scores.OwnScore.TheVariants.{Won, Drew, Lost, Void}

-- ---- an ended game from each player's side

-- an ended game from one player's side
pub record Meeting : Type 0 where
  pub pair : Pair
  pub score : OwnScore

-- First's own result in an ended game with this score; a void game has none
abbrev pub own_first : Option Score → OwnScore
own_first None = Void
own_first (Some score.FirstWins) = Won
own_first (Some score.Draw) = Drew
own_first (Some score.SecondWins) = Lost

-- Second's own result in an ended game with this score
abbrev pub own_second : Option Score → OwnScore
own_second None = Void
own_second (Some score.FirstWins) = Lost
own_second (Some score.Draw) = Drew
own_second (Some score.SecondWins) = Won

-- an ended game from First's side and from Second's
abbrev pub meetings : (event first second : ℤ) → Option Score → List Meeting
meetings event first second score =
    record { pair = record { event = event; member = first; opponent = second }; score = own_first score }
    ∷ record { pair = record { event = event; member = second; opponent = first }; score = own_second score }
    ∷ []

-- the game from both sides if it has this end; nothing while it is running
abbrev pub meetings_if : {E : Type 0} → (event first second : ℤ) → Option (GameEnd E) → Option Score → List Meeting
meetings_if event first second None score = []
meetings_if event first second (Some end) score = meetings event first second score

-- ---- the sums of a member's results

-- the member won
abbrev pub is_win : OwnScore → Bool
is_win Won = true
is_win Drew = false
is_win Lost = false
is_win Void = false

-- the member drew
abbrev pub is_draw : OwnScore → Bool
is_draw Won = false
is_draw Drew = true
is_draw Lost = false
is_draw Void = false

-- the member lost
abbrev pub is_loss : OwnScore → Bool
is_loss Won = false
is_loss Drew = false
is_loss Lost = true
is_loss Void = false

-- the number of wins
abbrev pub wins : List OwnScore → ℕ
wins scores = count_by is_win scores

-- the number of draws
abbrev pub draws : List OwnScore → ℕ
draws scores = count_by is_draw scores

-- the number of losses
abbrev pub losses : List OwnScore → ℕ
losses scores = count_by is_loss scores

-- the points of these results, 2 for a win and 1 for a draw
abbrev pub points : List OwnScore → ℕ
points scores = 2 * wins scores + draws scores

-- ---- the rows

-- the same member against the same opponent in the same event
abbrev pub same_pair : Pair → Pair → Bool
same_pair one other = int_eq one.event other.event &&
    (int_eq one.member other.member && int_eq one.opponent other.opponent)

-- the member's results against the opponent in the event
abbrev pub scores_of : Pair → List Meeting → List OwnScore
scores_of pair ms = map (λ m. m.score) (filter (λ m. same_pair m.pair pair) ms)

-- each pair once, in the order of first occurrence
abbrev pub once_each : List Pair → List Pair
once_each [] = []
once_each (pair ∷ pairs) = pair ∷ filter (λ other. not (same_pair other pair)) (once_each pairs)

-- a count as an SQL integer
abbrev pub amount : ℕ → Value
amount n = Int (pos n)

-- the row of `scores` of a pair, with the sums of these results
abbrev pub score_row : Pair → List OwnScore → Row
score_row pair scores =
    Int pair.event
    ∷ Int pair.member
    ∷ Int pair.opponent
    ∷ amount (points scores)
    ∷ amount (wins scores)
    ∷ amount (draws scores)
    ∷ amount (losses scores)
    ∷ []

-- one row for each pair that has met, with its sums
abbrev pub score_rows : List Meeting → List Row
score_rows ms = map (λ pair. score_row pair (scores_of pair ms)) (once_each (map (λ m. m.pair) ms))

-- ---- a club

-- the game from both sides if it has ended; nothing while it is running
abbrev pub meetings_of : {P M E T : Type 0} → GameRules P M E T → Game M → List Meeting
meetings_of rules game =
    meetings_if (pos game.event) (pos game.first) (pos game.second) (end_of rules game) (result_of rules game)

module _ {DP DM DE DT SP SM SE ST : Type 0} (rules : ClubRules DP DM DE DT SP SM SE ST) where
  -- the same for a draughts or a shogi game of a club
  abbrev pub meetings_in : AnyGame DM SM → List Meeting
  meetings_in (draughts g) = meetings_of rules.draughts g
  meetings_in (shogi g) = meetings_of rules.shogi g

  -- the rows of scores of all games of a club
  abbrev pub scores_in : List (AnyGame DM SM) → List Row
  scores_in games = score_rows (flat_map meetings_in games)
