-- The club as a state machine, and the effect of a command on its tables. No promise of the program rests on these
-- definitions.
use Rattle.std.specs.Prelude.{◌≡◌, ◌≢◌, ◌⊎◌, ◌+◌, ◌++◌, ℕ, pos, List, [], ◌∷◌, length, map, Option, Some, None}
use Rattle.std.specs.Prelude.{is_some, slice_get, true}
use Rattle.std.specs.Option.{option_map}
use Rattle.sqlite.specs.Order.{Row}
use Rattle.store_tables.specs.internal.Changes as internal_changes
pub use Rattle.store_tables.specs.Changes.{HaveSame}
use Rattle.club_rules.specs.declared.names.GameKind.{GameKind}
use Rattle.club_rules.specs.declared.names.GameKind.TheVariants.{Draughts, Shogi}
use Rattle.club_rules.specs.GameRules.{GameRules}
use Rattle.club_requests.specs.declared.requests.Caller.{Caller}
use Rattle.club_core.specs.Events.{Terms, Event}
use Rattle.squares.specs.declared.sides.Score.{Score}
use Rattle.sqlite.specs.declared.types.Value.TheVariants.{Text}
use Rattle.club_core.specs.declared.decided.Decision.{Decision}
use Rattle.club_core.specs.declared.decided.Decision.TheVariants as decision
use Rattle.club_core.specs.declared.rows.GameEnd.{GameEnd}
use Rattle.club_core.specs.declared.rows.GameRow.{GameRow}
use Rattle.club_core.specs.Game.{Game, Entry, end_of, last_position, result_of}
use Rattle.club_core.specs.Rulings.{verdict_of}
use Rattle.club_core.specs.Step.{ruled}
use Rattle.club_requests.specs.declared.rulings.Ruling.{Ruling}
use Rattle.club_requests.specs.Rulings.{verdict_in}
use Rattle.club_requests.specs.Outcome.{MoveReply, Outcome, accepted, repeated, refused}
use Rattle.club_requests.specs.declared.answers.Answer.{Answer}
use Rattle.club_requests.specs.declared.answers.Answer.TheVariants as answer
use Rattle.club_core.specs.Answer.{answered, outcome_of, move_reply_of}
use Rattle.club_core.specs.declared.seats.Pairing.{Pairing}
use Rattle.club_core.specs.State.{Command, place, kind_at, seated, seated_as, state_after, step_command}
pub use Rattle.club_rows.specs.internal.LegalRows.{IsRecordOf}
use Rattle.club_rows.specs.internal.RowView.{row_at}
use Rattle.club_rows.specs.Club.{ClubGame, both_games, ClubState, tables}
use Rattle.club_rows.specs.internal.Made.{made_row}
use Rattle.club_rows.specs.internal.NextScores.{AreChanged, AreNext, pair_of, IsFound as score_found}
use Rattle.club_rows.specs.Scores.{Meeting, meetings_in}
use Rattle.club_rows.specs.Seen.{seen_rows}
use Rattle.club_rows.specs.internal.Seen.{IsSeenRow, IsFound}
use Rattle.club_rows.specs.declared.scores.ScoreRows.{ScoreRows}
use Rattle.club_rows.specs.Tables.{number, game_row, move_rows, row_of_game, rows_of_seen, version_of}
use Rattle.club_rows.specs.Tables.{kept_by, replaced_by, ruling_row, ruling_rows}
use Rattle.store_tables.specs.Cells.{event_cells, move_cells, game_cells, ruling_cells}
use Rattle.store_tables.specs.internal.Cells.{member_cells, challenge_cells}
use Rattle.store_tables.specs.Cells.{seen_cells}
use Rattle.store_tables.specs.internal.Cells.{event_rule_cells, score_cells}
use Rattle.store_tables.specs.internal.Cells.{closing_cells, key_cells}
use Rattle.store_tables.specs.Contents.{Content}
use Rattle.store_tables.specs.internal.Contents.{AreThose}
use Rattle.store_tables.specs.internal.Tables.{club_schema}
use Rattle.store_tables.specs.declared.rows.Changes.{Changes}
use Rattle.store_tables.specs.declared.rows.MoveRow.{MoveRow}
use Rattle.store_tables.specs.declared.rows.RulingRow.{RulingRow}
use Rattle.store_tables.specs.declared.rows.SeenRow.{SeenRow}
use Rattle.store_tables.specs.declared.rows.ScoreRow.{ScoreRow}
use Rattle.club_changes.specs.declared.decided.CommandEffect.{CommandEffect}
use Rattle.store_tables.specs.internal.Changed.{FitsVersion, changed}
use Rattle.store_tables.specs.Names.{tree_of}
use Rattle.store_tables.specs.declared.names.Table.TheVariants.{Moves, Seen}
use Rattle.store_tables.specs.declared.names.Version.{Version}

-- a step by a caller's command, with the effective timestamp
abbrev pub caller_step : ClubState → ℕ → Caller → Command → Outcome ClubState
caller_step = step_command both_games

-- the row of a game of the club
abbrev pub game_in : ClubState → ℕ → ClubGame → Row
game_in s = row_of_game both_games s.events

-- ---- rows

-- each table of a club has the same rows, in any order
abbrev pub AreSame : Content → Content → Type 0
AreSame = internal_changes.AreSame club_schema

-- The rows to upsert in each table, except `meta`.
pub record PutRows : Type 0 where
  pub members : List Row
  pub events : List Row
  pub rules : List Row
  pub challenges : List Row
  pub games : List Row
  pub moves : List Row
  pub seen : List Row
  pub scores : List Row
  pub keys : List Row
  pub rulings : List Row
  pub closings : List Row

abbrev pub no_rows : PutRows
no_rows = record {
  members = [];
  events = [];
  rules = [];
  challenges = [];
  games = [];
  moves = [];
  seen = [];
  scores = [];
  keys = [];
  rulings = [];
  closings = [];
}

-- Exactly these rows are upserted, with this timestamp as that of the last accepted command.
pub record Puts (changes : Changes) (moment : ℕ) (rows : PutRows) : Type 0 where
  pub last : changes.last ≡ Some (pos moment)
  pub members_are : map member_cells changes.members.items ≡ rows.members
  pub events_are : map event_cells changes.events.items ≡ rows.events
  pub rules_are : map event_rule_cells changes.event_rules.items ≡ rows.rules
  pub challenges_are : map challenge_cells changes.challenges.items ≡ rows.challenges
  pub games_are : map game_cells changes.games.items ≡ rows.games
  pub moves_are : map move_cells changes.moves.items ≡ rows.moves
  pub seen_are : map seen_cells changes.seen.items ≡ rows.seen
  pub scores_are : map score_cells changes.scores.items ≡ rows.scores
  pub keys_are : map key_cells changes.keys.items ≡ rows.keys
  pub rulings_are : map ruling_cells changes.rulings.items ≡ rows.rulings
  pub closings_are : map closing_cells changes.closings.items ≡ rows.closings

-- the club can store the rows: only a club with an arbiter has the arbiter's tables
abbrev pub AreTaken : ClubState → PutRows → Type 0
AreTaken s rows = (s.has_arbiter ≡ true) ⊎ ((rows.keys ≡ []) × (rows.rulings ≡ []) × (rows.closings ≡ []))

-- the row of a position, if there is one
abbrev pub seen_list : Option SeenRow → List Row
seen_list None = []
seen_list (Some row) = seen_cells row ∷ []

-- the rows of the two players, if there are any
abbrev pub score_list : Option ScoreRows → List Row
score_list None = []
score_list (Some pair) = score_cells pair.first ∷ score_cells pair.second ∷ []

-- the row of a ruling, if there is one
abbrev pub ruling_list : Option RulingRow → List Row
ruling_list None = []
ruling_list (Some row) = ruling_cells row ∷ []

-- The rows of scores to upsert after an ended game: those of its two players, from those in the table. A void game has
-- no score.
pub record PutsScores (table : List Row) (event first second : ℕ) (score : Option Score) (rows : List Row)
    : Type 0 where
  pub firsts : Option ScoreRow
  pub seconds : Option ScoreRow
  pub pair : ScoreRows
  pub firsts_are : score_found table (pair_of event first second) firsts
  pub seconds_are : score_found table (pair_of event second first) seconds
  pub next : AreNext event first second score firsts seconds pair
  pub rows_are : rows ≡ score_cells pair.first ∷ score_cells pair.second ∷ []

-- the same for a game with this end; none while the game runs
abbrev pub PutsScoresOf : {E : Type 0} → List Row → (event first second : ℕ) → Option (GameEnd E) → Option Score
    → List Row → Type 0
PutsScoresOf table event first second None score rows = rows ≡ []
PutsScoresOf table event first second (Some end) score rows = PutsScores table event first second score rows

-- The rows of scores to upsert after a verdict on an ended game: those of its two players, with another score of this
-- game.
pub record ChangesScores (table : List Row) (event first second : ℕ) (old new : Option Score) (rows : List Row)
    : Type 0 where
  pub firsts : Option ScoreRow
  pub seconds : Option ScoreRow
  pub pair : ScoreRows
  pub firsts_are : score_found table (pair_of event first second) firsts
  pub seconds_are : score_found table (pair_of event second first) seconds
  pub changed : AreChanged event first second old new firsts seconds pair
  pub rows_are : rows ≡ score_cells pair.first ∷ score_cells pair.second ∷ []

-- the same after a ruling on a game, by its end and its score before and after it
abbrev pub PutsRuledScores : {E : Type 0} → List Row → (event first second : ℕ) → Option (GameEnd E) → Option Score
    → Option (GameEnd E) → Option Score → List Row → Type 0
PutsRuledScores table event first second None old end new rows = PutsScoresOf table event first second end new rows
PutsRuledScores table event first second (Some was) old end new rows =
    ChangesScores table event first second old new rows

abbrev pub changed_if : Version → Option Changes → Content → Content
changed_if version None content = content
changed_if version (Some changes) content = changed version changes content

abbrev pub FitsIfAny : Version → Option Changes → Type 0
FitsIfAny version None = Unit {0}
FitsIfAny version (Some changes) = FitsVersion version changes

-- The rows to upsert fit the club's schema version, and turn the tables of one state into those of the other.
pub record Makes (old new : ClubState) (changes : Option Changes) : Type 0 where
  pub fits : FitsIfAny (version_of old) changes
  pub rows : AreSame (changed_if (version_of old) changes (tables old)) (tables new)

-- ---- games that start

-- the row of a new game with this kind and these terms, with or without a key
abbrev pub first_row : GameKind → Terms → ℕ → Option (List ℕ) → Pairing → ℕ → Row
first_row Draughts terms id key pairing moment = game_row both_games.draughts terms id (seated key pairing moment)
first_row Shogi terms id key pairing moment = game_row both_games.shogi terms id (seated key pairing moment)

-- the rows of the positions of a new game of this kind
abbrev pub first_seen_rows : GameKind → ℕ → Option (List ℕ) → Pairing → ℕ → List Row
first_seen_rows Draughts id key pairing moment = seen_rows both_games.draughts id (seated key pairing moment)
first_seen_rows Shogi id key pairing moment = seen_rows both_games.shogi id (seated key pairing moment)

-- the rows of the positions of a new game in one of these events
abbrev pub started_seen : List Event → ℕ → Option (List ℕ) → Pairing → ℕ → List Row
started_seen events id key pairing moment =
    rows_of_seen both_games id (seated_as (kind_at (place events pairing.event)) key pairing moment)

-- the results of a new game of this kind: none, as it has not ended
abbrev pub first_meetings : GameKind → Option (List ℕ) → Pairing → ℕ → List Meeting
first_meetings kind key pairing moment = meetings_in both_games (seated_as kind key pairing moment)

abbrev pub started_scores : List Event → Option (List ℕ) → Pairing → ℕ → List Meeting
started_scores events key pairing moment = first_meetings (kind_at (place events pairing.event)) key pairing moment

-- the row of a new game in one of these events
abbrev pub started : List Event → ℕ → Option (List ℕ) → Pairing → ℕ → Row
started events id key pairing moment = row_of_game both_games events id
    (seated_as (kind_at (place events pairing.event)) key pairing moment)

-- ---- the effect of a command

-- the row of the move, if the reply is to a move
abbrev pub answered_rows : ℕ → Answer → ℕ → List Row
answered_rows id (answer.Moved mv) moment = made_row id (move_reply_of mv) moment ∷ []
answered_rows id _ moment = []

-- the remaining seconds in the reply to a move, else 0
abbrev pub left_answered : Answer → ℕ
left_answered (answer.Moved mv) = mv.left
left_answered _ = 0

-- a lookup of a position of this game in the content finds its row
abbrev pub FindsSeenRows : {P M E T : Type 0} → GameRules P M E T → ℕ → Game M → Content → Type 0
FindsSeenRows laws id game content =
    (text : List ℕ) (found : List SeenRow) →
    AreThose (0 ∷ 1 ∷ []) (number id ∷ Text text ∷ []) (content (tree_of Seen)) (map seen_cells found)
    → IsFound laws id game text (slice_get found 0)

-- a lookup of a ply of this game in the content finds its row
abbrev pub FindsMoveRows : {P M E T : Type 0} → GameRules P M E T → Terms → ℕ → Game M → Content → Type 0
FindsMoveRows laws terms id game content =
    (ply : ℕ) (found : List MoveRow) → AreThose (0 ∷ 1 ∷ []) (number id ∷ number ply ∷ []) (content (tree_of Moves))
    (map move_cells found)
    → option_map move_cells (slice_get found 0) ≡ row_at laws terms id game ply

-- the rows of moves with this id are this game's
abbrev pub TellsLine : {P M E T : Type 0} → GameRules P M E T → Terms → ℕ → Game M → Content → Type 0
TellsLine laws terms id game content =
    (found : List Row) → AreThose (0 ∷ []) (number id ∷ []) (content (tree_of Moves)) found
    → HaveSame found (move_rows laws terms id game)

-- the row of the last position after a step
abbrev pub HasSeen : {P M E T : Type 0} → GameRules P M E T → ℕ → Outcome (Game M) → Option SeenRow → Type 0
HasSeen laws id (accepted new reply) seen =
    (row : SeenRow) × (seen ≡ Some row) × IsSeenRow laws id new (laws.write_position (last_position laws new))
    (seen_cells row)
HasSeen laws id (repeated reply) seen = Unit {0}
HasSeen laws id (refused refusal) seen = Unit {0}

-- the same after a decision that made a move; None if it made none
abbrev pub IsSeenAfter : {R P M E T : Type 0} → GameRules P M E T → ℕ → Outcome (Game M) → Decision R P M E T
    → Option SeenRow → Type 0
IsSeenAfter laws id outcome (decision.Accepted row (Some made) answer) seen = HasSeen laws id outcome seen
IsSeenAfter laws id outcome (decision.Accepted row None answer) seen = seen ≡ None
IsSeenAfter laws id outcome (decision.Repeated answer) seen = Unit {0}
IsSeenAfter laws id outcome (decision.Refused refusal) seen = Unit {0}

-- the players of an accepted decision's game differ
abbrev pub HasTwoPlayers : {R P M E T : Type 0} → Decision R P M E T → Type 0
HasTwoPlayers (decision.Accepted row made answer) = row.first ≢ row.second
HasTwoPlayers (decision.Repeated answer) = Unit {0}
HasTwoPlayers (decision.Refused refusal) = Unit {0}

-- the rows of scores that a decision changes
abbrev pub AreScoresAfter : {R P M E T : Type 0} → List Row → Decision R P M E T → Option ScoreRows → Type 0
AreScoresAfter table (decision.Accepted row made answer) scores =
    PutsScoresOf table row.event row.first row.second row.end row.result (score_list scores)
AreScoresAfter table (decision.Repeated answer) scores = Unit {0}
AreScoresAfter table (decision.Refused refusal) scores = Unit {0}

-- the rows of scores that a ruling on the game in this row changes
abbrev pub AreScoresRuled : {R P M E T : Type 0} → List Row → GameRow E → Decision R P M E T → Option ScoreRows → Type 0
AreScoresRuled table old (decision.Accepted row made answer) scores =
    PutsRuledScores table row.event row.first row.second old.end old.result row.end row.result (score_list scores)
AreScoresRuled table old (decision.Repeated answer) scores = Unit {0}
AreScoresRuled table old (decision.Refused refusal) scores = Unit {0}

-- the row of `rulings` of the next ruling on a game; the first verdict has the end outside the rules beneath it
abbrev pub next_ruling_row : {M : Type 0} → ℕ → Game M → Ruling → ℕ → Row
next_ruling_row id game ruling moment =
    ruling_row id (length game.rulings + 1)
    (record { ruling = ruling; moment = moment; plies = length game.entries })
    (replaced_by (verdict_in ruling) (kept_by (verdict_of game.rulings) game.outside))

-- the row of a ruling that a step accepts
abbrev pub HasRulingRow : {M : Type 0} → ℕ → Game M → Ruling → ℕ → Outcome (Game M) → Option RulingRow → Type 0
HasRulingRow id old ruling moment (accepted new reply) row = ruling_list row ≡ next_ruling_row id old ruling moment ∷ []
HasRulingRow id old ruling moment (repeated reply) row = Unit {0}
HasRulingRow id old ruling moment (refused refusal) row = Unit {0}

-- The rows to upsert after a move: the game's, the new move's, that of the position after it, and the scores if the
-- game has ended.
pub record PutsMove {P M E T : Type 0} (laws : GameRules P M E T) (terms : Terms) (id moment : ℕ) (table : List Row)
    (old new : Game M) (changes : Changes) : Type 0 where
  pub event : new.event ≡ old.event
  pub running : end_of laws old ≡ None
  pub entry : Entry M
  pub entries : new.entries ≡ old.entries ++ entry ∷ []
  pub reply : MoveReply
  pub ply : reply.ply ≡ length old.entries + 1
  pub seen : Row
  pub seen_is : IsSeenRow laws id new (laws.write_position (last_position laws new)) seen
  pub scores : List Row
  pub scores_are : PutsScoresOf table new.event new.first new.second (end_of laws new) (result_of laws new) scores
  pub puts : Puts changes moment
      (record no_rows {
        games = game_row laws terms id new ∷ [];
        moves = made_row id reply moment ∷ [];
        seen = seen ∷ [];
        scores = scores;
      })
  pub grown : move_rows laws terms id new ≡ move_rows laws terms id old ++ made_row id reply moment ∷ []
  pub rulings : ruling_rows id new ≡ ruling_rows id old

-- The rows to upsert if a running game changes without a move: the game's, and the scores if it has ended.
pub record PutsRow {P M E T : Type 0} (laws : GameRules P M E T) (terms : Terms) (id moment : ℕ) (table : List Row)
    (old new : Game M) (changes : Changes) : Type 0 where
  pub event : new.event ≡ old.event
  pub running : end_of laws old ≡ None
  pub entries : new.entries ≡ old.entries
  pub scores : List Row
  pub scores_are : PutsScoresOf table new.event new.first new.second (end_of laws new) (result_of laws new) scores
  pub puts : Puts changes moment (record no_rows { games = game_row laws terms id new ∷ []; scores = scores })
  pub stays : move_rows laws terms id new ≡ move_rows laws terms id old
  pub rulings : ruling_rows id new ≡ ruling_rows id old

-- The rows to upsert after a ruling: the game's, the ruling's, and the scores if the result changes.
pub record PutsRuling {P M E T : Type 0} (laws : GameRules P M E T) (terms : Terms) (id moment : ℕ) (table : List Row)
    (old new : Game M) (changes : Changes) : Type 0 where
  pub ruling : Ruling
  pub new_is : new ≡ ruled old ruling moment
  pub over : is_some (end_of laws old) ≡ true → is_some (end_of laws new) ≡ true
  pub scores : List Row
  pub scores_are : PutsRuledScores table new.event new.first new.second (end_of laws old) (result_of laws old)
      (end_of laws new) (result_of laws new) scores
  pub puts : Puts changes moment
      (record no_rows {
        games = game_row laws terms id new ∷ [];
        rulings = next_ruling_row id old ruling moment ∷ [];
        scores = scores;
      })

-- no rows if the command was not accepted
abbrev pub PutsGame : {P M E T : Type 0} → GameRules P M E T → Terms → ℕ → ℕ → List Row → Game M → Outcome (Game M)
    → Option Changes → Type 0
PutsGame laws terms id moment table old (accepted new reply) (Some changes) =
    PutsMove laws terms id moment table old new changes ⊎ PutsRow laws terms id moment table old new changes
PutsGame laws terms id moment table old (repeated reply) None = Unit {0}
PutsGame laws terms id moment table old (refused refusal) None = Unit {0}
PutsGame laws terms id moment table old (accepted new reply) None = ⊥
PutsGame laws terms id moment table old (repeated reply) (Some changes) = ⊥
PutsGame laws terms id moment table old (refused refusal) (Some changes) = ⊥

-- The effect has the outcome of the step in a game, and its rows to upsert over this table of scores.
pub record IsDecidedIn {P M E T : Type 0} (laws : GameRules P M E T) (terms : Terms) (id moment : ℕ) (table : List Row)
    (old : Game M) (after : Outcome (Game M)) (decided : CommandEffect) : Type 0 where
  pub answer : outcome_of decided.outcome ≡ answered after
  pub puts : PutsGame laws terms id moment table old after decided.changes

-- no rows if the ruling was not accepted
abbrev pub PutsRuled : {P M E T : Type 0} → GameRules P M E T → Terms → ℕ → ℕ → List Row → Game M → Outcome (Game M)
    → Option Changes → Type 0
PutsRuled laws terms id moment table old (accepted new reply) (Some changes) =
    PutsRuling laws terms id moment table old new changes
PutsRuled laws terms id moment table old (repeated reply) None = Unit {0}
PutsRuled laws terms id moment table old (refused refusal) None = Unit {0}
PutsRuled laws terms id moment table old (accepted new reply) None = ⊥
PutsRuled laws terms id moment table old (repeated reply) (Some changes) = ⊥
PutsRuled laws terms id moment table old (refused refusal) (Some changes) = ⊥

-- The effect has the outcome of a ruling on a game, and its rows to upsert over this table of scores.
pub record IsRuledIn {P M E T : Type 0} (laws : GameRules P M E T) (terms : Terms) (id moment : ℕ) (table : List Row)
    (old : Game M) (after : Outcome (Game M)) (decided : CommandEffect) : Type 0 where
  pub answer : outcome_of decided.outcome ≡ answered after
  pub puts : PutsRuled laws terms id moment table old after decided.changes

-- The effect has the outcome of the step, and rows that turn the old state's tables into the new state's.
pub record IsDecided (s : ClubState) (after : Outcome ClubState) (decided : CommandEffect) : Type 0 where
  pub answer : outcome_of decided.outcome ≡ answered after
  pub makes : Makes s (state_after s after) decided.changes
