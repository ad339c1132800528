-- The transition that imports a recorded game into an event.
use Rattle.std.specs.Prelude.{ℕ, ◌+◌, List, [], ◌∷◌, length, map, Option, Some, None, Bool, true, false, not, is_some}
use Rattle.std.specs.Prelude.{◌&&◌, nat_le, if◌then◌else◌}
use Rattle.squares.specs.declared.sides.Score.{Score}
use Rattle.squares.specs.Sides.{same_score}
use Rattle.club_rules.specs.declared.records.RecordFormat.{RecordFormat}
use Rattle.club_rules.specs.declared.records.RecordFormat.TheVariants.{Pdn, Csa}
use Rattle.club_rules.specs.declared.record_refusals.RecordRefusal.TheVariants.{ResultDiffers}
use Rattle.club_rules.specs.GameRules.{GameRules}
use Rattle.club_rules.specs.Records as record_is
use Rattle.club_rules.specs.Records.{Recorded, Reading, GameRecords}
use Rattle.club_requests.specs.declared.outside_end.OutsideEnd.{OutsideEnd}
use Rattle.club_requests.specs.declared.outside_end.OutsideEnd.TheVariants.{Recorded as by_record}
use Rattle.club_requests.specs.declared.refusals.Refusal.{Refusal}
use Rattle.club_requests.specs.declared.refusals.Refusal.TheVariants.{UnknownEvent, Conflict, BadValue, Full, Record}
use Rattle.club_requests.specs.Limits.{most_games, most_record_bytes, is_name}
use Rattle.club_requests.specs.Outcome.{Reply, game_seated, Outcome, accepted, refused, first_refusal, unless}
use Rattle.club_requests.specs.Outcome.{unless_repeat}
use Rattle.club_core.specs.declared.seats.KeyedGame.{KeyedGame}
use Rattle.club_core.specs.declared.seats.Pairing.{Pairing}
use Rattle.club_core.specs.Seats.{are_distinct, same_seats}
use Rattle.club_core.specs.Game.{Game, moves_of, result_beneath}

-- an import: the key of the new game, the names of its event and its players, and one part of a text in a format
pub record Import : Type 0 where
  pub key : List ℕ
  pub event : List ℕ
  pub first : List ℕ
  pub second : List ℕ
  pub part : ℕ
  pub format : RecordFormat
  pub text : List ℕ

-- a recorded game of an event between two players
pub record Imported (M : Type 0) : Type 0 where
  pub pairing : Pairing
  pub recorded : Recorded M

-- equality of formats
abbrev pub same_format : RecordFormat → RecordFormat → Bool
same_format Pdn Pdn = true
same_format Csa Csa = true
same_format Pdn Csa = false
same_format Csa Pdn = false

-- the score exists and is this one
abbrev pub has_score : Option Score → Score → Bool
has_score None score = false
has_score (Some result) score = same_score result score

-- the record's score is the reason of the end only if the rules gave none
abbrev pub recorded_end : {E : Type 0} → Option E → Score → Option OutsideEnd
recorded_end None score = Some (by_record score)
recorded_end (Some end) score = None

module _ {P M E T : Type 0} (rules : GameRules P M E T) where
  -- both lists have the same moves in the same order
  abbrev pub same_moves : List M → List M → Bool
  same_moves [] [] = true
  same_moves [] (n ∷ ns) = false
  same_moves (m ∷ ms) [] = false
  same_moves (m ∷ ms) (n ∷ ns) = rules.same m n && same_moves ms ns

  -- the game has the record's moves and, without the arbiter's verdict, the record's score
  abbrev pub is_record_of : Game M → Recorded M → Bool
  is_record_of game r = has_score (result_beneath rules game) r.score && same_moves (moves_of game) r.moves

  -- the reading is a record of this game, if both exist
  abbrev pub reads_record_of : Option (Game M) → Reading M → Bool
  reads_record_of (Some game) (record_is.game r) = is_record_of game r
  reads_record_of (Some game) record_is.no_part = false
  reads_record_of (Some game) (record_is.refused refusal) = false
  reads_record_of None reading = false

  -- the imported game: all its moves have one timestamp, and it ended by the rules or otherwise as recorded
  abbrev pub imported : Option (List ℕ) → Pairing → ℕ → Recorded M → Game M
  imported key pairing moment r =
      record {
        key = key;
        event = pairing.event;
        first = pairing.first;
        second = pairing.second;
        start = moment;
        entries = map (λ m. record { made = m; moment = moment }) r.moves;
        offer = None;
        outside = recorded_end (rules.judge rules.start r.moves) r.score;
        rulings = [];
      }

-- If the event has no declarations, a record that ends with a declaration is refused.
abbrev pub read_in : {M : Type 0} → RecordFormat → Bool → Reading M → Reading M
read_in format declares (record_is.game r) =
    if r.declared && not declares then record_is.refused (ResultDiffers format) else record_is.game r
read_in format declares record_is.no_part = record_is.no_part
read_in format declares (record_is.refused refusal) = record_is.refused refusal

-- the text has such a part, even if the text is refused
abbrev pub has_part : {M : Type 0} → Reading M → Bool
has_part (record_is.game r) = true
has_part record_is.no_part = false
has_part (record_is.refused refusal) = true

-- adds a recorded game to the event, if both players were found
abbrev pub import_game : {M : Type 0} → ℕ → Option ℕ → Option ℕ → ℕ → Recorded M → Outcome (Imported M)
import_game event (Some one) (Some other) games r =
    accepted
    (record { pairing = record { event = event; first = one; second = other }; recorded = r })
    (game_seated (games + 1))
import_game event (Some one) None games r = refused BadValue
import_game event None other games r = refused BadValue

-- imports the game that was read, or refuses its text
abbrev pub import_between : {M : Type 0} → ℕ → Option ℕ → Option ℕ → ℕ → Reading M → Outcome (Imported M)
import_between event one other games (record_is.game r) = import_game event one other games r
import_between event one other games record_is.no_part = refused BadValue
import_between event one other games (record_is.refused refusal) = refused (Record refusal)

module _ {P M E T : Type 0} (rules : GameRules P M E T) (records : GameRecords M) (given : Import) where
  -- reads the part of the import's text; no part if the text is too long or of another format
  abbrev pub reading_of_import : Reading M
  reading_of_import =
      if same_format given.format records.format && nat_le (length given.text) most_record_bytes
      then records.read given.text given.part
      else record_is.no_part

  module _ (event : ℕ) (first second : Option ℕ) (under_key : Option KeyedGame) (old : Option (Game M))
      (games : ℕ) where
    -- the game under the key has the same event and players, and the record's moves and score
    abbrev pub repeat_of_import : Option Reply
    repeat_of_import = if reads_record_of rules old reading_of_import then same_seats event first second
        under_key else None

    -- the names are checked before the record, and the record is refused only if the club has room for its game
    abbrev pub import_tests : List (Bool × Refusal)
    import_tests =
        (is_some under_key, Conflict)
        ∷ (not (is_name given.key && are_distinct first second && has_part reading_of_import), BadValue)
        ∷ (nat_le most_games games, Full)
        ∷ []

    -- the first refusal of an import that applies, if any
    abbrev pub import_refusal : Option Refusal
    import_refusal = first_refusal import_tests

    -- the transition of an import into an event that exists; `declares`: the event has declarations
    abbrev pub import_step : Bool → Outcome (Imported M)
    import_step declares =
        unless_repeat repeat_of_import
        (unless import_refusal
        (import_between event first second games (read_in records.format declares reading_of_import)))

  -- the transition after the event, the players and the game under the key are looked up; `games` is the number of
  -- games
  abbrev pub import_found : Bool → Option ℕ → Option ℕ → Option ℕ → Option KeyedGame → Option (Game M) → ℕ
      → Outcome (Imported M)
  import_found declares None first second under_key old games = refused UnknownEvent
  import_found declares (Some event) first second under_key old games =
      import_step event first second under_key old games declares
