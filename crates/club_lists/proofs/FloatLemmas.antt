-- No value that is written has a float, so each has one compact text.
use Rattle.std.proofs.Common.{◌≡◌, ℕ, suc, List, [], ◌∷◌, ◌++◌, map, false, Option, Some, None, option_map, refl}
use Rattle.serde_json.specs.Data.{Data, string}
use Rattle.serde_json.specs.View.{items_of}
use Rattle.serde_json.specs.Written.{has_float, items_have_float}
use Rattle.squares.specs.Sides.{score_text}
use Rattle.club_core.specs.Events.{Event}
use Rattle.club_core.specs.Members.{Member}
use Rattle.club_core.specs.Rulings.{GivenRuling}
use Rattle.club_core.specs.declared.challenges.Challenge.{Challenge}
use Rattle.club_requests.specs.declared.rulings.Ruling.{Ruling}
use Rattle.club_requests.specs.declared.rulings.Ruling.TheVariants.{Grant, Award, Void}
use Rattle.cross_tables.specs.declared.field.FieldLine.{FieldLine}
use Rattle.club_rules.specs.EndName.{end_text}
use Rattle.club_rules.specs.declared.names.EndName.{EndName}
use Rattle.club_lists.specs.Analysis.{analysis_data}
use Rattle.club_lists.specs.Bodies.{game_data, moves_data}
use Rattle.club_lists.specs.Clock.{clock_data, deadline_within, running_turn, while_running}
use Rattle.club_lists.specs.ClubJson.{challenges_data, event_entries_from, event_entry_data, events_data}
use Rattle.club_lists.specs.ClubJson.{game_entry_data, games_data, members_data}
use Rattle.club_lists.specs.Ended.{end_moment, ended_data, ended_games_data, is_own_ended, most_ended}
use Rattle.club_lists.specs.GameShown.{GameShown, end_name}
use Rattle.club_lists.specs.GameSummary.{GameSummary, Running, end_of, result_of}
use Rattle.club_lists.specs.Newest.{newest}
use Rattle.club_lists.specs.Page.{page_data}
use Rattle.club_lists.specs.Shows.{challenge_choices, challenge_data, event_data, event_game_data, event_games_data}
use Rattle.club_lists.specs.Shows.{is_of_event, is_other, is_own_refused, most_refused, more_data, my_games_data}
use Rattle.club_lists.specs.Shows.{offerer, own_game_data, own_listed, received_listed, started}
use Rattle.club_lists.specs.Rounds.{round_in}
use Rattle.club_lists.specs.RulingTexts.{award_data, grant_data, ruling_data_of, rulings_data, rulings_from, void_data}
use Rattle.club_lists.specs.Standings.{standing_data, standings_data, standings_from}
use Rattle.club_lists.specs.Values.{number_or_null, text_or_null}
use Rattle.std.specs.Prelude.{filter}

pub text_float : (text : Option (List ℕ)) → has_float (text_or_null text) ≡ false
text_float None = refl
text_float (Some text) = refl

number_float : (number : Option ℕ) → has_float (number_or_null number) ≡ false
number_float None = refl
number_float (Some n) = refl

-- nor an array of values that have none
items_float : {A : Type 0} (of : A → Data) → ((x : A) → has_float (of x) ≡ false) → (xs : List A)
    → items_have_float (items_of (map of xs)) ≡ false
items_float of none [] = refl
items_float of none (x ∷ xs) = rw (none x, items_float of none xs) refl

texts_float : (texts : List (List ℕ)) → items_have_float (items_of (map string texts)) ≡ false
texts_float texts = items_float string (λ t. refl) texts

-- ---- one game

pub moves_float : (rows : List (List ℕ)) → has_float (moves_data rows) ≡ false
moves_float rows = rw (texts_float rows) refl

pub analysis_float : (end : Option EndName) (legal moves : List (List ℕ)) (position : List ℕ)
    → has_float (analysis_data end legal moves position) ≡ false
unfolding analysis_data
analysis_float end legal moves position =
    rw (text_float (option_map end_text end), texts_float legal, texts_float moves) refl

pub game_float : (id : ℕ) (game : GameShown) → has_float (game_data id game) ≡ false
unfolding game_data
game_float id game =
    rw (
      text_float (option_map end_name game.end),
      texts_float game.moves,
      text_float game.offer,
      text_float (option_map score_text game.result),
    ) refl

pub clock_float : (members : List Member) (moment : ℕ) (told : GameSummary)
    → has_float (clock_data members moment told) ≡ false
unfolding clock_data
clock_float members moment told =
    rw (
      number_float (while_running told (deadline_within told)),
      text_float (running_turn members told),
    ) refl

pub page_float : (members : List Member) (moment id : ℕ) (told : GameSummary) (game : GameShown) (kind : List ℕ)
    (legal : List (List ℕ)) → has_float (page_data (clock_data members moment told) (game_data id game) kind legal) ≡ false
unfolding page_data
page_float members moment id told game kind legal =
    rw (clock_float members moment told, game_float id game, texts_float legal) refl

-- ---- lists

event_game_float : (members : List Member) (told : GameSummary) → has_float (event_game_data members told) ≡ false
unfolding event_game_data
event_game_float members told =
    rw (
      number_float (while_running told (deadline_within told)),
      text_float (end_of told),
      text_float (result_of told),
      number_float (round_in told.key),
      text_float (running_turn members told),
    ) refl

pub event_games_float : (members : List Member) (events : List Event) (name : List ℕ) (games : List GameSummary)
    → has_float (event_games_data members events name games) ≡ false
unfolding event_games_data
event_games_float members events name games =
    rw (items_float (event_game_data members) (event_game_float members) (filter (is_of_event events name) games)) refl

standing_float : (members : List Member) (at : ℕ) (line : FieldLine) → has_float (standing_data members at line) ≡ false
unfolding standing_data
standing_float members at line = refl

standings_from_float : (members : List Member) (at : ℕ) (lines : List FieldLine)
    → items_have_float (items_of (standings_from members at lines)) ≡ false
standings_from_float members at [] = refl
standings_from_float members at (line ∷ lines) =
    rw (standing_float members at line, standings_from_float members (suc at) lines) refl

pub standings_float : (members : List Member) (events : List Event) (name : List ℕ) (lines : List FieldLine)
    → has_float (standings_data members events name lines) ≡ false
unfolding standings_data
standings_float members events name lines = rw (standings_from_float members 1 lines) refl

event_float : (event : Event) → has_float (event_data event) ≡ false
unfolding event_data
event_float event = refl

pub choices_float : (key : List ℕ) (members : List Member) (events : List Event)
    → has_float (challenge_choices key members events) ≡ false
unfolding challenge_choices
choices_float key members events =
    rw (
      items_float event_data event_float events,
      items_float (λ (m : Member). string m.name) (λ m. refl) (filter (is_other key) members),
    ) refl

ended_float : (members : List Member) (events : List Event) (told : GameSummary)
    → has_float (ended_data members events told) ≡ false
unfolding ended_data
ended_float members events told =
    rw (text_float (end_of told), number_float (end_moment told), text_float (result_of told)) refl

pub ended_games_float : (members : List Member) (events : List Event) (name : List ℕ) (moment : ℕ)
    (games : List GameSummary) → has_float (ended_games_data members events name moment games) ≡ false
unfolding ended_games_data
ended_games_float members events name moment games =
    rw (items_float (ended_data members events) (ended_float members events)
    (newest most_ended (is_own_ended members name) games)) refl

-- ---- lists of the club

pub members_float : (members : List Member) → has_float (members_data members) ≡ false
unfolding members_data
members_float members = rw (texts_float (map (λ (m : Member). m.name) members)) refl

event_entry_float : (games : List GameSummary) (id : ℕ) (event : Event)
    → has_float (event_entry_data games id event) ≡ false
unfolding event_entry_data
event_entry_float games id event = refl

event_entries_float : (games : List GameSummary) (id : ℕ) (events : List Event)
    → items_have_float (items_of (event_entries_from games id events)) ≡ false
event_entries_float games id [] = refl
event_entries_float games id (event ∷ events) =
    rw (event_entry_float games id event, event_entries_float games (suc id) events) refl

pub events_float : (games : List GameSummary) (events : List Event) → has_float (events_data games events) ≡ false
unfolding events_data
events_float games events = rw (event_entries_float games 1 events) refl

game_entry_float : (members : List Member) (events : List Event) (told : GameSummary)
    → has_float (game_entry_data members events told) ≡ false
unfolding game_entry_data
game_entry_float members events told =
    rw (
      number_float (while_running told (deadline_within told)),
      text_float (end_of told),
      text_float told.key,
      text_float (result_of told),
      text_float (running_turn members told),
    ) refl

pub games_float : (members : List Member) (events : List Event) (games : List GameSummary)
    → has_float (games_data members events games) ≡ false
unfolding games_data
games_float members events games =
    rw (items_float (game_entry_data members events) (game_entry_float members events) games) refl

-- ---- rulings

ruling_float : (number : ℕ) (given : GivenRuling) (ruling : Ruling)
    → has_float (ruling_data_of number given ruling) ≡ false
unfolding grant_data award_data void_data
ruling_float number given (Grant side seconds) = refl
ruling_float number given (Award score) = refl
ruling_float number given Void = refl

rulings_from_float : (number : ℕ) (rulings : List GivenRuling)
    → items_have_float (items_of (rulings_from number rulings)) ≡ false
rulings_from_float number [] = refl
rulings_from_float number (given ∷ rulings) =
    rw (ruling_float number given given.ruling, rulings_from_float (suc number) rulings) refl

pub rulings_float : (rulings : List GivenRuling) → has_float (rulings_data rulings) ≡ false
unfolding rulings_data
rulings_float rulings = rw (rulings_from_float 1 rulings) refl

-- ---- the games of a member

own_game_float : (members : List Member) (events : List Event) (running : Running)
    → has_float (own_game_data members events running) ≡ false
unfolding own_game_data
own_game_float members events running =
    rw (
      number_float (deadline_within running.told),
      text_float running.last,
      text_float (offerer members running.told),
    ) refl

challenge_float : (members : List Member) (events : List Event) (c : Challenge)
    → has_float (challenge_data members events c) ≡ false
unfolding challenge_data
challenge_float members events c = rw (number_float (started c.standing)) refl

pub challenges_float : (members : List Member) (events : List Event) (challenges : List Challenge)
    → has_float (challenges_data members events challenges) ≡ false
unfolding challenges_data
challenges_float members events challenges =
    rw (items_float (challenge_data members events) (challenge_float members events) challenges) refl

more_float : (members : List Member) (name : List ℕ) (challenges : List Challenge)
    → has_float (more_data members name challenges) ≡ false
unfolding more_data
more_float members name challenges = refl

pub my_games_float : (members : List Member) (events : List Event) (name : List ℕ) (moment : ℕ)
    (challenges : List Challenge) (games : List Running)
    → has_float (my_games_data members events name moment challenges games) ≡ false
unfolding my_games_data
my_games_float members events name moment challenges games =
    rw (
      items_float (challenge_data members events) (challenge_float members events)
          (own_listed members name challenges ++ received_listed members name challenges),
      items_float (own_game_data members events) (own_game_float members events) games,
      more_float members name challenges,
      items_float (challenge_data members events) (challenge_float members events)
          (newest most_refused (is_own_refused members name) challenges),
    ) refl
