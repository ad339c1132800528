-- The answer to each query: the whole text, or the refusal.
use Rattle.std.specs.Prelude.{◌≡◌, ◌⊎◌, ℕ, List, [], ◌∷◌, ◌++◌, Option, Some, None, Result, Ok, Err}
use Rattle.std.specs.Prelude.{codes, length, string_bytes, true, false}
use Rattle.std.specs.Io.KnownBytes.{Appends}
use Rattle.record_writer.specs.Pieces.{AppendsSome}
use Rattle.club_requests.specs.Analysis.{analysis_view}
use Rattle.club_requests.specs.declared.refusals.Refusal.{Refusal}
use Rattle.club_requests.specs.declared.refusals.Refusal.TheVariants.{UnknownEvent, UnknownGame, UnknownKey}
use Rattle.club_core.specs.State.{place, rulings_of}
use Rattle.club_rows.specs.Club.{ClubGame, ClubState}
use Rattle.club_changes.specs.Stored.{AreLegalRows}
use Rattle.club_answers.specs.CrossTable.{AreTableRows}
use Rattle.club_requests.specs.declared.questions.Listing.{Listing}
use Rattle.club_requests.specs.declared.questions.Question.{Question}
use Rattle.club_requests.specs.declared.questions.Question.TheVariants.{LegalMoves, CrossTable, Record}
use Rattle.club_requests.specs.declared.questions.Question.TheVariants.{Members, Events, Games}
use Rattle.club_requests.specs.declared.questions.Question.TheVariants.{MyGames, EndedGames, ChallengeChoices}
use Rattle.club_requests.specs.declared.questions.Question.TheVariants.{EventGames, EventRecords, EventStandings}
use Rattle.club_requests.specs.declared.questions.Question.TheVariants.{GameClock, GameJson}
use Rattle.club_requests.specs.declared.questions.Question.TheVariants.{Board, GamePage, LegalMovesJson, Analysis}
use Rattle.club_requests.specs.declared.questions.Question.TheVariants.{Challenges, ChallengesJson}
use Rattle.club_requests.specs.declared.questions.Question.TheVariants.{MembersJson, EventsJson, GamesJson}
use Rattle.club_requests.specs.declared.questions.Question.TheVariants.{Rulings, RulingsJson, RulingOrders}
use Rattle.club_requests.specs.declared.questions.BulkRuling.{BulkRuling}
use Rattle.club_lists.specs.RulingOrders.{bulk_refusal, ruling_orders}
use Rattle.club_lists.specs.RulingTexts.{AreRulingLines, rulings_json}
use Rattle.club_lists.specs.ChallengeLines.{challenge_lines}
use Rattle.club_lists.specs.ClubJson.{challenges_json, events_json, games_json, members_json}
use Rattle.club_lists.specs.Lines.{member_lines, event_lines, AreGameLines}
use Rattle.club_lists.specs.Listing.{listed_games, listing_refusal}
use Rattle.club_lists.specs.Clock.{clock_text}
use Rattle.club_lists.specs.GameSummary.{GameSummary, Running}
use Rattle.club_lists.specs.Ended.{ended_games_json}
use Rattle.club_lists.specs.Shows.{event_games_text, challenge_choices_json, my_games_json, member_name_by_key}
use Rattle.club_core.specs.declared.challenges.Challenge.{Challenge}
use Rattle.club_core.specs.Events.{event_kind, has_event_name}
use Rattle.std.specs.List.{list_any}
use Rattle.club_answers.specs.Analyses.{IsAnalysisText, IsNoAnalysis}
use Rattle.club_answers.specs.Boards.{IsBoardText}
use Rattle.club_answers.specs.GameBodies.{IsGameBody, IsMovesBody}
use Rattle.club_answers.specs.Challenges.{AreChallengesOf}
use Rattle.club_answers.specs.EventRecords.{AreEventRecords, BeginsRecords, ids_in}
use Rattle.club_answers.specs.EventStandings.{IsStandingsText}
use Rattle.club_answers.specs.Games.{effective_moment, game_summaries, game_summary_of}
use Rattle.club_answers.specs.Pages.{IsPageText}
use Rattle.club_answers.specs.Records.{IsRecordAt}
use Rattle.club_answers.specs.Running.{AreOwnGames}

-- each line with its newline
abbrev pub join_lines : List (List ℕ) → List ℕ
join_lines [] = []
join_lines (line ∷ lines) = line ++ codes "\n" ++ join_lines lines

-- ---- legal moves and cross tables

-- the text of lines that exist
abbrev pub AreLines : (Option (List (List ℕ)) → Type 0) → List ℕ → Type 0
AreLines AreThere text = (lines : List (List ℕ)) × AreThere (Some lines) × (text ≡ join_lines lines)

-- the text of the legal moves of the game with this number, if the game exists
abbrev pub IsLegalText : ClubState → ℕ → List ℕ → Type 0
IsLegalText s game text = AreLines (AreLegalRows s game) text

-- there is no game with this number
abbrev pub IsNoGame : ClubState → ℕ → Refusal → Type 0
IsNoGame s game refusal = (place s.games game ≡ None) × (refusal ≡ UnknownGame)

-- the text of the cross table of the event with this name, if the event exists
abbrev pub IsTableText : ClubState → List ℕ → List ℕ → Type 0
IsTableText s name text = AreLines (AreTableRows s name) text

-- there is no event with this name
abbrev pub IsNoEvent : ClubState → List ℕ → Refusal → Type 0
IsNoEvent s name refusal = AreTableRows s name None × (refusal ≡ UnknownEvent)

-- ---- lists

-- the text of the list of members
abbrev pub IsMembersText : ClubState → List ℕ → Type 0
IsMembersText s text = text ≡ member_lines s.members

-- the text of the list of events
abbrev pub IsEventsText : ClubState → List ℕ → Type 0
IsEventsText s text = text ≡ event_lines (game_summaries s) s.events

-- the games of the club that are listed at this timestamp, in their order
abbrev pub games_listed : ClubState → ℕ → Listing → List GameSummary
games_listed s moment listing =
    listed_games s.members s.events listing (effective_moment s moment) (game_summaries s)

-- the lines of the listed games, if the member and event that the listing names exist
abbrev pub IsGamesText : ClubState → ℕ → Listing → List ℕ → Type 0
IsGamesText s moment listing text =
    (listing_refusal s.members s.events listing ≡ None)
    × AreGameLines s.members s.events (games_listed s moment listing) text

-- the list of games is refused, because its event or its member does not exist
abbrev pub IsNoList : ClubState → Listing → Refusal → Type 0
IsNoList s listing refusal = listing_refusal s.members s.events listing ≡ Some refusal

-- the lines of all challenges, in order
abbrev pub IsChallengesText : ClubState → List ℕ → Type 0
IsChallengesText s text = (challenges : List Challenge) × AreChallengesOf s challenges
    × (text ≡ challenge_lines s.members s.events challenges)

-- ---- the same lists as JSON

-- the names of all members
abbrev pub IsMembersJson : ClubState → List ℕ → Type 0
IsMembersJson s text = text ≡ members_json s.members

-- all events, with the numbers of their games
abbrev pub IsEventsJson : ClubState → List ℕ → Type 0
IsEventsJson s text = text ≡ events_json (game_summaries s) s.events

-- the listed games, if the member and event that the listing names exist
abbrev pub IsGamesJson : ClubState → ℕ → Listing → List ℕ → Type 0
IsGamesJson s moment listing text =
    (listing_refusal s.members s.events listing ≡ None)
    × (text ≡ games_json s.members s.events (games_listed s moment listing))

-- all challenges, in order
abbrev pub IsChallengesJson : ClubState → List ℕ → Type 0
IsChallengesJson s text = (challenges : List Challenge) × AreChallengesOf s challenges
    × (text ≡ challenges_json s.members s.events challenges)

-- ---- the JSON of a member's games

-- The running games of the member with this key, the listed challenges by and to the member with the numbers of those
-- that are left out, and the newest challenges by the member that were refused.
abbrev pub IsMyGamesText : ClubState → ℕ → List ℕ → List ℕ → Type 0
IsMyGamesText s moment key text =
    (name : List ℕ) × (Some name ≡ member_name_by_key key s.members) × (challenges : List Challenge)
    × AreChallengesOf s challenges × (games : List Running) × AreOwnGames s name games
    × (text ≡ my_games_json s.members s.events name (effective_moment s moment) challenges games)

-- the ended games of the member with this key
abbrev pub IsEndedGamesText : ClubState → ℕ → List ℕ → List ℕ → Type 0
IsEndedGamesText s moment key text =
    (name : List ℕ) × (Some name ≡ member_name_by_key key s.members)
    × (text ≡ ended_games_json s.members s.events name (effective_moment s moment) (game_summaries s))

-- no member has this key
abbrev pub IsNoKey : ClubState → List ℕ → Refusal → Type 0
IsNoKey s key refusal = (member_name_by_key key s.members ≡ None) × (refusal ≡ UnknownKey)

-- the events, and the members whom the member with this key may challenge, as JSON
abbrev pub IsChallengeChoicesText : ClubState → List ℕ → List ℕ → Type 0
IsChallengeChoicesText s key text =
    (name : List ℕ) × (Some name ≡ member_name_by_key key s.members)
    × (text ≡ challenge_choices_json key s.members s.events)

-- the games of the event with this name as JSON, if the event exists
abbrev pub IsEventGamesText : ClubState → List ℕ → List ℕ → Type 0
IsEventGamesText s name text =
    (list_any (has_event_name name) s.events ≡ true)
    × (text ≡ event_games_text s.members s.events name (game_summaries s))

-- no event has this name
abbrev pub IsNoEventNamed : ClubState → List ℕ → Refusal → Type 0
IsNoEventNamed s name refusal = (list_any (has_event_name name) s.events ≡ false) × (refusal ≡ UnknownEvent)

-- the clock of the game with this number
abbrev pub IsClockText : ClubState → ℕ → ℕ → List ℕ → Type 0
IsClockText s moment id text =
    (game : ClubGame) × (place s.games id ≡ Some game)
    × (text ≡ clock_text s.members (effective_moment s moment) (game_summary_of s id game))

-- ---- rulings

-- the lines of the rulings on the game with this number
abbrev pub IsRulingsText : ClubState → ℕ → List ℕ → Type 0
IsRulingsText s id text =
    (game : ClubGame) × (place s.games id ≡ Some game) × AreRulingLines 1 (rulings_of game) text

-- the same as JSON
abbrev pub IsRulingsJson : ClubState → ℕ → List ℕ → Type 0
IsRulingsJson s id text =
    (game : ClubGame) × (place s.games id ≡ Some game) × (text ≡ rulings_json (rulings_of game))

-- the number of rulings on a game that was looked up
abbrev pub rulings_at : Option ClubGame → ℕ
rulings_at None = 0
rulings_at (Some game) = length (rulings_of game)

-- the orders of a batch that gives these rulings, if the event and the member that they name exist
abbrev pub IsRulingOrders : ClubState → BulkRuling → List ℕ → Type 0
IsRulingOrders s bulk text =
    (bulk_refusal s.members s.events bulk ≡ None)
    × (text ≡ ruling_orders s.members s.events (λ id. rulings_at (place s.games id)) bulk (game_summaries s))

-- the event or the member that the rulings name does not exist
abbrev pub IsNoBulk : ClubState → BulkRuling → Refusal → Type 0
IsNoBulk s bulk refusal = bulk_refusal s.members s.events bulk ≡ Some refusal

-- ---- records of an event

-- all records of the event, if it exists
abbrev pub IsRecordsText : ClubState → List ℕ → List ℕ → Type 0
IsRecordsText s name text = (list_any (has_event_name name) s.events ≡ true) × AreEventRecords s name text

-- the part of the records that a writer has received
abbrev pub HasRecordsSome : ClubState → List ℕ → Option (List ℕ) → Option (List ℕ) → Type 0
HasRecordsSome s name before now =
    (list_any (has_event_name name) s.events ≡ true)
    × BeginsRecords s (event_kind s.events name) (ids_in s name) before now

-- ---- the answer

-- the text of the answer to a query at this timestamp
abbrev pub IsText : ClubState → (moment : ℕ) → Question → List ℕ → Type 0
IsText s moment (LegalMoves game) text = IsLegalText s game text
IsText s moment (CrossTable name) text = IsTableText s (string_bytes name) text
IsText s moment (Record game) text = IsRecordAt s game text
IsText s moment Members text = IsMembersText s text
IsText s moment Events text = IsEventsText s text
IsText s moment (Games listing) text = IsGamesText s moment listing text
IsText s moment Challenges text = IsChallengesText s text
IsText s moment MembersJson text = IsMembersJson s text
IsText s moment EventsJson text = IsEventsJson s text
IsText s moment (GamesJson listing) text = IsGamesJson s moment listing text
IsText s moment ChallengesJson text = IsChallengesJson s text
IsText s moment (MyGames key) text = IsMyGamesText s moment (string_bytes key) text
IsText s moment (EndedGames key) text = IsEndedGamesText s moment (string_bytes key) text
IsText s moment (ChallengeChoices key) text = IsChallengeChoicesText s (string_bytes key) text
IsText s moment (EventGames name) text = IsEventGamesText s (string_bytes name) text
IsText s moment (EventStandings name) text = IsStandingsText s (string_bytes name) text
IsText s moment (GameClock game) text = IsClockText s moment game text
IsText s moment (GameJson game) text = IsGameBody s game text
IsText s moment (GamePage game) text = IsPageText s moment game text
IsText s moment (LegalMovesJson game) text = IsMovesBody s game text
IsText s moment (Board game letters) text = IsBoardText s moment game letters text
IsText s moment (EventRecords name) text = IsRecordsText s (string_bytes name) text
IsText s moment (Analysis asked) text = IsAnalysisText s (analysis_view asked) text
IsText s moment (Rulings game) text = IsRulingsText s game text
IsText s moment (RulingsJson game) text = IsRulingsJson s game text
IsText s moment (RulingOrders bulk) text = IsRulingOrders s bulk text

-- why a query is refused
abbrev pub IsRefused : ClubState → Question → Refusal → Type 0
IsRefused s (LegalMoves game) refusal = IsNoGame s game refusal
IsRefused s (CrossTable name) refusal = IsNoEvent s (string_bytes name) refusal
IsRefused s (Record game) refusal = IsNoGame s game refusal
IsRefused s Members refusal = ⊥
IsRefused s Events refusal = ⊥
IsRefused s (Games listing) refusal = IsNoList s listing refusal
IsRefused s Challenges refusal = ⊥
IsRefused s MembersJson refusal = ⊥
IsRefused s EventsJson refusal = ⊥
IsRefused s (GamesJson listing) refusal = IsNoList s listing refusal
IsRefused s ChallengesJson refusal = ⊥
IsRefused s (MyGames key) refusal = IsNoKey s (string_bytes key) refusal
IsRefused s (EndedGames key) refusal = IsNoKey s (string_bytes key) refusal
IsRefused s (ChallengeChoices key) refusal = IsNoKey s (string_bytes key) refusal
IsRefused s (EventGames name) refusal = IsNoEventNamed s (string_bytes name) refusal
IsRefused s (EventStandings name) refusal = IsNoEvent s (string_bytes name) refusal
IsRefused s (GameClock game) refusal = IsNoGame s game refusal
IsRefused s (GameJson game) refusal = IsNoGame s game refusal
IsRefused s (GamePage game) refusal = IsNoGame s game refusal
IsRefused s (LegalMovesJson game) refusal = IsNoGame s game refusal
IsRefused s (Board game letters) refusal = IsNoGame s game refusal
IsRefused s (EventRecords name) refusal = IsNoEventNamed s (string_bytes name) refusal
IsRefused s (Analysis asked) refusal = IsNoAnalysis s (analysis_view asked) refusal
IsRefused s (Rulings game) refusal = IsNoGame s game refusal
IsRefused s (RulingsJson game) refusal = IsNoGame s game refusal
IsRefused s (RulingOrders bulk) refusal = IsNoBulk s bulk refusal

-- the answer to a query at this timestamp: a text or a refusal
abbrev pub IsShown : ClubState → (moment : ℕ) → Question → Result (List ℕ) Refusal → Type 0
IsShown s moment question (Ok text) = IsText s moment question text
IsShown s moment question (Err refusal) = IsRefused s question refusal

-- ---- the part of the answer that a writer has received

-- the whole text was appended, or nothing if the query is refused
abbrev pub HasWrittenAnswer : ClubState → (moment : ℕ) → Question → Option Refusal → Option (List ℕ) → Option (List ℕ)
    → Type 0
HasWrittenAnswer s moment question None before now =
    (text : List ℕ) × IsShown s moment question (Ok text) × Appends before now text
HasWrittenAnswer s moment question (Some refusal) before now = IsShown s moment question (Err refusal) × (now ≡ before)

-- a prefix of the answer was appended; for the records of an event, a prefix of the first records
abbrev pub BeginsShown : ClubState → (moment : ℕ) → Question → Option (List ℕ) → Option (List ℕ) → Type 0
BeginsShown s moment (EventRecords name) before now = HasRecordsSome s (string_bytes name) before now
BeginsShown s moment question before now =
    (text : List ℕ) × IsShown s moment question (Ok text) × AppendsSome before now text

-- nothing, or a prefix of the answer, was appended
abbrev pub HasShownSome : ClubState → (moment : ℕ) → Question → Option (List ℕ) → Option (List ℕ) → Type 0
HasShownSome s moment question before now = (now ≡ before) ⊎ BeginsShown s moment question before now
