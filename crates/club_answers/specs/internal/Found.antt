-- The answer as the code finds it, before it is written. No promise of the program rests on these definitions.
use Rattle.std.specs.Prelude.{◌≡◌, ℕ, List, true, string_bytes}
use Rattle.std.specs.List.{list_any}
use Rattle.std.specs.declared.alloc.Global.{Global}
use Rattle.std.specs.declared.string.String.{String}
use Rattle.club_rules.specs.declared.names.GameKind.{GameKind}
use Rattle.club_requests.specs.declared.refusals.Refusal.{Refusal}
use Rattle.club_core.specs.internal.Answer.{members_of, events_of}
use Rattle.club_core.specs.Events.{event_kind, has_event_name}
use Rattle.club_rows.specs.Club.{ClubState}
use Rattle.club_requests.specs.declared.questions.Question.{Question}
use Rattle.club_requests.specs.declared.questions.Question.TheVariants as question
use Rattle.club_lists.specs.internal.SummaryViews.{summaries_of}
use Rattle.club_answers.specs.EventRecords.{ids_in}
use Rattle.club_answers.specs.Games.{effective_moment, game_summaries}
use Rattle.club_answers.specs.AnswerTexts.{IsRefused, IsText}
use Rattle.club_answers.specs.declared.found.Shown.{Shown}
use Rattle.club_answers.specs.declared.found.Shown.TheVariants.{Text, Refused, Record, Records}
use Rattle.club_answers.specs.declared.read.ClubRead.{ClubRead}

-- a text or a refusal with these properties
abbrev pub IsFoundAs : (List ℕ → Type 0) → (Refusal → Type 0) → Shown → Type 0
IsFoundAs IsThere IsNot (Text text) = IsThere (string_bytes text)
IsFoundAs IsThere IsNot (Refused refusal) = IsNot refusal
IsFoundAs IsThere IsNot (Record game) = ⊥
IsFoundAs IsThere IsNot (Records kind ids) = ⊥

-- the query for the records of an event, whose games have this kind and these ids
pub record AsksRecords (s : ClubState) (asked : Question) (kind : GameKind) (ids : List ℕ) : Type 0 where
  pub name : String Global
  pub asked_is : asked ≡ question.EventRecords name
  pub there : list_any (has_event_name (string_bytes name)) s.events ≡ true
  pub kind_is : kind ≡ event_kind s.events (string_bytes name)
  pub ids_are : ids ≡ ids_in s (string_bytes name)

-- the answer to a query, except records, which are written later
abbrev pub IsFound : ClubState → (moment : ℕ) → Question → Shown → Type 0
IsFound s moment asked (Text text) = IsText s moment asked (string_bytes text)
IsFound s moment asked (Refused refusal) = IsRefused s asked refusal
IsFound s moment asked (Record game) = asked ≡ question.Record game
IsFound s moment asked (Records kind ids) = AsksRecords s asked kind ids.items

-- the data that was read is the club's
pub record IsReadOf (s : ClubState) (moment : ℕ) (club : ClubRead) : Type 0 where
  pub moment_is : club.moment ≡ effective_moment s moment
  pub members_are : members_of club.members.items ≡ s.members
  pub events_are : events_of club.events.items ≡ s.events
  pub games_are : summaries_of club.games.items ≡ game_summaries s
