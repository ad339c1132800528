-- The query of an endpoint and a key.
use Rattle.std.specs.Prelude.{◌≡◌, ℕ, List, String, string_bytes}
use Rattle.std.specs.declared.alloc.Global.{Global}
use Rattle.club_requests.specs.declared.questions.Question.{Question}
use Rattle.club_requests.specs.declared.questions.Question.TheVariants as asked
use Rattle.http_desk.specs.declared.table.QuestionTopic.{QuestionTopic}
use Rattle.http_desk.specs.declared.table.QuestionTopic.TheVariants as topic
use Rattle.http_desk.specs.Routes.{Endpoint}

-- the query has these bytes as its text
abbrev pub HasText : List ℕ → (String Global → Question) → Question → Type 0
HasText bytes of_text question = (text : String Global) × (string_bytes text ≡ bytes) × (question ≡ of_text text)

-- the query of an endpoint on a topic: about the path's game or event, or of the holder of the key
abbrev pub Asks : QuestionTopic → Endpoint → (key : List ℕ) → Question → Type 0
Asks topic.GameView endpoint key question = question ≡ asked.GameJson endpoint.id
Asks topic.LegalMoves endpoint key question = question ≡ asked.LegalMovesJson endpoint.id
Asks topic.GameRecord endpoint key question = question ≡ asked.Record endpoint.id
Asks topic.GameClock endpoint key question = question ≡ asked.GameClock endpoint.id
Asks topic.GameRulings endpoint key question = question ≡ asked.RulingsJson endpoint.id
Asks topic.GamePage endpoint key question = question ≡ asked.GamePage endpoint.id
Asks topic.EventTable endpoint key question = HasText endpoint.name (λ text. asked.CrossTable text) question
Asks topic.EventGames endpoint key question = HasText endpoint.name (λ text. asked.EventGames text) question
Asks topic.EventStandings endpoint key question = HasText endpoint.name (λ text. asked.EventStandings text) question
Asks topic.MyGames endpoint key question = HasText key (λ text. asked.MyGames text) question
Asks topic.MyEndedGames endpoint key question = HasText key (λ text. asked.EndedGames text) question
Asks topic.MyEvents endpoint key question = HasText key (λ text. asked.ChallengeChoices text) question
