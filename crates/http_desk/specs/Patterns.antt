-- The path in the route table of what a route serves.
use Rattle.std.specs.Prelude.{◌≡◌, ℕ, List, All, codes}
use Rattle.club_rules.specs.declared.names.GameKind.{GameKind}
use Rattle.club_rules.specs.declared.names.GameKind.TheVariants.{Draughts, Shogi}
use Rattle.http_desk.specs.declared.table.TheConstants.{TABLE}
use Rattle.http_desk.specs.declared.table.GameAction.{GameAction}
use Rattle.http_desk.specs.declared.table.GameAction.TheVariants as action
use Rattle.http_desk.specs.declared.table.QuestionTopic.{QuestionTopic}
use Rattle.http_desk.specs.declared.table.QuestionTopic.TheVariants as question
use Rattle.http_desk.specs.declared.table.Topic.{Topic}
use Rattle.http_desk.specs.declared.table.Topic.TheVariants as topic

abbrev pub question_pattern : QuestionTopic → List ℕ
question_pattern question.GameView = codes "/games/{id}"
question_pattern question.LegalMoves = codes "/games/{id}/legal"
question_pattern question.GameRecord = codes "/games/{id}/record"
question_pattern question.GameClock = codes "/games/{id}/clock"
question_pattern question.GameRulings = codes "/games/{id}/rulings"
question_pattern question.GamePage = codes "/games/{id}/page"
question_pattern question.EventTable = codes "/events/{name}/table"
question_pattern question.EventGames = codes "/events/{name}/games"
question_pattern question.EventStandings = codes "/events/{name}/standings"
question_pattern question.MyGames = codes "/me"
question_pattern question.MyEndedGames = codes "/me/ended"
question_pattern question.MyEvents = codes "/me/events"

abbrev pub analysis_pattern : GameKind → List ℕ
analysis_pattern Draughts = codes "/analysis/draughts"
analysis_pattern Shogi = codes "/analysis/shogi"

abbrev pub action_pattern : GameAction → List ℕ
action_pattern action.MakeMove = codes "/games/{id}/moves/{ply}"
action_pattern action.OfferDraw = codes "/games/{id}/draw/{ply}/offer"
action_pattern action.AcceptDraw = codes "/games/{id}/draw/{ply}/accept"
action_pattern action.Resign = codes "/games/{id}/resign"
action_pattern action.ClaimTime = codes "/games/{id}/claim-time"
action_pattern action.Declare = codes "/games/{id}/declare/{ply}"

abbrev pub pattern_of : Topic → List ℕ
pattern_of topic.MembersPage = codes "/play"
pattern_of (topic.Question about kind) = question_pattern about
pattern_of (topic.Analysis kind) = analysis_pattern kind
pattern_of (topic.OnGame given) = action_pattern given
pattern_of topic.Challenge = codes "/challenges/{number}"
pattern_of topic.Withdraw = codes "/challenges/{number}/withdraw"
pattern_of topic.Answer = codes "/answers/{member}/{number}"

-- the pattern of each row of the table is its path
abbrev pub ArePaths : Type 0
ArePaths = All (λ row. pattern_of row.3 ≡ row.0.now) TABLE
