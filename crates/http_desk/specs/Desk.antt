-- The reply that the club's state and a request determine.
use Rattle.std.specs.Prelude.{◌≡◌, ◌⊎◌, ℕ, Bool, ◌&&◌, List, [], Option, Some, None, Result, Ok, Err, option_map, codes}
use Rattle.std.specs.Prelude.{if◌then◌else◌, is_some, true, false}
use Rattle.std.specs.Str.{bytes_eq, is_utf8}
use Rattle.serde_json.specs.Written.{compact_text}
use Rattle.club_requests.specs.declared.refusals.Refusal as of_club
use Rattle.club_requests.specs.declared.refusals.Refusal.TheVariants.{UnknownKey}
use Rattle.club_requests.specs.Outcome.{Outcome, accepted, repeated, refused as declined}
use Rattle.club_core.specs.State.{Command, key_holder, withdraw_challenge, on_game as game_command}
use Rattle.club_core.specs.Step as play
use Rattle.http_head.specs.Request.{HttpRequest, ParseState, unfinished, refused, whole, Sees, asks_head}
use Rattle.http_bodies.specs.declared.refusals.Method.{Method}
use Rattle.http_bodies.specs.declared.refusals.Method.TheVariants.{Get, Post}
use Rattle.http_bodies.specs.declared.refusals.HttpRefusal.{HttpRefusal}
use Rattle.http_bodies.specs.declared.refusals.HttpRefusal.TheVariants.{Head, NoRoute, WrongMethod, BadBody}
use Rattle.http_bodies.specs.declared.refusals.HttpRefusal.TheVariants.{Club as OfClub}
use Rattle.http_desk.specs.declared.faults.ClubFault.{ClubFault}
use Rattle.http_desk.specs.Faults.{club_fault_number, club_fault_name, passes_soon}
use Rattle.http_desk.specs.declared.table.Access.{Access}
use Rattle.http_desk.specs.declared.table.Access.TheVariants.{Public, Members}
use Rattle.http_desk.specs.declared.table.GameAction.{GameAction}
use Rattle.http_desk.specs.declared.table.GameAction.TheVariants as action
use Rattle.http_desk.specs.declared.table.QuestionTopic.{QuestionTopic}
use Rattle.http_desk.specs.declared.table.Topic.{Topic}
use Rattle.http_desk.specs.declared.table.Topic.TheVariants as topic
use Rattle.http_desk.specs.Routes.{Endpoint, caching_for, match_route}
use Rattle.http_desk.specs.Questions.{Asks}
use Rattle.club_requests.specs.Analysis.{Analysis, analysis_view}
use Rattle.club_requests.specs.declared.questions.Analysis as given_analysis
use Rattle.club_requests.specs.declared.questions.Question.{Question}
use Rattle.club_requests.specs.declared.questions.Question.TheVariants as asks
use Rattle.http_bodies.specs.declared.reply.Caching.{Caching}
use Rattle.http_bodies.specs.declared.reply.Caching.TheVariants.{Unspecified}
use Rattle.http_bodies.specs.declared.reply.ContentType.{ContentType}
use Rattle.http_bodies.specs.declared.reply.ContentType.TheVariants.{Json}
use Rattle.http_bodies.specs.Reply.{refusal_reply, shown_reply, page_reply, fault_reply}
use Rattle.http_bodies.specs.Analyses.{analysis_of}
use Rattle.http_bodies.specs.Bodies.{reply_data, move_text, challenge_of, answer_of}
use Rattle.http_desk.specs.Served.{Club, IsOfCall}

-- the content of a reply
pub data Answer : Type 0 where
  refusal : HttpRefusal → Answer
  shows : ContentType → List ℕ → Answer
  shows_page : Answer

-- the bytes of a reply with this content and the caching of its route; its body may be left out
abbrev pub answer_reply : Answer → Caching → Bool → List ℕ
answer_reply (refusal r) caching without_body = refusal_reply r caching without_body
answer_reply (shows kind bytes) caching without_body = shown_reply kind bytes caching without_body
answer_reply shows_page caching without_body = page_reply caching without_body

-- the expected answer: this one, or the club's answer to a query of a member or to an analysis at a timestamp
pub data ExpectedReply : Type 0 where
  this : Answer → ExpectedReply
  question_page : (moment : ℕ) → QuestionTopic → ContentType → Endpoint → (key : List ℕ) → ExpectedReply
  analysis_page : (moment : ℕ) → Analysis → ExpectedReply

-- ---- queries

-- the content of the reply to a query: the club's answer, or its refusal
abbrev pub question_answer : ContentType → Result (List ℕ) of_club.Refusal → Answer
question_answer kind (Ok bytes) = shows kind bytes
question_answer kind (Err r) = refusal (OfClub r)

-- the answer is the expected one in a state
abbrev pub IsExpectedReply : {S : Type 0} → Club S → S → ExpectedReply → Answer → Type 0
IsExpectedReply club s (this expected) given = given ≡ expected
IsExpectedReply club s (question_page moment about kind asked key) given = (question : Question)
    × Asks about asked key question × (shown : Result (List ℕ) of_club.Refusal) × club.IsShown s moment question shown
    × (given ≡ question_answer kind shown)
IsExpectedReply club s (analysis_page moment analysis) given = (asked : given_analysis.Analysis)
    × (analysis_view asked ≡ analysis) × (shown : Result (List ℕ) of_club.Refusal)
    × club.IsShown s moment (asks.Analysis asked) shown × (given ≡ question_answer Json shown)

-- the club answers the analysis, if there is one; its state is unchanged
abbrev pub serve_analysis : {S : Type 0} → Club S → S → ℕ → Option Analysis → S × ExpectedReply
serve_analysis club s moment None = (s, this (refusal BadBody))
serve_analysis club s moment (Some analysis) = (s, analysis_page moment analysis)

-- ---- commands

-- the move that a path and a body give
abbrev pub move_given : ℕ → Option (List ℕ) → Option play.GameCommand
move_given ply None = None
move_given ply (Some text) = Some (play.move ply text)

-- the command on a game that the route, the ply and the body state, if the body is valid where it is needed
abbrev pub command_given : GameAction → ℕ → List ℕ → Option play.GameCommand
command_given action.MakeMove ply body = move_given ply (move_text body)
command_given action.OfferDraw ply body = Some (play.offer_draw ply)
command_given action.AcceptDraw ply body = Some (play.accept_draw ply)
command_given action.Resign ply body = Some play.resign
command_given action.ClaimTime ply body = Some play.claim_time
command_given action.Declare ply body = Some (play.declare ply)

-- a repeated command has the same answer as the accepted one
abbrev pub outcome_answer : ℕ → Outcome (Unit {0}) → Answer
outcome_answer id (accepted after reply) = shows Json (compact_text (reply_data id reply))
outcome_answer id (repeated reply) = shows Json (compact_text (reply_data id reply))
outcome_answer id (declined r) = refusal (OfClub r)

-- the state after a command, and the answer to the command's outcome
abbrev pub told_outcome : {S : Type 0} → ℕ → S × Outcome (Unit {0}) → S × ExpectedReply
told_outcome id told = (told.0, this (outcome_answer id told.1))

-- the club executes the command, if there is one
abbrev pub serve_command : {S : Type 0} → Club S → S → ℕ → List ℕ → ℕ → Option Command → S × ExpectedReply
serve_command club s moment key id None = (s, this (refusal BadBody))
serve_command club s moment key id (Some command) =
    told_outcome id (club.step s (record { who = key_holder key; command = command; moment = moment }))

-- ---- endpoints

-- the bytes are the name of this method
abbrev pub is_method : List ℕ → Method → Bool
is_method bytes Get = bytes_eq bytes (codes "GET")
is_method bytes Post = bytes_eq bytes (codes "POST")

-- what an endpoint serves, for a member
abbrev pub serve_topic : {S : Type 0} → Club S → S → ℕ → List ℕ → List ℕ → Endpoint → Topic → S × ExpectedReply
serve_topic club s moment key body asked topic.MembersPage = (s, this shows_page)
serve_topic club s moment key body asked (topic.Question about kind) = (s, question_page moment about kind asked key)
serve_topic club s moment key body asked (topic.Analysis kind) = serve_analysis club s moment (analysis_of kind body)
serve_topic club s moment key body asked (topic.OnGame given) =
    serve_command club s moment key asked.id (option_map (game_command asked.id) (command_given given asked.ply body))
serve_topic club s moment key body asked topic.Challenge =
    serve_command club s moment key asked.number (challenge_of asked.number body)
serve_topic club s moment key body asked topic.Withdraw =
    serve_command club s moment key asked.number (Some (withdraw_challenge asked.number))
serve_topic club s moment key body asked topic.Answer =
    serve_command club s moment key asked.number (answer_of asked.member asked.number body)

-- an endpoint, for a member
abbrev pub serve_page : {S : Type 0} → Club S → S → ℕ → List ℕ → List ℕ → Endpoint → S × ExpectedReply
serve_page club s moment key body asked = serve_topic club s moment key body asked asked.route.topic

-- the next state and the expected answer for an endpoint that needs a key; without a member's key it is refused
abbrev pub serve_known : {S : Type 0} → Club S → S → ℕ → Option (List ℕ) → List ℕ → Endpoint → S × ExpectedReply
serve_known club s moment None body asked = (s, this (refusal (OfClub UnknownKey)))
serve_known club s moment (Some key) body asked =
    if is_utf8 key && is_some (club.member_by_key s key) then serve_page club s moment key body
    asked else (s, this (refusal (OfClub UnknownKey)))

-- a key is needed
abbrev pub needs_key : Access → Bool
needs_key Public = false
needs_key Members = true

-- a public endpoint, or one for the holder of a key
abbrev pub serve_caller : {S : Type 0} → Club S → S → ℕ → Option (List ℕ) → List ℕ → Endpoint → S × ExpectedReply
serve_caller club s moment key body asked =
    if needs_key asked.route.access then serve_known club s moment key body asked else (s, this shows_page)

-- the next state and the expected answer, given the path's endpoint; an unknown path or another method is refused
abbrev pub serve_asked : {S : Type 0} → Club S → S → ℕ → HttpRequest → Option Endpoint → S × ExpectedReply
serve_asked club s moment request None = (s, this (refusal NoRoute))
serve_asked club s moment request (Some asked) =
    if is_method request.method asked.route.method
    then serve_caller club s moment request.key request.body asked
    else (s, this (refusal (WrongMethod asked.route.method)))

-- the next state and the expected answer, for a complete request
unfoldable pub serve : {S : Type 0} → Club S → S → ℕ → HttpRequest → S × ExpectedReply
serve club s moment request = serve_asked club s moment request (match_route request.target)

-- ---- the member who sends a request

-- the name of the member who has the key
abbrev pub known_caller : {S : Type 0} → Club S → S → Option (List ℕ) → Option (List ℕ)
known_caller club s None = None
known_caller club s (Some key) = if is_utf8 key then club.member_by_key s key else None

-- a public endpoint identifies nobody
abbrev pub caller_for : {S : Type 0} → Club S → S → Option (List ℕ) → Endpoint → Option (List ℕ)
caller_for club s key asked = if needs_key asked.route.access then known_caller club s key else None

-- the name of the member who sends a request, if its endpoint needs a key and has its method
abbrev pub asked_caller : {S : Type 0} → Club S → S → HttpRequest → Option Endpoint → Option (List ℕ)
asked_caller club s request None = None
asked_caller club s request (Some asked) =
    if is_method request.method asked.route.method then caller_for club s request.key asked else None

-- the name of the member who sends a complete request, if its endpoint needs a key
unfoldable pub caller : {S : Type 0} → Club S → S → HttpRequest → Option (List ℕ)
caller club s request = asked_caller club s request (match_route request.target)

-- the same for the result of parsing
abbrev pub caller_behind : {S : Type 0} → Club S → S → ParseState → Option (List ℕ)
caller_behind club s unfinished = None
caller_behind club s (refused r) = None
caller_behind club s (whole request) = caller club s request

-- the caching of the reply to the result of parsing; unspecified unless a route was found
abbrev pub caching_behind : ParseState → Caching
caching_behind unfinished = Unspecified
caching_behind (refused r) = Unspecified
caching_behind (whole request) = caching_for request.target

-- ---- replies

-- the 503 reply that reports a fault of the club
abbrev pub club_fault_reply : ClubFault → Caching → Bool → List ℕ
club_fault_reply fault caching without_body =
    fault_reply (club_fault_number fault) (club_fault_name fault) (passes_soon fault) caching without_body

-- the reply reports a fault of the club, and one of two states is left
abbrev pub ReportsFault : {S : Type 0} → (S → S → Type 0) → S → S → Caching → Bool → List ℕ → Type 0
ReportsFault leaves s next caching without_body reply =
    (fault : ClubFault) × IsOfCall fault × (reply ≡ club_fault_reply fault caching without_body) × leaves s next

-- nobody is named but the sender of the request; nobody at all only if the reply reports a fault
abbrev pub NamesCaller : {S : Type 0} → Club S → S → Bool → ParseState → List ℕ → Option (List ℕ) → Type 0
NamesCaller club s without_body seen reply told = (told ≡ caller_behind club s seen)
    ⊎ ((told ≡ None) × (fault : ClubFault) × IsOfCall fault
    × (reply ≡ club_fault_reply fault (caching_behind seen) without_body))

-- the reply has the expected answer, and the club is in the next state
abbrev pub ShowsDue : {S : Type 0} → Club S → (S → Type 0) → S → S × ExpectedReply → Caching → Bool → List ℕ → Type 0
ShowsDue club stands s due caching without_body reply =
    ((given : Answer) × IsExpectedReply club s due.1 given × (reply ≡ answer_reply given caching without_body))
    × stands due.0

-- the reply to the result of parsing, and the state of the club after it
abbrev pub IsReply : {S : Type 0} → Club S → (S → Type 0) → (S → S → Type 0) → S → ℕ → Bool → ParseState → List ℕ
    → Type 0
IsReply club stands leaves s moment without_body unfinished reply = (reply ≡ []) × stands s
IsReply club stands leaves s moment without_body (refused r) reply =
    (reply ≡ refusal_reply (Head r) Unspecified without_body) × stands s
IsReply club stands leaves s moment without_body (whole request) reply =
    ShowsDue club stands s (serve club s moment request) (caching_for request.target) without_body reply
    ⊎ ReportsFault leaves s (serve club s moment request).0 (caching_for request.target) without_body reply

-- the next state
abbrev pub next_state : {S : Type 0} → Club S → S → ℕ → ParseState → S
next_state club s moment unfinished = s
next_state club s moment (refused r) = s
next_state club s moment (whole request) = (serve club s moment request).0

-- a call replies, or fails by itself and leaves one of the two states
abbrev pub RepliesTo : {S A F : Type 0} → Club S → (S → Type 0) → (S → S → Type 0) → (A → List ℕ) → S → ℕ → Bool
    → ParseState → Result A F → Type 0
RepliesTo club stands leaves view s moment without_body seen (Ok reply) =
    IsReply club stands leaves s moment without_body seen (view reply)
RepliesTo club stands leaves view s moment without_body seen (Err fault) = leaves s (next_state club s moment seen)

-- ---- an unavailable club

-- an answer that needs no club, or the club's fault
abbrev pub shut_known : ClubFault → Option (List ℕ) → Result Answer ClubFault
shut_known fault None = Ok (refusal (OfClub UnknownKey))
shut_known fault (Some key) = if is_utf8 key then Err fault else Ok (refusal (OfClub UnknownKey))

-- the members' page needs no club
abbrev pub shut_caller : ClubFault → Option (List ℕ) → Endpoint → Result Answer ClubFault
shut_caller fault key asked = if needs_key asked.route.access then shut_known fault key else Ok shows_page

-- the answer to a request for this endpoint if that needs no club, otherwise the club's fault
abbrev pub shut_asked : ClubFault → HttpRequest → Option Endpoint → Result Answer ClubFault
shut_asked fault request None = Ok (refusal NoRoute)
shut_asked fault request (Some asked) =
    if is_method request.method asked.route.method then shut_caller fault request.key asked else Ok
    (refusal (WrongMethod asked.route.method))

-- the answer to a complete request if that needs no club, otherwise the club's fault
unfoldable pub shut_serve : ClubFault → HttpRequest → Result Answer ClubFault
shut_serve fault request = shut_asked fault request (match_route request.target)

-- the bytes of the reply with this answer, or of the reply that reports the fault
abbrev pub shut_text : Result Answer ClubFault → Caching → Bool → List ℕ
shut_text (Ok given) caching without_body = answer_reply given caching without_body
shut_text (Err fault) caching without_body = club_fault_reply fault caching without_body

-- the reply to the result of parsing: a request that needs the club gets the fault
abbrev pub shut_reply : ClubFault → Bool → ParseState → List ℕ
shut_reply fault without_body unfinished = []
shut_reply fault without_body (refused r) = refusal_reply (Head r) Unspecified without_body
shut_reply fault without_body (whole request) =
    shut_text (shut_serve fault request) (caching_for request.target) without_body

-- the same for bytes
abbrev pub IsShutReply : ClubFault → List ℕ → List ℕ → Type 0
IsShutReply fault bytes reply =
    (seen : ParseState) × Sees bytes seen × (reply ≡ shut_reply fault (asks_head bytes) seen)

-- ---- bytes

-- a call replies to bytes, or fails by itself
abbrev pub Answers : {S A F : Type 0} → Club S → (S → Type 0) → (S → S → Type 0) → (A → List ℕ) → S → ℕ → List ℕ
    → Result A F → Type 0
Answers club stands leaves view s moment bytes result =
    (seen : ParseState) × Sees bytes seen × RepliesTo club stands leaves view s moment (asks_head bytes) seen result

-- the member that is named along with the reply to bytes
abbrev pub NamesCallerOf : {S : Type 0} → Club S → S → List ℕ → List ℕ → Option (List ℕ) → Type 0
NamesCallerOf club s bytes reply told =
    (seen : ParseState) × Sees bytes seen × NamesCaller club s (asks_head bytes) seen reply told
