-- What is behind a request: the state before it, or that after a member's command.
use Rattle.std.proofs.Common.{◌≡◌, ◌⊎◌, ◌≤◌, ℕ, List, Option, Some, None, Bool, true, false, refl, inl, inr}
use Rattle.std.specs.Prelude.{IfSome, option_map, option_and_then, if◌then◌else◌}
use Rattle.club_requests.specs.Analysis.{Analysis}
use Rattle.club_requests.specs.Limits.{last_moment}
use Rattle.club_core.specs.State.{Command, Request, key_holder, withdraw_challenge, on_game as game_command}
use Rattle.club_core.specs.Step.{GameCommand}
use Rattle.http_head.specs.Request as head
use Rattle.http_head.specs.Request.{ParseState, unfinished, refused, whole}
use Rattle.http_desk.specs.declared.table.Topic.{Topic}
use Rattle.http_desk.specs.declared.table.Topic.TheVariants as topic
use Rattle.http_desk.specs.Routes.{Endpoint, match_route}
use Rattle.http_desk.specs.Desk.{ExpectedReply, serve, serve_asked, serve_known, serve_topic, serve_command, command_given}
use Rattle.http_desk.specs.Desk.{next_state, serve_analysis}
use Rattle.http_bodies.specs.Bodies.{json_of, challenge_with, challenge_in, challenge_of, answer_with, answer_in}
use Rattle.http_bodies.specs.Analyses.{analysis_of}
use Rattle.http_bodies.specs.Bodies.{answer_of}
use Rattle.club_session.specs.Served.{DeskState, next_of, served}
use Rattle.club_session.specs.Turns.{IsMembers, IsTurn}

-- ---- what paths and bodies give are commands of members

turn_members : (id : ℕ) (command : Option GameCommand) → IfSome (option_map (game_command id) command) IsMembers
turn_members id None = tt
turn_members id (Some command) = tt

opening_given : (n : ℕ) (event other : Option (List ℕ)) (first : Option Bool)
    → IfSome (challenge_with n event other first) IsMembers
opening_given n None other first = tt
opening_given n (Some event) None first = tt
opening_given n (Some event) (Some other) None = tt
opening_given n (Some event) (Some other) (Some first) = tt

answer_given : (challenger : List ℕ) (n : ℕ) (accept : Option Bool) → IfSome (answer_with challenger n accept) IsMembers
answer_given challenger n None = tt
answer_given challenger n (Some accept) = tt

given_by : {D : Type 0} (f : D → Option Command) → ((d : D) → IfSome (f d) IsMembers) → (o : Option D)
    → IfSome (option_and_then f o) IsMembers
given_by f each None = tt
given_by f each (Some d) = each d

opening_members : (n : ℕ) (body : List ℕ) → IfSome (challenge_of n body) IsMembers
unfolding challenge_of
opening_members n body = given_by (challenge_in n) (λ d. opening_given n _ _ _) (json_of body)

answer_members : (challenger : List ℕ) (n : ℕ) (body : List ℕ) → IfSome (answer_of challenger n body) IsMembers
unfolding answer_of
answer_members challenger n body = given_by (answer_in challenger n) (λ d. answer_given challenger n _) (json_of body)

-- ---- what is behind a request

module _ (s : DeskState) (moment : ℕ) (within : moment ≤ last_moment) where
  abbrev pub IsNext : DeskState → Type 0
  IsNext t = (t ≡ s) ⊎ ((request : Request) × IsTurn request × (t ≡ next_of s request))

  if_next : (b : Bool) (one other : DeskState × ExpectedReply) → IsNext one.0 → IsNext other.0
      → IsNext (if b then one else other).0
  if_next true one other first second = first
  if_next false one other first second = second

  command_next : (key : List ℕ) (id : ℕ) (command : Option Command) → IfSome command IsMembers
      → IsNext (serve_command served s moment key id command).0
  command_next key id None members = inl refl
  command_next key id (Some command) members =
      inr (
        record { who = key_holder key; command = command; moment = moment },
        record { key = key; command = command; members = members; is = refl; within = within },
        refl,
      )

  analysis_next : (analysis : Option Analysis) → IsNext (serve_analysis served s moment analysis).0
  analysis_next None = inl refl
  analysis_next (Some analysis) = inl refl

  topic_next : (key body : List ℕ) (asked : Endpoint) (about : Topic)
      → IsNext (serve_topic served s moment key body asked about).0
  topic_next key body asked topic.MembersPage = inl refl
  topic_next key body asked (topic.Question about kind) = inl refl
  topic_next key body asked (topic.Analysis kind) = analysis_next (analysis_of kind body)
  topic_next key body asked (topic.OnGame action) =
      command_next key asked.id _ (turn_members asked.id (command_given action asked.ply body))
  topic_next key body asked topic.Challenge = command_next key asked.number _ (opening_members asked.number body)
  topic_next key body asked topic.Withdraw =
      command_next key asked.number (Some (withdraw_challenge asked.number)) tt
  topic_next key body asked topic.Answer =
      command_next key asked.number _ (answer_members asked.member asked.number body)

  known_next : (key : Option (List ℕ)) (body : List ℕ) (asked : Endpoint)
      → IsNext (serve_known served s moment key body asked).0
  known_next None body asked = inl refl
  known_next (Some key) body asked = if_next _ _ _ (topic_next key body asked asked.route.topic) (inl refl)

  asked_next : (request : head.HttpRequest) (asked : Option Endpoint) → IsNext (serve_asked served s moment request asked).0
  asked_next request None = inl refl
  asked_next request (Some asked) =
      if_next _ _ _ (if_next _ _ _ (known_next request.key request.body asked) (inl refl)) (inl refl)

  pub seen_next : (seen : ParseState) → IsNext (next_state served s moment seen)
  unfolding serve
  seen_next unfinished = inl refl
  seen_next (refused r) = inl refl
  seen_next (whole request) = asked_next request (match_route request.target)
