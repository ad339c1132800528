-- The outcome of a command: a reply if it is accepted or repeats an accepted one, otherwise the first refusal that
-- applies.
use Rattle.std.specs.Prelude.{ℕ, List, [], ◌∷◌, Option, Some, None, Bool, if◌then◌else◌}
use Rattle.club_rules.specs.declared.names.EndName.{EndName}
use Rattle.squares.specs.declared.sides.Score.{Score}
use Rattle.club_requests.specs.declared.outside_end.OutsideEnd.{OutsideEnd}
use Rattle.club_requests.specs.declared.requests.Caller.{Caller}
use Rattle.club_requests.specs.declared.requests.Caller.TheVariants.{Officer, Member}
use Rattle.club_requests.specs.declared.refusals.Refusal.{Refusal}
use Rattle.club_requests.specs.declared.refusals.Refusal.TheVariants.{NotAllowed}

-- the reply to a move: its notation, the mover's seconds left after it, the position after it, and the end that the
-- rules gave
pub record MoveReply : Type 0 where
  pub ply : ℕ
  pub text : List ℕ
  pub left : ℕ
  pub position : List ℕ
  pub end : Option EndName

-- the answer to an accepted command
pub data Reply : Type 0 where
  member_added : (id : ℕ) → Reply
  event_added : (id : ℕ) → Reply
  game_seated : (id : ℕ) → Reply
  moved : MoveReply → Reply
  draw_offered : (ply : ℕ) → Reply
  -- the game ended for a reason outside its rules, with this result
  game_ended : OutsideEnd → Score → Reply
  -- number of games ended by time
  games_swept : (count : ℕ) → Reply
  -- a challenge's number is the one that its challenger gave it
  challenge_opened : (number : ℕ) → Reply
  challenge_withdrawn : (number : ℕ) → Reply
  challenge_refused : (number : ℕ) → Reply
  -- the challenge was accepted and started this game
  challenge_accepted : (number game : ℕ) → Reply
  -- the later key of a member under this number
  key_given : (number : ℕ) → Reply
  -- the event is closed to challenges
  event_closed : Reply
  -- the arbiter's ruling on a game under this number
  ruling_given : (number : ℕ) → Reply

-- accepted with the new state, repeated, or refused
pub data Outcome (S : Type 0) : Type 0 where
  accepted : S → Reply → Outcome S
  repeated : Reply → Outcome S
  refused : Refusal → Outcome S

-- the outcome with its new state, if any, mapped by a function
abbrev pub map_outcome : {S T : Type 0} → (S → T) → Outcome S → Outcome T
map_outcome f (accepted after reply) = accepted (f after) reply
map_outcome f (repeated reply) = repeated reply
map_outcome f (refused refusal) = refused refusal

-- the first refusal whose test is true
abbrev pub first_refusal : List (Bool × Refusal) → Option Refusal
first_refusal [] = None
first_refusal (test ∷ tests) = if test.0 then Some test.1 else first_refusal tests

-- a refusal if there is one, otherwise the outcome
abbrev pub unless : {S : Type 0} → Option Refusal → Outcome S → Outcome S
unless (Some refusal) outcome = refused refusal
unless None outcome = outcome

-- the earlier reply if the command repeats an accepted one, otherwise the outcome
abbrev pub unless_repeat : {S : Type 0} → Option Reply → Outcome S → Outcome S
unless_repeat (Some reply) outcome = repeated reply
unless_repeat None outcome = outcome

-- a command that only the officer may give
abbrev pub by_officer : {S : Type 0} → Caller → Outcome S → Outcome S
by_officer Officer outcome = outcome
by_officer (Member id) outcome = refused NotAllowed

-- a command that only members may give
abbrev pub by_member : {S : Type 0} → Caller → (ℕ → Outcome S) → Outcome S
by_member Officer outcome = refused NotAllowed
by_member (Member id) outcome = outcome id
