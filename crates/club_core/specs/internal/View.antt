-- When the stored rows represent a game of the specification, and when a decision is the outcome of its transition. No
-- promise of the program rests on these definitions.
use Rattle.std.specs.Prelude.{◌≡◌, ℕ, ◌-◌, length, Option, Some, None, Ok, slice_get}
use Rattle.std.specs.Option.{option_map}
use Rattle.squares.specs.declared.sides.Side.{Side}
use Rattle.club_rules.specs.GameRules.{GameRules}
use Rattle.club_rules.specs.Line.{times_stood, FirstStands}
use Rattle.club_core.specs.declared.rows.GameEnd.{GameEnd}
use Rattle.club_core.specs.declared.rows.GameEnd.TheVariants.{Rule, Verdict, Outside}
use Rattle.club_core.specs.declared.rows.GameView.{GameView}
use Rattle.club_core.specs.declared.rows.Made.{Made}
use Rattle.club_core.specs.declared.rows.StoredRulings.{StoredRulings}
use Rattle.club_core.specs.declared.settling.Settled.{Settled}
use Rattle.club_requests.specs.declared.answers.Answer.{Answer}
use Rattle.club_requests.specs.declared.answers.Answer.TheVariants as given
use Rattle.club_core.specs.declared.decided.Decision.{Decision}
use Rattle.club_core.specs.declared.decided.Decision.TheVariants as decision
use Rattle.club_core.specs.Events.{Terms}
use Rattle.club_requests.specs.Outcome.{Outcome, accepted, repeated, refused}
use Rattle.club_core.specs.Answer.{reply_of}
use Rattle.club_core.specs.Rulings.{ruling_under}
use Rattle.club_core.specs.Game.{Game, moves_of, last_position, score_with}
use Rattle.club_core.specs.Game.{left_of, left_after}
use Rattle.club_core.specs.View.{clocks_in, IsRowOf}

-- the end that the rules gave
abbrev pub rule_in : {E : Type 0} → Option (GameEnd E) → Option E
rule_in None = None
rule_in (Some (Rule e)) = Some e
rule_in (Some (Verdict v)) = None
rule_in (Some (Outside o)) = None

-- the new move with the position after it
abbrev pub IsMade : {R P M E T : Type 0} → GameRules P M E T → Game M → Option M → Option (Made R P M E T) → Type 0
IsMade rules game None None = Unit {0}
IsMade rules game (Some m) None = ⊥
IsMade rules game None (Some made) = ⊥
IsMade rules game (Some m) (Some made) = (made.made ≡ m) × (made.position ≡ last_position rules game)

-- the end that the rules give, and its result given the side to move
abbrev pub settled_by : {R P M E T : Type 0} → GameRules P M E T → Option E → Side → Settled R P M E T
settled_by rules end turn = record { end = option_map Rule end; result = score_with rules (option_map Rule end) turn }

-- the data holds the number of the rulings on the game, and the ruling under this number, if there is one
pub record ShowsRulings {M : Type 0} (game : Game M) (number : ℕ) (stored : StoredRulings) : Type 0 where
  pub count : stored.count ≡ length game.rulings
  pub asked : stored.asked ≡ ruling_under game.rulings number

-- The end and the result of the game after a decision. A move is judged by the track, the new position, its number of
-- occurrences and the ply after which it first occurred; any other decision keeps the values of its row.
abbrev pub settled_of : {R P M E T : Type 0} → GameRules P M E T → Decision R P M E T → ℕ → ℕ → Settled R P M E T
settled_of rules (decision.Accepted row None answer) times first = record { end = row.end; result = row.result }
settled_of rules (decision.Accepted row (Some made) answer) times first =
    settled_by rules
    (rules.track_end (rules.track_of row.track.0 row.track.1) made.position row.plies times first)
    (rules.turn made.position)
settled_of rules (decision.Repeated answer) times first = record { end = None; result = None }
settled_of rules (decision.Refused refusal) times first = record { end = None; result = None }

-- the answer to a move with the end that the rules gave
abbrev pub answer_with : {P M E T : Type 0} → GameRules P M E T → Option (GameEnd E) → Answer → Answer
answer_with rules end (given.Moved m) = given.Moved (record m { end = option_map rules.end_name (rule_in end) })
answer_with rules end (given.Member id) = given.Member id
answer_with rules end (given.Event id) = given.Event id
answer_with rules end (given.Game id) = given.Game id
answer_with rules end (given.Offered ply) = given.Offered ply
answer_with rules end (given.Ended by score) = given.Ended by score
answer_with rules end (given.Swept count) = given.Swept count
answer_with rules end (given.ChallengeOpened number) = given.ChallengeOpened number
answer_with rules end (given.ChallengeWithdrawn number) = given.ChallengeWithdrawn number
answer_with rules end (given.ChallengeRefused number) = given.ChallengeRefused number
answer_with rules end (given.ChallengeAccepted number game) = given.ChallengeAccepted number game
answer_with rules end (given.KeyGiven number) = given.KeyGiven number
answer_with rules end given.EventClosed = given.EventClosed
answer_with rules end (given.RulingGiven number) = given.RulingGiven number

-- the decision with this end and this result
abbrev pub concluded : {R P M E T : Type 0} →
    GameRules P M E T → Decision R P M E T → Settled R P M E T → Decision R P M E T
concluded rules (decision.Accepted row made answer) settled =
    decision.Accepted
    (record row { end = settled.end; result = settled.result })
    made
    (answer_with rules settled.end answer)
concluded rules (decision.Repeated answer) settled = decision.Repeated answer
concluded rules (decision.Refused refusal) settled = decision.Refused refusal

-- the completed decision is the outcome of the transition
abbrev pub IsConcluded : {R P M E T : Type 0} →
    GameRules P M E T → Terms → Game M → Outcome (Game M) → Decision R P M E T → Type 0
IsConcluded rules terms old (accepted new reply) (decision.Accepted row made answer) =
    IsRowOf rules terms new row
    × IsMade rules new (slice_get (moves_of new) (length old.entries)) made
    × (reply_of answer ≡ reply)
IsConcluded rules terms old (repeated reply) (decision.Repeated answer) = reply_of answer ≡ reply
IsConcluded rules terms old (refused refusal) (decision.Refused refusal') = refusal' ≡ refusal
IsConcluded rules terms old (accepted new reply) (decision.Repeated answer) = ⊥
IsConcluded rules terms old (accepted new reply) (decision.Refused refusal') = ⊥
IsConcluded rules terms old (repeated reply) (decision.Accepted row made answer) = ⊥
IsConcluded rules terms old (repeated reply) (decision.Refused refusal') = ⊥
IsConcluded rules terms old (refused refusal) (decision.Accepted row made answer) = ⊥
IsConcluded rules terms old (refused refusal) (decision.Repeated answer) = ⊥

-- the decision holds the move of the transition, with the position after it
abbrev pub HasMade : {R P M E T : Type 0} → GameRules P M E T → Game M → Outcome (Game M) → Decision R P M E T → Type 0
HasMade rules old (accepted new reply) (decision.Accepted row made answer) =
    IsMade rules new (slice_get (moves_of new) (length old.entries)) made
HasMade rules old outcome decision = Unit {0}

-- the new position has occurred this many times, and first after this ply
abbrev pub StoodAfter : {P M E T : Type 0} → GameRules P M E T → Outcome (Game M) → ℕ → ℕ → Type 0
StoodAfter rules (accepted new reply) times first =
    (times ≡ times_stood rules rules.start (moves_of new)) × FirstStands rules rules.start (moves_of new) first
StoodAfter rules (repeated reply) times first = Unit {0}
StoodAfter rules (refused refusal) times first = Unit {0}

-- the same, if the decision made a move
abbrev pub RepetitionIfMoved : {R P M E T : Type 0} → GameRules P M E T → Outcome (Game M) → Decision R P M E T → ℕ → ℕ
    → Type 0
RepetitionIfMoved rules outcome (decision.Accepted row (Some made) answer) times first =
    StoodAfter rules outcome times first
RepetitionIfMoved rules outcome (decision.Accepted row None answer) times first = Unit {0}
RepetitionIfMoved rules outcome (decision.Repeated answer) times first = Unit {0}
RepetitionIfMoved rules outcome (decision.Refused refusal) times first = Unit {0}

-- The decision, completed with the true repetition count and first ply of the new position, is the outcome of the
-- transition.
abbrev pub IsDecision : {R P M E T : Type 0} →
    GameRules P M E T → Terms → Game M → Outcome (Game M) → Decision R P M E T → Type 0
IsDecision rules terms old outcome decision =
    HasMade rules old outcome decision
    × ((times first : ℕ) → RepetitionIfMoved rules outcome decision times first →
    IsConcluded rules terms old outcome (concluded rules decision (settled_of rules decision times first)))

-- the conditions of an accepted move that leaves the mover this many seconds
pub record CanPlay {R P M E T : Type 0} (rules : GameRules P M E T) (view : GameView R P M E T) (turn : Side) (m : M)
    (seconds moment : ℕ) : Type 0 where
  pub running : view.row.end ≡ None
  pub to_move : turn ≡ rules.turn view.position
  pub legal : rules.check view.position m ≡ Ok tt
  pub left : seconds ≡ left_after (left_of turn (clocks_in view.row)) view.increment (moment - view.row.since)
