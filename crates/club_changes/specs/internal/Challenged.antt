-- The rows to upsert for a challenge, with the game that it starts if it is accepted. No promise of the program rests
-- on these definitions.
use Rattle.std.specs.Prelude.{◌≡◌, ◌+◌, ℕ, List, [], ◌∷◌, None, Bool, true, false, ⊤}
use Rattle.sqlite.specs.Order.{Row}
use Rattle.club_core.specs.declared.challenges.Challenge.{Challenge}
use Rattle.club_core.specs.declared.challenges.ChallengeDecision.{ChallengeDecision}
use Rattle.club_core.specs.declared.challenges.ChallengeDecision.TheVariants as decision
use Rattle.club_core.specs.declared.challenges.ChallengeState.{ChallengeState}
use Rattle.club_core.specs.declared.challenges.ChallengeState.TheVariants.{Open, Withdrawn, Refused, Accepted}
use Rattle.club_core.specs.Challenges.{pairing_for}
use Rattle.club_core.specs.Events.{Event}
use Rattle.club_core.specs.State.{place}
use Rattle.club_requests.specs.Outcome.{Outcome, accepted, repeated, refused}
use Rattle.club_rows.specs.Scores.{Meeting}
use Rattle.store_tables.specs.declared.rows.Changes.{Changes}
use Rattle.club_changes.specs.internal.Steps.{Puts, started, started_seen, started_scores, no_rows}

-- the rows of the started game: its own, its positions and its results; it has no key
abbrev pub begun_games : List Event → ℕ → Challenge → ChallengeState → List Row
begun_games events moment c Open = []
begun_games events moment c Withdrawn = []
begun_games events moment c Refused = []
begun_games events moment c (Accepted id) = started events id None (pairing_for c) moment ∷ []

abbrev pub begun_seen : List Event → ℕ → Challenge → ChallengeState → List Row
begun_seen events moment c Open = []
begun_seen events moment c Withdrawn = []
begun_seen events moment c Refused = []
begun_seen events moment c (Accepted id) = started_seen events id None (pairing_for c) moment

abbrev pub begun_meetings : List Event → ℕ → Challenge → ChallengeState → List Meeting
begun_meetings events moment c Open = []
begun_meetings events moment c Withdrawn = []
begun_meetings events moment c Refused = []
begun_meetings events moment c (Accepted id) = started_scores events None (pairing_for c) moment

-- the rows to upsert are these challenges and the started game
pub record PutsBegun (events : List Event) (moment : ℕ) (c : Challenge) (challenges : List Row)
    (changes : Changes) : Type 0 where
  pub puts : Puts changes moment
      (record no_rows {
        challenges = challenges;
        games = begun_games events moment c c.standing;
        seen = begun_seen events moment c c.standing;
      })
  pub running : begun_meetings events moment c c.standing ≡ []

-- the state after the answer: refused, or accepted with the next game's id
abbrev pub standing_after : ℕ → Bool → ChallengeState
standing_after games true = Accepted (games + 1)
standing_after games false = Refused

abbrev pub AnswersTo : ℕ → Bool → Outcome Challenge → Type 0
AnswersTo games accept (accepted c reply) = c.standing ≡ standing_after games accept
AnswersTo games accept (repeated reply) = ⊤
AnswersTo games accept (refused refusal) = ⊤

-- the event of the accepted challenge does not exist
abbrev pub HasNoEvent : List Event → ChallengeDecision → Type 0
HasNoEvent events (decision.Accepted c answer) = place events (pairing_for c).event ≡ None
HasNoEvent events (decision.Repeated answer) = ⊥
HasNoEvent events (decision.Refused refusal) = ⊥
