-- The tables of a club after a command about a challenge that is accepted.
use Rattle.std.proofs.Common.{◌≡◌, ℕ, ◌+◌, ◌==◌, List, [], ◌∷◌, length, Option, Some, None, Bool, true, false, refl, ap}
use Rattle.std.proofs.Common.{sym, subst, ◌∙◌, arith, inr}
use Rattle.std.specs.Prelude.{if◌then◌else◌}
use Rattle.club_requests.specs.declared.answers.Outcome as given
use Rattle.club_requests.specs.declared.answers.Outcome.TheVariants as given_is
use Rattle.club_requests.specs.declared.answers.Answer.{Answer}
use Rattle.club_core.specs.declared.challenges.Challenge.{Challenge}
use Rattle.club_core.specs.declared.challenges.ChallengeDecision.{ChallengeDecision}
use Rattle.club_core.specs.declared.challenges.ChallengeDecision.TheVariants as decision
use Rattle.club_core.specs.declared.challenges.ChallengeState.{ChallengeState}
use Rattle.club_core.specs.declared.challenges.ChallengeState.TheVariants.{Accepted}
use Rattle.sqlite.specs.Order.{Row}
use Rattle.club_requests.specs.declared.refusals.Refusal.{Refusal}
use Rattle.club_requests.specs.declared.refusals.Refusal.TheVariants.{UnknownChallenge}
use Rattle.club_requests.specs.declared.requests.Caller.{Caller}
use Rattle.club_requests.specs.declared.requests.Caller.TheVariants.{Officer, Member}
use Rattle.club_core.specs.Answer.{reply_of}
use Rattle.club_core.specs.internal.Answer.{challenge_outcome_of}
use Rattle.club_core.specs.Challenges.{pairing_for, answer_step, answers, answer_refusal, repeat_of_answer}
use Rattle.club_core.specs.Events.{Event, is_closed}
use Rattle.club_requests.specs.Outcome.{Outcome, Reply, accepted, repeated, refused, map_outcome, by_member, unless}
use Rattle.club_requests.specs.Outcome.{unless_repeat}
use Rattle.club_core.specs.declared.seats.Pairing.{Pairing}
use Rattle.club_core.specs.State.{place, kind_at, seated_as, with_challenge, with_answer}
use Rattle.club_core.specs.State.{with_imported, challenge_game}
use Rattle.club_rows.specs.Club.{both_games, ClubGame, ClubState, IsClub}
use Rattle.club_rows.specs.Tables.{challenge_row, row_of_game, rows_of_moves, rows_of_rulings}
use Rattle.club_rows.proofs.Proved.{challenge-put, scores_seated, seen-added}
use Rattle.store_tables.proofs.Proved.{altered}
use Rattle.store_tables.specs.declared.rows.Changes.{Changes}
use Rattle.club_changes.specs.declared.decided.CommandEffect.{CommandEffect}
use Rattle.club_changes.specs.internal.Challenged.{PutsBegun, AnswersTo, standing_after, begun_games, begun_seen}
use Rattle.club_changes.specs.internal.Steps.{Puts, PutRows, IsDecided, started, started_seen, started_scores, no_rows}
use Rattle.club_changes.proofs.NextRows.{first_of_game, no_moves, no_rulings}
use Rattle.club_changes.proofs.OutcomeLemmas.{all_decided, none_decided, moment_put}
use Rattle.club_changes.proofs.PutSame.{◌&◌, if_same, same_itself, same_by, row_added, nothing_added}

-- ---- what is decided

-- the rows that are put where the challenge stands so
abbrev begun_rows : List Event → ℕ → Challenge → List Row → ChallengeState → PutRows
begun_rows events moment c challenges standing = record no_rows {
  challenges = challenges;
  games = begun_games events moment c standing;
  seen = begun_seen events moment c standing;
}

-- what is told of a decision that accepted nothing
abbrev IsTold : ChallengeDecision → given.Outcome → Type 0
IsTold (decision.Accepted c answer) told = ⊥
IsTold (decision.Repeated answer) told = told ≡ given_is.Repeated answer
IsTold (decision.Refused why) told = told ≡ given_is.Refused why

-- the game that a challenge is to is of its event
abbrev event_in : Pairing → ℕ
event_in p = p.event

pairing_event : (c : Challenge) → (pairing_for c).event ≡ c.event
pairing_event c = if_same event_in c.first (record { event = c.event; first = c.member; second = c.other })
    (record { event = c.event; first = c.other; second = c.member }) refl

game_is : (s : ClubState) (moment : ℕ) (c : Challenge)
    → seated_as (kind_at (place s.events (pairing_for c).event)) None (pairing_for c) moment ≡ challenge_game s moment c
game_is s moment c = ap (λ e. seated_as (kind_at (place s.events e)) None (pairing_for c) moment) (pairing_event c)

module _ (s : ClubState) (is_club : IsClub s) (moment : ℕ) where
  -- a challenge alone is put
  pub challenge_decided : (c : Challenge) (a : Answer) (changes : Changes)
      → Puts changes moment (record no_rows { challenges = challenge_row c ∷ [] })
      → IsDecided s (map_outcome (with_challenge s moment) (challenge_outcome_of (decision.Accepted c a)))
      (record { outcome = given_is.Accepted a; changes = Some changes })
  challenge_decided c a changes puts =
      all_decided s (accepted (with_challenge s moment c) (reply_of a)) (with_challenge s moment c)
      (given_is.Accepted a) changes moment _ refl refl puts (inr (refl, refl, refl))
      (moment_put s moment
      & same_itself _ & same_itself _
      & challenge-put s.challenges c is_club.challenge_numbers
      & same_itself _ & same_itself _ & same_itself _ & same_itself _ & same_itself _
      & same_itself _ & same_itself _ & same_itself _ & tt)

  -- a challenge and the game that it starts are put
  begun_decided : (c : Challenge) (a : Answer) (changes : Changes) (id : ℕ) → c.standing ≡ Accepted id
      → id ≡ 1 + length s.games → PutsBegun s.events moment c (challenge_row c ∷ []) changes
      → IsDecided s (map_outcome (with_answer s moment true) (accepted c (reply_of a)))
      (record { outcome = given_is.Accepted a; changes = Some changes })
  begun_decided c a changes id stands next begun =
      let p = pairing_for c in
      let is : c.standing ≡ Accepted (1 + length s.games) = stands ∙ ap Accepted next in
      let kind = kind_at (place s.events p.event) in
      let game : ClubGame = seated_as kind None p moment in
      let running = rw is at begun.running in
      all_decided s (map_outcome (with_answer s moment true) (accepted c (reply_of a)))
      (with_challenge (with_imported s moment game) moment c) (given_is.Accepted a) changes moment _ refl
      (sym (ap (λ g. with_challenge (with_imported s moment g) moment c) (game_is s moment c)))
      (subst (λ z. Puts changes moment (begun_rows s.events moment c (challenge_row c ∷ []) z)) is begun.puts)
      (inr (refl, refl, refl))
      (moment_put s moment
      & same_itself _ & same_itself _
      & challenge-put s.challenges c is_club.challenge_numbers
      & nothing_added (rows_of_moves both_games s.events) s.games game
      (no_moves both_games s.events kind None p moment)
      & row_added (row_of_game both_games s.events) (first_of_game both_games s.events) s.games game
      & altered (0 ∷ 1 ∷ []) _ _ _ (seen-added both_games s.games game)
      & same_by _ _ (sym (scores_seated both_games s.games game running))
      & same_itself _ & same_itself _
      & nothing_added rows_of_rulings s.games game (no_rulings both_games kind None p moment)
      & same_itself _ & tt)

  -- an accepted answer is put
  pub answer_decided : (accept : Bool) (c : Challenge) (a : Answer) (changes : Changes)
      → c.standing ≡ standing_after (length s.games) accept → PutsBegun s.events moment c (challenge_row c ∷ []) changes
      → IsDecided s (map_outcome (with_answer s moment accept) (challenge_outcome_of (decision.Accepted c a)))
      (record { outcome = given_is.Accepted a; changes = Some changes })
  answer_decided true c a changes stands begun =
      begun_decided c a changes (length s.games + 1) stands (omega arith) begun
  answer_decided false c a changes stands begun =
      challenge_decided c a changes
      (subst (λ z. Puts changes moment (begun_rows s.events moment c (challenge_row c ∷ []) z)) stands begun.puts)

  -- where nothing is accepted, nothing is put
  pub challenge_unmoved : (f : Challenge → ClubState) (shown : ChallengeDecision) (d : CommandEffect)
      → IsTold shown d.outcome → d.changes ≡ None → IsDecided s (map_outcome f (challenge_outcome_of shown)) d
  challenge_unmoved f (decision.Accepted c answer) d told none = absurd told
  challenge_unmoved f (decision.Repeated answer) d told none =
      none_decided s (repeated (reply_of answer)) d (given_is.Repeated answer) told none refl refl
  challenge_unmoved f (decision.Refused why) d told none =
      none_decided s (refused why) d (given_is.Refused why) told none refl refl

-- ---- by a member

-- what a member's command leaves is what its outcome does
pub member_mapped : {T : Type 0} (f : T → ClubState) (who : Caller) (step : ℕ → Outcome T)
    → by_member who (λ m. map_outcome f (step m)) ≡ map_outcome f (by_member who step)
member_mapped f Officer step = refl
member_mapped f (Member id) step = refl

-- a command by what was read is that by the state
pub member_same : {T : Type 0} (who : Caller) (one other : ℕ → Outcome T)
    → ((id : ℕ) → who ≡ Member id → one id ≡ other id) → by_member who one ≡ by_member who other
member_same Officer one other same = refl
member_same (Member id) one other same = same id refl

-- ---- what an answer leaves

unless_leaves : (games : ℕ) (accept : Bool) (again : Option Reply) (refusal : Option Refusal) (o : Outcome Challenge)
    → AnswersTo games accept o → AnswersTo games accept (unless_repeat again (unless refusal o))
unless_leaves games accept (Some r) refusal o answers = tt
unless_leaves games accept None (Some why) o answers = tt
unless_leaves games accept None None o answers = answers

answer_leaves : (events : List Event) (under : Option Challenge) (games caller : ℕ) (accept : Bool)
    → AnswersTo games accept (answer_step events under games caller accept)
answer_leaves events None games caller accept = tt
answer_leaves events (Some c) games caller accept = here (c.other == caller)
  where
    answered_so : (accept : Bool) → AnswersTo games accept (answers c games accept)
    answered_so true = refl
    answered_so false = refl

    here : (b : Bool) → AnswersTo games accept
        (if
        b then (unless_repeat (repeat_of_answer c.number c.standing accept)
        (unless (answer_refusal c.standing games (is_closed events c.event) accept) (answers c games accept)))
        else refused UnknownChallenge)
    here true = unless_leaves games accept (repeat_of_answer c.number c.standing accept)
        (answer_refusal c.standing games (is_closed events c.event) accept) (answers c games accept)
        (answered_so accept)
    here false = tt

pub member_answers : (who : Caller) (events : List Event) (under : Option Challenge) (games : ℕ) (accept : Bool)
    → AnswersTo games accept (by_member who (λ m. answer_step events under games m accept))
member_answers Officer events under games accept = tt
member_answers (Member id) events under games accept = answer_leaves events under games id accept

-- ---- the game of an accepted challenge

-- the rows of the game that an accepted challenge has started are put
pub begun_started : (events : List Event) (moment : ℕ) (c : Challenge) (id : ℕ) (p : Pairing) (changes : Changes)
    → c.standing ≡ Accepted id → p ≡ pairing_for c
    → Puts changes moment
    (record no_rows { games = started events id None p moment ∷ []; seen = started_seen events id None p moment })
    → started_scores events None p moment ≡ [] → PutsBegun events moment c [] changes
begun_started events moment c id p changes is paired puts running =
    record { puts = rw is (rw paired at puts); running = rw is (rw paired at running) }
