-- An accepted request that comes again after further sessions is answered alike.
use Rattle.std.proofs.Common.{◌≡◌, ◌≤◌, arith, ℕ, List, [], ◌∷◌, ◌++◌, Bool, true, Option, Some, None, refl, sym}
use Rattle.std.proofs.Common.{subst, ap, false, true≢false}
use Rattle.std.proofs.Common.{◌∙◌, ap₂, inl, inr}
use Rattle.std.specs.Prelude.{take, is_some, if◌then◌else◌}
use Rattle.club_requests.specs.declared.requests.Caller.{Caller}
use Rattle.club_requests.specs.declared.refusals.Refusal.TheVariants.{UnknownKey}
use Rattle.club_requests.specs.Outcome.{Outcome, Reply, accepted, map_outcome, repeated, refused}
use Rattle.club_core.specs.Answer.{answered}
use Rattle.club_core.specs.State.{Command, Request, caller_of, key_holder, on_game, state_after, step_by, sweep, takes}
use Rattle.club_rows.specs.Club.{both_games, ClubState}
use Rattle.club_rows.specs.FirstSchema.{upgraded_to}
use Rattle.club_rows.proofs.Proved.{version-served}
use Rattle.club_laws.specs.Laws.{IsIdempotent, IsSentAgain, StillRepeats}
use Rattle.club_changes.specs.Steps.{club_next, club_step}
use Rattle.store.specs.Runs.{club_fold}
use Rattle.store.specs.SchemaRuns.{accepted_in}
use Rattle.store.proofs.Proved.{fold_same}
use Rattle.store.specs.Histories as history
use Rattle.store.specs.Histories.{HistoryStep, Place, SessionReaches, HistoryLeadsTo}
use Rattle.store_tables.specs.Tables.{IsServed, schema_number}
use Rattle.store_tables.specs.declared.names.Version.{Version}
use Rattle.store_tables.specs.declared.names.Version.TheVariants.{V1, V2, V3}
use Rattle.http_desk.specs.Desk.{this, outcome_answer, serve}
use Rattle.club_reads.specs.Keys.{member_by_key}
use Rattle.club_reads.proofs.Proved.{holder_named}
use Rattle.club_session.specs.Served.{DeskState, beside_them, next_of, served}
use Rattle.club_session.specs.Repeats.{AnswersAlike, stands_at}
use Rattle.club_session.proofs.ArbiterLemmas.{fold_alike, step_alike, with_arbiter}

fold_more : (s : ClubState) (first second : List Request) → club_fold (club_fold s first) second
    ≡ club_fold s (first ++ second)
fold_more s [] second = refl
fold_more s (r ∷ first) second = fold_more (club_next s r) first second

-- what sessions and upgrades lead to is led to by some requests, but for the arbiter that an upgrade gives
pub record IsFolded (before after : ClubState) : Type 0 where
  pub requests : List Request
  pub is : after ≡ with_arbiter after.has_arbiter (club_fold before requests)

-- a version behind one that the program serves is served, too
served_after : (from to : Version) → IsServed from → schema_number from ≤ schema_number to → IsServed to
served_after V1 to served later = absurd (true≢false (sym served))
served_after V2 V1 served later = let no : 2 ≤ 1 = later in absurd (omega (arith, no))
served_after V2 V2 served later = refl
served_after V2 V3 served later = refl
served_after V3 V1 served later = let no : 3 ≤ 1 = later in absurd (omega (arith, no))
served_after V3 V2 served later = refl
served_after V3 V3 served later = refl

-- a change of the arbiter before some requests is one behind them
arbiter_first : (s : ClubState) (arbiter : Bool) (requests : List Request) (after : ClubState)
    → after ≡ with_arbiter after.has_arbiter (club_fold (with_arbiter arbiter s) requests)
    → after ≡ with_arbiter after.has_arbiter (club_fold s requests)
arbiter_first s arbiter requests after is =
    is ∙ ap (λ t. with_arbiter after.has_arbiter t) (fold_alike both_games arbiter s requests)

-- an upgrade changes at most the arbiter
upgrade_arbiter : (to : Version) (s : ClubState) → (arbiter : Bool) × (upgraded_to to s ≡ with_arbiter arbiter s)
upgrade_arbiter V1 s = (s.has_arbiter, refl)
upgrade_arbiter V2 s = (s.has_arbiter, refl)
upgrade_arbiter V3 s = (true, refl)

reached : (before after : Place) (chapters : List HistoryStep) → IsServed before.version
    → HistoryLeadsTo before chapters after → IsFolded before.state after.state
reached before after [] is_served is = record {
  requests = [];
  is = let same = ap (λ (p : Place). p.state) is in
      same ∙ ap (λ (arbiter : Bool). with_arbiter arbiter before.state) (sym (ap (λ (s : ClubState). s.has_arbiter) same));
}
reached before after (history.served session ∷ chapters) is_served (between, (version, leads), rest) =
    let first = take leads.k (accepted_in before.version before.state session.requests) in
    let later = reached between after chapters (subst IsServed (sym version) is_served) rest in
    record {
      requests = first ++ later.requests;
      is = later.is ∙ ap (λ s. with_arbiter after.state.has_arbiter s)
          (ap (λ s. club_fold s later.requests) (leads.is ∙ fold_same before.version is_served before.state first)
          ∙ fold_more before.state first later.requests);
    }
reached before after (history.upgraded to answered ∷ chapters) is_served (between, led, rest) =
    elim led.place [
      | inl is ↦
          let to_served = served_after before.version to is_served led.later in
          let later = reached between after chapters (subst IsServed (sym (ap (λ (p : Place). p.version) is)) to_served)
          rest in
          let (arbiter, gave) = upgrade_arbiter to before.state in
          let stood : between.state ≡ with_arbiter arbiter before.state = ap (λ (p : Place). p.state) is ∙ gave in
          record {
            requests = later.requests;
            is = arbiter_first before.state arbiter later.requests after.state
                (later.is ∙ ap (λ s. with_arbiter after.state.has_arbiter (club_fold s later.requests)) stood);
          }
      | inr stays ↦
          let later = reached between after chapters
          (subst IsServed (sym (ap (λ (p : Place). p.version) stays.1)) is_served) rest in
          record {
            requests = later.requests;
            is = later.is ∙ ap (λ s. with_arbiter after.state.has_arbiter (club_fold s later.requests))
                (ap (λ (p : Place). p.state) stays.1);
          }
    ]

-- what is not refused for its key is of a member
some_caller : (s : ClubState) (moment : ℕ) (command : Command) (caller : Option Caller) (outcome : Outcome ClubState)
    → step_by both_games s moment caller command ≡ outcome → (outcome ≡ refused UnknownKey → ⊥)
    → is_some caller ≡ true
some_caller s moment command None outcome is other = absurd (other (sym is))
some_caller s moment command (Some caller) outcome is other = refl

member : (s : ClubState) (key : List ℕ) (command : Command) (moment : ℕ) (outcome : Outcome ClubState)
    → club_step s (record { who = key_holder key; command = command; moment = moment }) ≡ outcome
    → (outcome ≡ refused UnknownKey → ⊥) → is_some (member_by_key s key) ≡ true
member s key command moment outcome is other =
    holder_named s key (some_caller s _ command (caller_of s.members (key_holder key)) outcome is other)

-- what is due where the machine answers so
due : (s : ClubState) (request : Request) (outcome : Outcome ClubState) (number : ℕ) → club_step s request ≡ outcome
    → outcome_answer number (answered (club_step s request)) ≡ outcome_answer number (answered outcome)
due s request outcome number is = ap (λ o. outcome_answer number (answered o)) is

by_taken : (taken : Bool) (s : DeskState) (new : ClubState) → new ≡ s.state
    → (if taken then beside_them s.them new else s) ≡ s
by_taken true s new same = ap (λ t. beside_them s.them t) same
by_taken false s new same = refl

-- what is repeated changes nothing
stays : (s : DeskState) (request : Request) (reply : Reply) → club_step s.state request ≡ repeated reply
    → next_of s request ≡ s
stays s request reply is =
    by_taken (takes s.state request.command) s (club_next s.state request) (ap (λ o. state_after s.state o) is)

-- whether a command can be repeated does not depend on the arbiter
still_repeats : (arbiter : Bool) (s : ClubState) (command : Command) → StillRepeats (with_arbiter arbiter s) command
    → StillRepeats s command
still_repeats arbiter s (on_game id command) still = still
still_repeats arbiter s sweep still = still
still_repeats arbiter s _ still = still

-- the machine answers so with an arbiter, too
repeats_alike : (arbiter : Bool) (s : ClubState) (request : Request) (reply : Reply)
    → club_step s request ≡ repeated reply → club_step (with_arbiter arbiter s) request ≡ repeated reply
repeats_alike arbiter s request reply is =
    step_alike both_games arbiter s request ∙ ap (λ o. map_outcome (with_arbiter arbiter) o) is

pub answers_alike : IsIdempotent both_games → AnswersAlike
answers_alike again one other before after later moment next request repetition key present number command reply between
    is_club asks asks_again taken leads same_caller still =
    let first : Request = record { who = key_holder key; command = command; moment = moment } in
    let second : Request = record { who = key_holder present; command = command; moment = next } in
    let folded = reached (stands_at after) (stands_at later) between (version-served after) leads in
    let stood = club_fold after folded.requests in
    let arbiter = later.has_arbiter in
    let called : caller_of stood.members (key_holder present) ≡ caller_of before.members (key_holder key) =
    ap (λ (s : ClubState). caller_of s.members (key_holder present)) (sym folded.is) ∙ same_caller in
    let sent : IsSentAgain before stood first second = record { command = refl; caller = called } in
    let stood_still : StillRepeats stood command =
    still_repeats arbiter stood command (subst (λ s. StillRepeats s command) folded.is still) in
    let told : club_step stood second ≡ repeated reply =
    again before after first second reply folded.requests is_club taken sent stood_still in
    let repeats : club_step later second ≡ repeated reply =
    subst (λ s. club_step s second ≡ repeated reply) (sym folded.is) (repeats_alike arbiter stood second reply told) in
    let was : is_some (member_by_key before key) ≡ true =
    member before key command moment (accepted after reply) taken (λ e. cc) in
    let is_still : is_some (member_by_key later present) ≡ true =
    member later present command next (repeated reply) repeats (λ e. cc) in
    let gave = asks.is (beside_them one before) moment was in
    let gives = asks_again.is (beside_them other later) next is_still in
    let shown : (serve served (beside_them one before) moment request).1
    ≡ this (outcome_answer number (repeated reply)) =
    ap (λ p. p.1) gave ∙ ap this (due before first (accepted after reply) number taken) in
    let shows : serve served (beside_them other later) next repetition
    ≡ (beside_them other later, this (outcome_answer number (repeated reply))) =
    gives ∙ ap₂ (λ s d. (s, this d)) (stays (beside_them other later) second reply repeats)
    (due later second (repeated reply) number repeats) in
    shows ∙ ap (λ d. (beside_them other later, d)) (sym shown)
