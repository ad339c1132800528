-- What is decided of a command, by what it is answered and the rows that are put.
use Rattle.std.proofs.Common.{◌≡◌, ℕ, ◌+◌, List, [], ◌∷◌, ◌++◌, length, Option, Some, None, true, false}
use Rattle.std.proofs.Common.{refl, ap, sym, subst, ◌∙◌, true≢false, arith, inr}
use Rattle.std.specs.Prelude.{max}
use Rattle.club_requests.specs.declared.answers.Outcome as given
use Rattle.club_requests.specs.declared.answers.Outcome.TheVariants as given_is
use Rattle.club_requests.specs.declared.answers.Answer.TheVariants as answer_is
use Rattle.club_requests.specs.declared.requests.Who as given_who
use Rattle.club_requests.specs.declared.requests.Command as given_command
use Rattle.club_requests.specs.declared.requests.Caller.{Caller}
use Rattle.club_requests.specs.declared.requests.Caller.TheVariants.{Officer, Member}
use Rattle.club_requests.specs.declared.refusals.Refusal.{Refusal}
use Rattle.club_requests.specs.declared.refusals.Refusal.TheVariants.{UnknownKey}
use Rattle.club_requests.specs.Outcome.{Reply, Outcome, accepted, repeated, refused, map_outcome, by_officer, unless}
use Rattle.club_requests.specs.Outcome.{unless_repeat, member_added, event_added, game_seated}
use Rattle.club_core.specs.Answer.{outcome_of, answered, who_of, command_of}
use Rattle.club_core.specs.Members as core_members
use Rattle.club_core.specs.Members.{find_id, member_step, same_member, member_refusal}
use Rattle.club_requests.specs.Limits.{is_name, is_budget, is_increment}
use Rattle.club_core.specs.Events.{Event, has_event_name, has_good_values, event_step, same_event, event_refusal}
use Rattle.club_core.specs.Events.{event_tests, declaring}
use Rattle.club_core.specs.declared.seats.KeyedGame.{KeyedGame}
use Rattle.club_core.specs.declared.seats.Pairing.{Pairing}
use Rattle.club_core.specs.Seats.{pair, seat_found, seat_step, same_seats, seat_refusal, has_member_name}
use Rattle.club_core.specs.State.{state_after, is_accepted, add_member, add_event, seat, seated_as, kind_at}
use Rattle.club_core.specs.State.{place, with_members, with_events, with_new_game, game_under, caller_of, step_by}
use Rattle.club_core.proofs.Proved.{none-holds}
use Rattle.club_laws.proofs.Proved.{unmoved, not-false, three-true}
use Rattle.sqlite.specs.Order.{Row}
use Rattle.club_rows.specs.Tables.{member_row, event_row, meta_row, row_of_game, rows_of_moves, rows_of_rulings, rule_row}
use Rattle.club_rows.specs.Tables.{rows_of_closing, rows_of_keys, version_of}
use Rattle.store_tables.specs.Tables.{schema_number}
use Rattle.store_tables.specs.declared.rows.Changes.{Changes}
use Rattle.club_changes.specs.declared.decided.CommandEffect.{CommandEffect}
use Rattle.club_rows.specs.Club.{both_games, ClubGame, ClubState, IsClub, tables}
use Rattle.club_changes.specs.Steps.{request, club_step}
use Rattle.club_changes.specs.internal.Steps.{caller_step, started, started_seen, started_scores, AreSame, AreTaken}
use Rattle.club_changes.specs.Steps.{HaveSame}
use Rattle.club_changes.specs.internal.Steps.{Puts, PutRows, no_rows, IsDecided, Makes}
use Rattle.club_rows.proofs.Proved.{scores_seated, seen-added}
use Rattle.store_tables.proofs.Proved.{altered}
use Rattle.store_tables.specs.internal.Content.{put}
use Rattle.club_changes.proofs.PutSame.{◌&◌, same_itself, same_by, one_replaced, row_added, nothing_added}
use Rattle.club_changes.proofs.PutSame.{numbered_alike, gathered_alike}
use Rattle.club_changes.proofs.NextRows.{first_of_game, no_moves, no_rulings, rows_before}
use Rattle.club_changes.proofs.ChangedLemmas.{all_changed, with_rows}

-- the row of `meta` of the club with this last timestamp
abbrev pub row_at : ClubState → ℕ → Row
row_at s moment = meta_row (schema_number (version_of s)) moment

-- the row of the last accepted command is replaced
pub moment_put : (s : ClubState) (moment : ℕ)
    → HaveSame (put (0 ∷ []) (row_at s moment) (row_at s s.last ∷ [])) (row_at s moment ∷ [])
moment_put s moment = one_replaced (row_at s s.last) (row_at s moment) 1 refl refl

-- where nothing is put, the tables stay
pub nothing_made : (s : ClubState) → Makes s s None
nothing_made s = record {
  fits = tt;
  rows =
      same_itself _ & same_itself _ & same_itself _ & same_itself _ & same_itself _ & same_itself _
      & same_itself _ & same_itself _ & same_itself _ & same_itself _ & same_itself _ & same_itself _ & tt;
}

accepted_alike : {S : Type 0} (o : Outcome S) → is_accepted (answered o) ≡ is_accepted o
accepted_alike (accepted new reply) = refl
accepted_alike (repeated reply) = refl
accepted_alike (refused refusal) = refl

-- where nothing was accepted, nothing is put
pub none_decided : (s : ClubState) (after : Outcome ClubState) (d : CommandEffect) (o : given.Outcome) → d.outcome ≡ o
    → d.changes ≡ None → outcome_of o ≡ answered after → is_accepted (outcome_of o) ≡ false → IsDecided s after d
none_decided s after d o is none answer not_accepted =
    let stays = unmoved s after (sym (accepted_alike after) ∙ (ap is_accepted (sym answer) ∙ not_accepted)) in
    record {
      answer = ap outcome_of is ∙ answer;
      makes = subst (λ n. Makes s n d.changes) (sym stays) (subst (Makes s s) (sym none) (nothing_made s));
    }

-- where a command is accepted, the rows that are put make the tables of the state after it
pub all_decided : (s : ClubState) (after : Outcome ClubState) (new : ClubState) (o : given.Outcome) (c : Changes)
    (moment : ℕ) (rows : PutRows) → outcome_of o ≡ answered after → state_after s after ≡ new → Puts c moment rows
    → AreTaken s rows → AreSame (with_rows (version_of s) moment rows (tables s)) (tables new)
    → IsDecided s after (record { outcome = o; changes = Some c })
all_decided s after new o c moment rows answer stands are taken same = record {
  answer = answer;
  makes = subst (λ n. Makes s n (Some c)) (sym stands) (all_changed s new c moment rows are taken same);
}

module _ {T : Type 0} (s : ClubState) (f : T → ClubState) where
  pub answered_mapped : (o : Outcome T) → answered (map_outcome f o) ≡ answered o
  answered_mapped (accepted t r) = refl
  answered_mapped (repeated r) = refl
  answered_mapped (refused refusal) = refl

  pub answered_officer : (who : Caller) (o : Outcome T)
      → answered (by_officer who (map_outcome f o)) ≡ answered (by_officer who o)
  answered_officer Officer o = answered_mapped o
  answered_officer (Member id) o = refl

  -- what was accepted stands
  officer_added : (who : Caller) (same : Option Reply) (refusal : Option Refusal) (t : T) (r : Reply)
      → is_accepted (answered (by_officer who (unless_repeat same (unless refusal (accepted t r))))) ≡ true
      → state_after s (by_officer who (map_outcome f (unless_repeat same (unless refusal (accepted t r))))) ≡ f t
  officer_added Officer None None t r is = refl
  officer_added _ _ _ t r is = absurd (true≢false (sym is))

  pub officer_stands : (who : Caller) (o : Outcome T) (t : T) (reply : Reply) → accepted t reply ≡ by_officer who o
      → state_after s (by_officer who (map_outcome f o)) ≡ f t
  officer_stands (Member id) o t reply is = cc
  officer_stands Officer (accepted u r) t reply is = let e : u ≡ t = cc in ap f e
  officer_stands Officer (repeated r) t reply is = cc
  officer_stands Officer (refused refusal) t reply is = cc

  -- where the officer's command is not accepted, nothing is put
  pub officer_none : (who : Caller) (step : Outcome T) (d : CommandEffect) (o : given.Outcome) → d.outcome ≡ o
      → d.changes ≡ None → outcome_of o ≡ answered (by_officer who step) → is_accepted (outcome_of o) ≡ false
      → IsDecided s (by_officer who (map_outcome f step)) d
  officer_none who step d o is none answer not_accepted =
      none_decided s (by_officer who (map_outcome f step)) d o is none (answer ∙ sym (answered_officer who step))
      not_accepted

-- ---- members, events and games that are added

pub member_decided : (s : ClubState) (moment : ℕ) (who : Caller) (name key : List ℕ) (o : given.Outcome) (c : Changes)
    → outcome_of o ≡ answered (by_officer who (member_step s.members name key)) → is_accepted (outcome_of o) ≡ true
    → Puts c moment
    (record no_rows {
      members = member_row (1 + length s.members) (record { name = name; key = key; later = [] }) ∷ [];
    })
    → IsDecided s (caller_step s moment who (add_member name key)) (record { outcome = o; changes = Some c })
member_decided s moment who name key o c answer is_in are =
    let m : core_members.Member = record { name = name; key = key; later = [] } in
    let f = with_members s moment in
    all_decided s (caller_step s moment who (add_member name key)) (f (s.members ++ m ∷ [])) o c moment _
    (answer ∙ sym (answered_officer s f who (member_step s.members name key)))
    (officer_added s f who (same_member s.members name key) (member_refusal s.members name key) (s.members ++ m ∷ [])
    (member_added (length s.members + 1)) (ap is_accepted (sym answer) ∙ is_in))
    are (inr (refl, refl, refl))
    (moment_put s moment
    & row_added member_row (λ id x. refl) s.members m
    & same_itself _ & same_itself _ & same_itself _ & same_itself _ & same_itself _ & same_itself _
    & same_itself _
    & nothing_added rows_of_keys s.members m (λ id. refl)
    & same_itself _ & same_itself _ & tt)

pub event_decided : (s : ClubState) (moment : ℕ) (who : Caller) (e : Event) (o : given.Outcome) (c : Changes) → IsClub s
    → outcome_of o ≡ answered (by_officer who (event_step s.events e)) → is_accepted (outcome_of o) ≡ true
    → Puts c moment
    (record no_rows {
      events = event_row (1 + length s.events) e ∷ [];
      rules = rule_row (1 + length s.events) (declaring e) ∷ [];
    })
    → IsDecided s (caller_step s moment who (add_event e)) (record { outcome = o; changes = Some c })
event_decided s moment who e o c club answer is_in are =
    let f = with_events s moment in
    let new = declaring e in
    all_decided s (caller_step s moment who (add_event e)) (f (s.events ++ new ∷ [])) o c moment _
    (answer ∙ sym (answered_officer s f who (event_step s.events e)))
    (officer_added s f who (same_event s.events e) (event_refusal s.events e) (s.events ++ new ∷ [])
    (event_added (length s.events + 1)) (ap is_accepted (sym answer) ∙ is_in))
    are (inr (refl, refl, refl))
    (moment_put s moment
    & same_itself _
    & row_added event_row (λ id x. refl) s.events new
    & same_itself _
    & same_by _ _
    (gathered_alike (rows_of_moves both_games s.events) (rows_of_moves both_games (s.events ++ new ∷ [])) 1 s.games
    (λ n g at id. (rows_before both_games s new g (club.games n g at) id).1))
    & same_by _ _
    (numbered_alike (row_of_game both_games s.events) (row_of_game both_games (s.events ++ new ∷ [])) 1 s.games
    (λ n g at id. (rows_before both_games s new g (club.games n g at) id).0))
    & same_itself _ & same_itself _
    & row_added rule_row (λ id x. refl) s.events new
    & same_itself _ & same_itself _
    & nothing_added rows_of_closing s.events new (λ id. refl) & tt)

-- ---- what an accepted command meets

unrefused_by : {T : Type 0} (who : Caller) (again : Option Reply) (refusal : Option Refusal) (o : Outcome T)
    → is_accepted (answered (by_officer who (unless_repeat again (unless refusal o)))) ≡ true → refusal ≡ None
unrefused_by Officer None None o is = refl
unrefused_by _ _ _ o is = absurd (true≢false (sym is))

-- the seconds of an event that is added keep their limits
pub event_limits : (who : Caller) (events : List Event) (e : Event) (o : given.Outcome)
    → outcome_of o ≡ answered (by_officer who (event_step events e)) → is_accepted (outcome_of o) ≡ true
    → (is_budget e.terms.budget ≡ true) × (is_increment e.terms.increment ≡ true)
event_limits who events e o answer is_in =
    let none = unrefused_by who (same_event events e) (event_refusal events e)
    (accepted (events ++ declaring e ∷ []) (event_added (length events + 1))) (ap is_accepted (sym answer) ∙ is_in) in
    let fails = none-holds (event_tests events e) none in
    let good = three-true (is_name e.name) (is_budget e.terms.budget) (is_increment e.terms.increment)
    (not-false (has_good_values e) fails.1.0) in
    (good.1, good.2)

pub unrefused : {T : Type 0} (again : Option Reply) (refusal : Option Refusal) (o : Outcome T) (t : T) (r : Reply)
    → accepted t r ≡ unless_repeat again (unless refusal o) → (refusal ≡ None) × (accepted t r ≡ o)
unrefused None None o t r is = (refl, is)
unrefused _ _ o t r is = cc

pair_id : (event : ℕ) (first second : Option ℕ) (games : ℕ) (p : Pairing) (id : ℕ)
    → accepted p (game_seated id) ≡ pair event first second games → id ≡ games + 1
pair_id event None second games p id is = cc
pair_id event (Some one) None games p id is = cc
pair_id event (Some one) (Some other) games p id is = cc

officer_id : (who : Caller) (event first second : Option ℕ) (under : Option KeyedGame) (games : ℕ) (key : List ℕ)
    (p : Pairing) (id : ℕ) → accepted p (game_seated id) ≡ by_officer who
    (seat_found event first second under games key) → id ≡ games + 1
officer_id (Member m) event first second under games key p id is = cc
officer_id Officer None first second under games key p id is = cc
officer_id Officer (Some event) first second under games key p id is =
    pair_id event first second games p id
    (unrefused (same_seats event first second under) (seat_refusal under games key first second)
    (pair event first second games) p (game_seated id) is).1

-- a seating by what the rows tell is that of the state
pub seat_same : (seating : Outcome Pairing) (who : Caller) (key event first second : List ℕ)
    (members ms : List core_members.Member) (events es : List Event) (under u : Option KeyedGame) (games n : ℕ)
    → seating ≡ by_officer who (seat_step members events under games key event first second)
    → members ≡ ms → events ≡ es → under ≡ u → games ≡ n
    → seating ≡ by_officer who (seat_step ms es u n key event first second)
seat_same seating who key event first second members ms events es under u games n is m e k c =
    is ∙ (λ i. by_officer who (seat_step (m i) (e i) (k i) (c i) key event first second))

pub seat_decided : (s : ClubState) (moment : ℕ) (who : Caller) (key event first second : List ℕ) (p : Pairing) (id : ℕ)
    (c : Changes) → IsClub s → accepted p (game_seated id) ≡ by_officer who
    (seat_step s.members s.events (game_under s.games key) (length s.games) key event first second)
    → Puts c moment
    (record no_rows {
      games = started s.events id (Some key) p moment ∷ [];
      seen = started_seen s.events id (Some key) p moment;
    }) → started_scores s.events (Some key) p moment ≡ []
    → IsDecided s (caller_step s moment who (seat key event first second))
    (record { outcome = given_is.Accepted (answer_is.Game id); changes = Some c })
seat_decided s moment who key event first second p id c club answer are running =
    let f = with_new_game s moment key in
    let step = seat_step s.members s.events (game_under s.games key) (length s.games) key event first second in
    let next : id ≡ length s.games + 1 = officer_id who (find_id (has_event_name event) s.events)
    (find_id (has_member_name first) s.members) (find_id (has_member_name second) s.members)
    (game_under s.games key) (length s.games) key p id answer in
    let same_id : id ≡ 1 + length s.games = omega (arith, next) in
    let new : ClubGame = seated_as (kind_at (place s.events p.event)) (Some key) p moment in
    all_decided s (caller_step s moment who (seat key event first second)) (f p) (given_is.Accepted (answer_is.Game id))
    c moment _ (ap answered answer ∙ sym (answered_officer s f who step))
    (officer_stands s f who step p (game_seated id) answer)
    (rw same_id at are) (inr (refl, refl, refl))
    (moment_put s moment
    & same_itself _ & same_itself _ & same_itself _
    & nothing_added (rows_of_moves both_games s.events) s.games new
    (no_moves both_games s.events (kind_at (place s.events p.event)) (Some key) p moment)
    & row_added (row_of_game both_games s.events) (first_of_game both_games s.events) s.games new
    & altered (0 ∷ 1 ∷ []) _ _ _ (seen-added both_games s.games new)
    & same_by _ _ (sym (scores_seated both_games s.games new running))
    & same_itself _ & same_itself _
    & nothing_added rows_of_rulings s.games new
    (no_rulings both_games (kind_at (place s.events p.event)) (Some key) p moment)
    & same_itself _ & tt)

-- ---- who asks

pub caller_decided : (s : ClubState) (moment effective : ℕ) (who : given_who.Who) (caller : Caller)
    (command : given_command.Command) (d : CommandEffect) → effective ≡ max moment s.last
    → Some caller ≡ caller_of s.members (who_of who)
    → IsDecided s (caller_step s effective caller (command_of command)) d
    → IsDecided s (club_step s (request who command moment)) d
caller_decided s moment effective who caller command d moment_is caller_is decided =
    rw (← caller_is, ← moment_is) decided

pub nobody_decided : (s : ClubState) (moment : ℕ) (who : given_who.Who) (command : given_command.Command) (d : CommandEffect)
    → None ≡ caller_of s.members (who_of who) → d.outcome ≡ given_is.Refused UnknownKey → d.changes ≡ None
    → IsDecided s (club_step s (request who command moment)) d
nobody_decided s moment who command d nobody is none =
    none_decided s (club_step s (request who command moment)) d (given_is.Refused UnknownKey) is none
    (ap (λ o. answered (step_by both_games s (max moment s.last) o (command_of command))) nobody) refl
