use Rattle.std.proofs.Common.{◌≡◌, ◌⊎◌, ◌+◌, ◌∷◌, [], ◌++◌, length, ◌∙◌, refl, subst, sym, ap, arith, true, true≢false}
use Rattle.std.proofs.Common.{inl, inr}
use Rattle.std.specs.List.{list_any}
use Rattle.club_requests.specs.Questions.{is_arbiters}
use Rattle.sqlite.specs.State.{HasCleanDisk}
use Rattle.sqlite.specs.Held.{state}
use Rattle.std.specs.Prelude.{IsSome}
use Rattle.store_tables.proofs.Proved.{leaves_beside}
use Rattle.club_rows.specs.Club.{tables}
use Rattle.store.specs.Clubs.{version_with}
use Rattle.store.specs.Histories.{IsAfter, IsHistory, IsReachable, session_of}
use Rattle.store.proofs.Proved.{asks_served, still_stands}
use Rattle.club_orders.specs.Batches.{AreAsked}
use Rattle.club_orders.specs.Recorded.{needs_any, takes_all}
use Rattle.club_orders.proofs.GivingLemmas.{given_of, run_fault}
use Rattle.club_orders.proofs.RecordedLemmas.{is_taken, recorded_by, taken_alike}
use Rattle.club_orders.proofs.SessionLemmas.{led_still, left_led}
use Rattle.club_orders.proofs.TakenLemmas.{still_served}
use Rattle.club_orders.proofs.batch.BatchExecute.execute.Goals as goal
use Rattle.club_orders.proofs.batch.BatchExecute.execute.Goals.{else-not-has_arbiter-via-then-not-has_arbiter+else-needs_any}
use Rattle.club_orders.proofs.batch.BatchExecute.execute.Goals.{else-not-has_arbiter-via-else-not-has_arbiter}

pub returns-clause-answer : goal.returns-clause-answer
returns-clause-answer g c clean them s k =
    let before : HasCleanDisk (state g.S.Store c.refusal_among.new.club.connection) =
    omega (arith, c.session-outcomes.ensures.clean, clean) in
    let requests = c.args.self.now.requests.items in
    let took : takes_all s requests ≡ true =
    is_taken (needs_any requests) s.has_arbiter
    (λ none needs.
    elim c.else-not-has_arbiter.branch [
      | else-not-has_arbiter-via-then-not-has_arbiter+else-needs_any w ↦
          true≢false
          (sym needs ∙ (ap needs_any (sym w.as_slice.ensures.value) ∙ (sym w.needs_any.ensures ∙ w.if-needs_any.false)))
      | else-not-has_arbiter-via-else-not-has_arbiter w ↦
          true≢false (sym w.if-not-has_arbiter.false ∙ (c.has_arbiter.ensures ∙ (k.arbiter ∙ none)))
    ]) in
    let now = still_served c.refusal_among.ensures.same_schema _ _ (c.in-Ok-None.ensures.reads.kept refl before) k in
    let asked = c.in-Ok-None.ensures.asked before s (asks_served k) in
    recorded_by (takes_all s requests) _
    (λ taken. (
      subst (λ r. AreAsked s c.args.moment c.args.self.now.questions.items r) c.in-Ok-None.field-0-is
          (subst (λ qs. AreAsked s c.args.moment qs c.in-Ok-None.field-0) c.as_slice-3.ensures.value asked),
      given_of s c.args.self.now
          (record {
            numbers = c.in-Ok.numbers;
            outcomes = c.session-outcomes.result.outcomes;
            fault = c.session-outcomes.result.fault;
          })
          c.as_slice-4.result.now c.as_slice-4.ensures.value
          (c.in-Ok.ensures.items ∙ c.as_slice-2.ensures.value) c.session-outcomes.ensures.within
          (c.session-outcomes.ensures.outcomes clean them s now) c.session-outcomes.ensures.whole
          (run_fault c.session-outcomes.result.fault
          (c.session-outcomes.ensures.possible_faults c.in-Ok-None.ensures.ready)
          (λ is.
          let (none, needs) = c.session-outcomes.ensures.other_schema c.in-Ok-None.ensures.ready is in
          taken_alike (needs_any requests) s.has_arbiter took
          (ap needs_any (sym c.as_slice-4.ensures.value) ∙ needs)
          (sym k.arbiter ∙ (sym c.refusal_among.ensures.same_schema ∙ none)))),
    ))
    (λ left. absurd (true≢false (sym took ∙ left)))

pub returns-clause-history : goal.returns-clause-history
returns-clause-history g c clean from them sessions at db left =
    let before : HasCleanDisk (state g.S.Store c.refusal_among.new.club.connection) =
    omega (arith, c.session-outcomes.ensures.clean, clean) in
    let version = version_with c.args.club.now.has_arbiter in
    let now = still_stands from version them sessions _ _ (c.in-Ok-None.ensures.reads.kept refl before) at in
    let same = ap version_with c.refusal_among.ensures.same_schema in
    let here = state g.S.Store c.refusal_among.new.club.connection in
    let run = c.session-outcomes.result in
    let all = sessions ++ session_of c.as_slice-4.result.now run ∷ [] in
    subst (λ rs. IsReachable from version them (sessions ++ session_of rs run ∷ []) db) c.as_slice-4.ensures.value
    (subst (λ v. IsReachable from v them all db) same
    (c.session-outcomes.ensures.history clean c.in-Ok-None.ensures.ready from them sessions
    (subst (λ v. IsHistory from v them sessions here) (sym same) now) db left))

pub returns-clause-next_state : goal.returns-clause-next_state
returns-clause-next_state g c clean them s k db left =
    let before : HasCleanDisk (state g.S.Store c.refusal_among.new.club.connection) =
    omega (arith, c.session-outcomes.ensures.clean, clean) in
    let now = still_served c.refusal_among.ensures.same_schema _ _ (c.in-Ok-None.ensures.reads.kept refl before) k in
    let batched = c.session-outcomes.result in
    subst (λ rs. IsAfter them s rs (length batched.outcomes.items) db
    ⊎ (IsSome batched.fault × IsAfter them s rs (length batched.outcomes.items + 1) db))
    c.as_slice-4.ensures.value
    (c.session-outcomes.ensures.left clean c.in-Ok-None.ensures.ready them s now db left)

pub returns-in-Ok-Some-clause-answer : goal.returns-in-Ok-Some-clause-answer
returns-in-Ok-Some-clause-answer g c clean them s k =
    let requests = c.args.self.now.requests.items in
    let asked = c.in-Ok-Some.ensures.asked clean s (asks_served k) in
    let took : takes_all s requests ≡ true =
    is_taken (needs_any requests) s.has_arbiter
    (λ none needs.
    elim c.else-not-has_arbiter.branch [
      | else-not-has_arbiter-via-then-not-has_arbiter+else-needs_any w ↦
          true≢false
          (sym needs ∙ (ap needs_any (sym w.as_slice.ensures.value) ∙ (sym w.needs_any.ensures ∙ w.if-needs_any.false)))
      | else-not-has_arbiter-via-else-not-has_arbiter w ↦
          true≢false (sym w.if-not-has_arbiter.false ∙ (c.has_arbiter.ensures ∙ (k.arbiter ∙ none)))
    ]) in
    recorded_by (takes_all s requests) _
    (λ taken.
    subst (λ r. AreAsked s c.args.moment c.args.self.now.questions.items r) c.in-Ok-Some.field-0-is
    (subst (λ qs. AreAsked s c.args.moment qs c.in-Ok-Some.field-0) c.as_slice-3.ensures.value asked))
    (λ left. absurd (true≢false (sym took ∙ left)))

-- a refused or failed query adds no session
pub returns-in-Ok-Some-clause-history : goal.returns-in-Ok-Some-clause-history
returns-in-Ok-Some-clause-history g c clean from them sessions at db left =
    let version = version_with c.args.club.now.has_arbiter in
    led_still from version them sessions db
    (left_led from version them sessions _ at db (c.in-Ok-Some.ensures.reads.may clean db left))

pub returns-in-Err-refusal_among-clause-history : goal.returns-in-Err-refusal_among-clause-history
returns-in-Err-refusal_among-clause-history g c clean from them sessions at db left =
    let version = version_with c.args.club.now.has_arbiter in
    led_still from version them sessions db
    (left_led from version them sessions _ at db (c.in-Err-refusal_among.ensures.reads.may clean db left))

pub returns-in-Ok-Some-clause-next_state : goal.returns-in-Ok-Some-clause-next_state
returns-in-Ok-Some-clause-next_state g c clean them s k db left =
    leaves_beside them (tables s) _ k.holds db (c.in-Ok-Some.ensures.reads.may clean db left)

pub returns-in-Err-refusal_among-clause-next_state : goal.returns-in-Err-refusal_among-clause-next_state
returns-in-Err-refusal_among-clause-next_state g c clean them s k db left =
    leaves_beside them (tables s) _ k.holds db (c.in-Err-refusal_among.ensures.reads.may clean db left)

pub returns-in-Err-refusal_among-clause-answer : goal.returns-in-Err-refusal_among-clause-answer
returns-in-Err-refusal_among-clause-answer g c clean them s k =
    let requests = c.args.self.now.requests.items in
    let took : takes_all s requests ≡ true =
    is_taken (needs_any requests) s.has_arbiter
    (λ none needs.
    elim c.else-not-has_arbiter.branch [
      | else-not-has_arbiter-via-then-not-has_arbiter+else-needs_any w ↦
          true≢false
          (sym needs ∙ (ap needs_any (sym w.as_slice.ensures.value) ∙ (sym w.needs_any.ensures ∙ w.if-needs_any.false)))
      | else-not-has_arbiter-via-else-not-has_arbiter w ↦
          true≢false (sym w.if-not-has_arbiter.false ∙ (c.has_arbiter.ensures ∙ (k.arbiter ∙ none)))
    ]) in
    recorded_by (takes_all s requests) _
    (λ taken.
    elim c.in-Err-refusal_among.ensures.possible_faults [
      | inl store ↦ inl store
      | inr (inl memory) ↦ inr (inl memory)
      | inr (inr (schema, needs, none)) ↦ inr (inr (
        schema,
        subst (λ qs. list_any is_arbiters qs ≡ true) c.as_slice-3.ensures.value needs,
        sym k.arbiter ∙ none,
      ))
    ])
    (λ left. absurd (true≢false (sym took ∙ left)))
