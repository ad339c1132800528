use Rattle.std.proofs.Common.{rules, arith, length, map, ap, inl, inr, ◌+◌, ◌∙◌, refl, subst, sym}
use Rattle.std.proofs.lemmas.Option.{same_Some}
use Rattle.std.proofs.lemmas.List.{length_push}
use Rattle.sqlite.specs.State.{HasCleanDisk}
use Rattle.sqlite.specs.Held.{state}
use Rattle.store_tables.specs.Over.{HoldsClubAmong}
use Rattle.club_core.specs.Answer.{outcome_of, request_of}
use Rattle.club_rows.specs.Club.{ClubState, IsClub, tables}
use Rattle.club_changes.specs.Steps.{club_next}
use Rattle.store.specs.Clubs.{Kept}
use Rattle.store.specs.Runs.{club_fold}
use Rattle.store.proofs.HistoryLemmas.{asks_served}
use Rattle.store.proofs.RunLemmas.{after-by, any_at, first_of, leaves-by, served-all, served-next, served-outcomes}
use Rattle.store.proofs.RunLemmas.{same_fault, state-at, state-next}
use Rattle.store_tables.proofs.Proved.{leaves_beside}
use Rattle.store.proofs.club.Club.run.Goals as goal

pub loop-request-init : goal.loop-request-init
loop-request-init g c = (
  search rules,
  refl,
  omega arith,
  ap length c.in-Ok.ensures.items,
  λ clean them s k. record { serves = k; answers = ap (map outcome_of) c.in-Ok.ensures.items },
)

pub returns-in-Err-serve-clause-outcomes : goal.returns-in-Err-serve-clause-outcomes
returns-in-Err-serve-clause-outcomes g c clean them s k =
    served-outcomes c.args.requests.now c.loop-request.invariant.3
    (c.loop-request.invariant.4 (omega (arith, c.serve.ensures.clean, clean)) them s k)

pub returns-in-Err-serve-clause-left : goal.returns-in-Err-serve-clause-left
returns-in-Err-serve-clause-left g c clean usable them s k db left =
    let served = c.loop-request.invariant.4 (omega (arith, c.serve.ensures.clean, clean)) them s k in
    let requests = c.args.requests.now in
    let count = c.loop-request.invariant.3 in
    let fault = c.in-Err-serve.ensures.fault clean c.loop-request.invariant.0 them _ served.serves db left in
    let next = state-next s requests count c.loop-request-test.true c.request-item.is in
    elim (c.in-Err-serve.ensures.possible_faults c.loop-request.invariant.0) [
      | inl store ↦ elim fault [
        | inl kept ↦ inl (after-by (state-at s requests count) served.serves.legal kept)
        | inr later ↦ inr (
          search rules,
          after-by next
              (c.serve.ensures.legal (λ e. absurd (let x = sym store ∙ same_fault (sym c.in-Err-serve.is ∙ e) in cc))
              c.loop-request.invariant.0 _ served.serves.legal served.serves.arbiter) later,
        )
      ]
      | inr (inl memory) ↦ elim fault [
        | inl kept ↦ inl (after-by (state-at s requests count) served.serves.legal kept)
        | inr later ↦ inr (
          search rules,
          after-by next
              (c.serve.ensures.legal (λ e. absurd (let x = sym memory ∙ same_fault (sym c.in-Err-serve.is ∙ e) in cc))
              c.loop-request.invariant.0 _ served.serves.legal served.serves.arbiter) later,
        )
      ]
      | inr (inr schema) ↦
          let (none, needs, same) = c.in-Err-serve.ensures.schema schema in
          inl (after-by (state-at s requests count) served.serves.legal
          (leaves_beside them _ _ served.serves.holds db
          (subst (λ (v : Kept _). (state g.S.Store v.connection).may_leave db) same left)))
    ]

pub returns-in-Err-serve-clause-schema : goal.returns-in-Err-serve-clause-schema
returns-in-Err-serve-clause-schema g c usable is =
    let (none, needs, same) = c.in-Err-serve.ensures.schema (same_Some _ _ is) in
    (sym c.loop-request.invariant.1 ∙ none, ap (λ (v : Kept _). v.needs_reopening) same ∙ c.loop-request.invariant.0)

pub returns-in-Err-serve-clause-other_schema : goal.returns-in-Err-serve-clause-other_schema
returns-in-Err-serve-clause-other_schema g c usable is =
    let (none, needs, same) = c.in-Err-serve.ensures.schema (same_Some _ _ is) in (
      sym c.loop-request.invariant.1 ∙ none,
      any_at _ c.args.requests.now c.loop-request.request-index c.request-item.result c.loop-request-test.true
          c.request-item.is needs,
    )

pub returns-in-Err-serve-clause-goes_on : goal.returns-in-Err-serve-clause-goes_on
returns-in-Err-serve-clause-goes_on g c clean usable is them s k =
    let (none, needs, same) = c.in-Err-serve.ensures.schema (same_Some _ _ is) in
    let served = c.loop-request.invariant.4 (omega (arith, c.serve.ensures.clean, clean)) them s k in
    subst (λ (u : ClubState). HoldsClubAmong them (tables u) (state g.S.Store c.serve.new.self.connection))
    (sym (state-at s c.args.requests.now c.loop-request.invariant.3))
    (subst (λ (v : Kept _). HoldsClubAmong them
    (tables (club_fold s (first_of c.args.requests.now c.loop-request.request-index))) (state g.S.Store v.connection))
    (sym same) served.serves.holds)

pub returns-in-Err-serve-clause-legal_so_far : goal.returns-in-Err-serve-clause-legal_so_far
returns-in-Err-serve-clause-legal_so_far g c clean usable is them s k =
    let served = c.loop-request.invariant.4 (omega (arith, c.serve.ensures.clean, clean)) them s k in
    subst IsClub (sym (state-at s c.args.requests.now c.loop-request.invariant.3)) served.serves.legal

pub returns-in-Err-serve-clause-fault : goal.returns-in-Err-serve-clause-fault
returns-in-Err-serve-clause-fault g c clean failed usable them s k db left =
    leaves-by (returns-in-Err-serve-clause-left g c clean usable them s k db left)

pub loop-request-preserved : goal.loop-request-preserved
loop-request-preserved g c = (
  c.in-Ok-serve.ensures.stays_open,
  c.serve.ensures.same_schema ∙ c.loop-request.invariant.1,
  omega (arith, c.serve.ensures.clean, c.loop-request.invariant.2),
  ap length c.in-Ok-push.ensures.items ∙ (length_push _ _ ∙ ap (λ n. n + 1) c.loop-request.invariant.3),
  λ clean them s k.
      let served = c.loop-request.invariant.4 (omega (arith, c.serve.ensures.clean, clean)) them s k in
      served-next c.args.requests.now c.loop-request.request-index c.in-Ok-serve.outcome c.loop-request-test.true
      c.request-item.is c.in-Ok-push.ensures.items c.serve.ensures.same_schema served
      (c.serve.ensures.legal (λ e. absurd (let x = sym c.in-Ok-serve.is ∙ e in cc)) c.loop-request.invariant.0 _ served.serves.legal served.serves.arbiter)
      (c.in-Ok-serve.ensures.step clean them _ served.serves)
      (c.in-Ok-serve.ensures.answer clean _ (asks_served served.serves)),
)

pub returns-clause-outcomes : goal.returns-clause-outcomes
returns-clause-outcomes g c clean them s k =
    served-outcomes c.args.requests.now c.loop-request.invariant.3 (c.loop-request.invariant.4 clean them s k)

pub returns-clause-stored : goal.returns-clause-stored
returns-clause-stored g c clean none them s k =
    (served-all c.args.requests.now _ (omega (arith, c.loop-request-test.false))
    (c.loop-request.invariant.4 clean them s k)).serves.holds

pub returns-clause-legal : goal.returns-clause-legal
returns-clause-legal g c clean none them s k =
    (served-all c.args.requests.now _ (omega (arith, c.loop-request-test.false))
    (c.loop-request.invariant.4 clean them s k)).serves.legal

pub returns-clause-left : goal.returns-clause-left
returns-clause-left g c clean usable them s k db left =
    let served = c.loop-request.invariant.4 clean them s k in
    inl (after-by (state-at s c.args.requests.now c.loop-request.invariant.3) served.serves.legal
    (leaves_beside them _ _ served.serves.holds db left))

pub returns-in-Err-push-clause-outcomes : goal.returns-in-Err-push-clause-outcomes
returns-in-Err-push-clause-outcomes g c clean them s k =
    let after : HasCleanDisk (state g.S.Store c.serve.new.self.connection) = search rules in
    rw c.in-Err-push.ensures.items
    (served-outcomes c.args.requests.now c.loop-request.invariant.3
    (c.loop-request.invariant.4 (omega (arith, c.serve.ensures.clean, after)) them s k))

pub returns-in-Err-push-clause-left : goal.returns-in-Err-push-clause-left
returns-in-Err-push-clause-left g c clean usable them s k db left =
    let after : HasCleanDisk (state g.S.Store c.serve.new.self.connection) = search rules in
    let served = c.loop-request.invariant.4 (omega (arith, c.serve.ensures.clean, after)) them s k in
    let now = club_fold s (first_of c.args.requests.now c.loop-request.request-index) in
    let next = tables (club_next now (request_of c.request-item.result)) in
    let stored : HoldsClubAmong them next (state g.S.Store c.serve.new.self.connection) =
    c.in-Ok-serve.ensures.step after them now served.serves in
    let inside : HoldsClubAmong them next (state g.S.Store c.self-in-loop-request.inside.connection) = search rules in
    inr (
      search rules,
      after-by (state-next s c.args.requests.now (ap length c.in-Err-push.ensures.items ∙ c.loop-request.invariant.3)
          c.loop-request-test.true c.request-item.is)
          (c.serve.ensures.legal (λ e. absurd (let x = sym c.in-Ok-serve.is ∙ e in cc)) c.loop-request.invariant.0 now served.serves.legal served.serves.arbiter)
          (leaves_beside them next _ inside db left),
    )

pub returns-in-Err-push-clause-fault : goal.returns-in-Err-push-clause-fault
returns-in-Err-push-clause-fault g c clean failed usable them s k db left =
    leaves-by (returns-in-Err-push-clause-left g c clean usable them s k db left)
