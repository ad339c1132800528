use Rattle.std.proofs.Common.{◌≡◌, ◌+◌, suc, ◌∷◌, drop, inl, inr, true, refl, sym, subst, ◌∙◌, arith}
use Rattle.std.proofs.lemmas.List.Folds.{list_any_at}
use Rattle.std.proofs.Math.Seq.{drop-cons}
use Rattle.sqlite.specs.State.{HasCleanDisk}
use Rattle.sqlite.specs.Held.{state}
use Rattle.store_tables.proofs.Proved.{read_then}
use Rattle.club_requests.specs.Questions.{is_arbiters}
use Rattle.club_orders.specs.Batches.{IsAsked}
use Rattle.club_orders.proofs.GivingLemmas.{asked_last, asked_more}
use Rattle.club_orders.proofs.TakenLemmas.{still_asked}
use Rattle.club_orders.proofs.batch.refusal_among.Goals as goal

pub returns-in-Ok-Some-clause-asked : goal.returns-in-Ok-Some-clause-asked
returns-in-Ok-Some-clause-asked g c clean s asks =
    let before : HasCleanDisk (state g.S.Store c.loop-question.club.connection) =
    omega (arith, c.refusal_of.ensures.reads.clean, clean) in
    let questions = c.args.questions.now in
    let k = c.loop-question.question-index in
    let question = c.question-item.result in
    let next : suc k ≡ k + 1 = omega arith in
    asked_last s c.args.moment questions (drop k questions) (drop (k + 1) questions) question c.in-Ok-Some.refusal
    (drop-cons questions k question c.loop-question-test.true
    ∙ (λ i. sym c.question-item.is i ∷ drop (next i) questions))
    (subst (λ r. IsAsked s c.args.moment question r) c.in-Ok-Some.field-0-is
    (c.in-Ok-Some.ensures.asked clean s
    (still_asked c.loop-question.invariant.schema _ _ (c.loop-question.invariant.reads.kept refl before) asks)))
    (c.loop-question.invariant.asked before s asks)

pub loop-question-preserved : goal.loop-question-preserved
loop-question-preserved g c =
    let before : HasCleanDisk (state g.S.Store c.refusal_of.new.club.connection)
    → HasCleanDisk (state g.S.Store c.loop-question.club.connection) =
    λ clean. omega (arith, c.refusal_of.ensures.reads.clean, clean) in
    let questions = c.args.questions.now in
    let k = c.loop-question.question-index in
    let question = c.question-item.result in
    let next : suc k ≡ k + 1 = omega arith in
    record {
      ready = c.in-Ok-None.ensures.ready;
      schema = c.refusal_of.ensures.same_schema ∙ c.loop-question.invariant.schema;
      reads = read_then _ _ _ _ c.loop-question.invariant.reads c.in-Ok-None.ensures.reads;
      asked = λ clean s asks.
          asked_more s c.args.moment questions (drop k questions) (drop (k + 1) questions) question
          (drop-cons questions k question c.loop-question-test.true
          ∙ (λ i. sym c.question-item.is i ∷ drop (next i) questions))
          (subst (λ r. IsAsked s c.args.moment question r) c.in-Ok-None.field-0-is
          (c.in-Ok-None.ensures.asked clean s
          (still_asked c.loop-question.invariant.schema _ _ (c.loop-question.invariant.reads.kept refl (before clean)) asks)))
          (c.loop-question.invariant.asked (before clean) s asks);
    }

pub returns-in-Ok-Some-clause-reads : goal.returns-in-Ok-Some-clause-reads
returns-in-Ok-Some-clause-reads g c =
    read_then _ _ _ _ c.loop-question.invariant.reads c.in-Ok-Some.ensures.reads

pub returns-in-Err-clause-possible_faults : goal.returns-in-Err-clause-possible_faults
returns-in-Err-clause-possible_faults g c =
    let questions = c.args.questions.now in
    let k = c.loop-question.question-index in
    let question = c.question-item.result in
    elim c.in-Err.ensures.possible_faults [
      | inl store ↦ inl store
      | inr (inl memory) ↦ inr (inl memory)
      | inr (inr (schema, needs, none)) ↦ inr (inr (
        schema,
        list_any_at is_arbiters questions k question c.loop-question-test.true
            (subst (λ q. is_arbiters q ≡ true) c.question-item.is needs),
        sym c.loop-question.invariant.schema ∙ none,
      ))
    ]
