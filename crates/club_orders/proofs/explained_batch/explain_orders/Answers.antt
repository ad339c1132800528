use Rattle.std.proofs.Common.{◌≡◌, ◌<◌, ◌+◌, suc, ◌∷◌, drop, length, sym, ◌∙◌, arith}
use Rattle.std.proofs.lemmas.Bool.{ltb-true}
use Rattle.std.proofs.Math.Seq.{drop-cons}
use Rattle.club_orders.proofs.PrintedLemmas.{up_to_next, up_to_part}
use Rattle.club_orders.proofs.ExplainedBatchLemmas.{explained_at}
use Rattle.club_orders.proofs.explained_batch.explain_orders.Goals as goal

pub returns-in-Err : goal.returns-in-Err
returns-in-Err g c =
    let numbers = c.args.numbers.now in
    let requests = c.args.requests.now in
    let outcomes = c.args.outcomes.now in
    let k = c.loop-place.place in
    let next : suc k ≡ k + 1 = omega arith in
    let within : k < length numbers = ltb-true k (length numbers) (sym c.in-Some.ensures.lookup.0) in
    let asked : k < length requests = ltb-true k (length requests) (sym c.in-Some-get.ensures.lookup.0) in
    up_to_part _ _ _ _ c.loop-place.invariant _ _ _
    (explained_at numbers (drop (k + 1) numbers) requests (drop (k + 1) requests) outcomes (drop (k + 1) outcomes) k
    c.in-Some.number.now c.in-Some-get.request.now c.index-outcomes-place.result
    (drop-cons numbers k _ within ∙ (λ i. sym c.in-Some.ensures.lookup.1 i ∷ drop (next i) numbers))
    (drop-cons requests k _ asked ∙ (λ i. sym c.in-Some-get.ensures.lookup.1 i ∷ drop (next i) requests))
    (drop-cons outcomes k c.index-outcomes-place.result c.loop-place-test.true
    ∙ (λ i. sym c.index-outcomes-place.is i ∷ drop (next i) outcomes)))
    c.in-Err.ensures.begun

pub loop-place-preserved : goal.loop-place-preserved
loop-place-preserved g c =
    let numbers = c.args.numbers.now in
    let requests = c.args.requests.now in
    let outcomes = c.args.outcomes.now in
    let k = c.loop-place.place in
    let next : suc k ≡ k + 1 = omega arith in
    let within : k < length numbers = ltb-true k (length numbers) (sym c.in-Some.ensures.lookup.0) in
    let asked : k < length requests = ltb-true k (length requests) (sym c.in-Some-get.ensures.lookup.0) in
    up_to_next _ _ _ _ c.loop-place.invariant _ _ _
    (explained_at numbers (drop (k + 1) numbers) requests (drop (k + 1) requests) outcomes (drop (k + 1) outcomes) k
    c.in-Some.number.now c.in-Some-get.request.now c.index-outcomes-place.result
    (drop-cons numbers k _ within ∙ (λ i. sym c.in-Some.ensures.lookup.1 i ∷ drop (next i) numbers))
    (drop-cons requests k _ asked ∙ (λ i. sym c.in-Some-get.ensures.lookup.1 i ∷ drop (next i) requests))
    (drop-cons outcomes k c.index-outcomes-place.result c.loop-place-test.true
    ∙ (λ i. sym c.index-outcomes-place.is i ∷ drop (next i) outcomes)))
    c.in-Ok.ensures.whole
