-- The explanations of a batch, one after another.
use Rattle.std.proofs.Common.{◌≡◌, ℕ, List, ◌∷◌, ◌++◌, Bool, true, Option, ap, drop, subst}
use Rattle.club_requests.specs.declared.answers.Outcome.{Outcome}
use Rattle.club_requests.specs.declared.requests.Request.{Request}
use Rattle.club_orders.specs.declared.batched.BatchResults.{BatchResults}
use Rattle.club_orders.specs.Batches.{IsBatchTold, IsBegunWith}
use Rattle.club_orders.specs.Explained.{batch_explained, end_explained, order_explained, orders_explained, IsBatchFaultExplained}

-- what is left of the explanations at a place
pub explained_at : (numbers more_numbers : List ℕ) (requests more_requests : List Request)
    (outcomes more : List Outcome) (k number : ℕ) (request : Request) (outcome : Outcome)
    → drop k numbers ≡ number ∷ more_numbers → drop k requests ≡ request ∷ more_requests
    → drop k outcomes ≡ outcome ∷ more
    → orders_explained (drop k numbers) (drop k requests) (drop k outcomes)
    ≡ order_explained number request.command outcome ++ orders_explained more_numbers more_requests more
explained_at numbers more_numbers requests more_requests outcomes more k number request outcome at_number at_request at_outcome =
    λ i. orders_explained (at_number i) (at_request i) (at_outcome i)

-- with status 3 the explanations stand behind what is told of the batch
pub batch_fault_explained : (explains : Bool) (requests : List Request) (batched : BatchResults)
    (out out_now err told now : Option (List ℕ)) (status : ℕ) → status ≡ 3
    → IsBatchTold batched out out_now err told
    → IsBegunWith told now (batch_explained explains status requests batched)
    → IsBatchFaultExplained explains requests batched out out_now err now
batch_fault_explained explains requests batched out out_now err told now status is said explained = record {
  told_up_to = told;
  told = said;
  explained = subst (λ s. IsBegunWith told now (batch_explained explains s requests batched)) is explained;
}

-- the explanations that are requested
pub explained_if : (explains : Bool) (status : ℕ) (requests : List Request) (batched : BatchResults) → explains ≡ true
    → batch_explained explains status requests batched
    ≡ end_explained status batched.fault ++ orders_explained batched.numbers.items requests batched.outcomes.items
explained_if explains status requests batched is = ap (λ e. batch_explained e status requests batched) is
