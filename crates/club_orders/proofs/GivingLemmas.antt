-- Questions that are asked of a club in turn, before orders are given to it.
use Rattle.std.proofs.Common.{◌≡◌, ◌⊎◌, inl, inr, ℕ, ◌≤◌, List, ◌∷◌, length, map, take, Option, Some, None, refl, sym}
use Rattle.std.proofs.Common.{ap, subst, ◌∙◌}
use Rattle.std.specs.Prelude.{IfSome, pos}
use Rattle.club_requests.specs.declared.refusals.Refusal.{Refusal}
use Rattle.club_requests.specs.declared.questions.Question.{Question}
use Rattle.club_rows.specs.Club.{ClubState}
use Rattle.store.specs.declared.fault.AskFault.TheVariants as ask_fault
use Rattle.store.specs.declared.fault.StoreFault.{StoreFault}
use Rattle.store.specs.declared.fault.StoreFault.TheVariants as store_fault
use Rattle.store.specs.Runs.{club_outcomes}
use Rattle.club_requests.specs.declared.requests.Request.{Request}
use Rattle.club_core.specs.Answer.{answered, outcome_of, request_of}
use Rattle.cli.specs.declared.batches.Batch.{Batch}
use Rattle.club_orders.specs.declared.batched.BatchResults.{BatchResults}
use Rattle.club_orders.specs.Batches.{AreAsked, AreGiven, IsAsked}

-- the fault of a query on a club that was open
pub of_ask : {A B : Type 0} (fault : StoreFault) → (ask_fault.Club fault ≡ ask_fault.Output)
    ⊎ ((ask_fault.Club fault ≡ ask_fault.Club (store_fault.Schema (pos 2)))
    ⊎ ((ask_fault.Club fault ≡ ask_fault.Club store_fault.Store)
    ⊎ (ask_fault.Club fault ≡ ask_fault.Club store_fault.Memory)))
    → (ask_fault.Club fault ≡ ask_fault.Club (store_fault.Schema (pos 2)) → A × B)
    → (fault ≡ store_fault.Store) ⊎ ((fault ≡ store_fault.Memory) ⊎ ((fault ≡ store_fault.Schema (pos 2)) × A × B))
of_ask fault (inl e) why = absurd (let x = e in cc)
of_ask fault (inr (inl e)) why = let (one, other) = why e in inr (inr (let x = e in cc, one, other))
of_ask fault (inr (inr (inl e))) why = inl (let x = e in cc)
of_ask fault (inr (inr (inr e))) why = inr (inl (let x = e in cc))

-- whatever is told of the questions that are left holds of all
abbrev pub AskedOn : ClubState → (moment : ℕ) → (all left : List Question) → Type 0
AskedOn s moment all left = (refusal : Option Refusal) → AreAsked s moment left refusal
    → AreAsked s moment all refusal

module _ (s : ClubState) (moment : ℕ) (all left next : List Question) (question : Question) where
  pub asked_more : left ≡ question ∷ next → IsAsked s moment question None → AskedOn s moment all left
      → AskedOn s moment all next
  asked_more at one on refusal rest =
      on refusal (subst (λ l. AreAsked s moment l refusal) (sym at) (inl (one, rest)))

  pub asked_last : (why : Refusal) → left ≡ question ∷ next → IsAsked s moment question (Some why)
      → AskedOn s moment all left → AreAsked s moment all (Some why)
  asked_last why at one on =
      on (Some why) (subst (λ l. AreAsked s moment l (Some why)) (sym at) (inr (why, one, refl)))

-- a run of requests that the club takes ends by no fault of the schema
pub run_fault : (fault : Option StoreFault)
    → IfSome fault (λ f. (f ≡ store_fault.Store) ⊎ ((f ≡ store_fault.Memory) ⊎ (f ≡ store_fault.Schema (pos 2))))
    → (fault ≡ Some (store_fault.Schema (pos 2)) → ⊥)
    → IfSome fault (λ f. (f ≡ store_fault.Store) ⊎ (f ≡ store_fault.Memory))
run_fault None of other = of
run_fault (Some fault) (inl is) other = inl is
run_fault (Some fault) (inr (inl is)) other = inr is
run_fault (Some fault) (inr (inr is)) other = absurd (other (ap Some is))

-- orders that were given as a run of these requests
module _ (s : ClubState) (batch : Batch) (batched : BatchResults) (requests : List Request)
    (at : requests ≡ batch.requests.items) where
  pub given_of : batched.numbers.items ≡ batch.numbers.items
      → length batched.outcomes.items ≤ length requests
      → map outcome_of batched.outcomes.items ≡ map answered
      (club_outcomes s (map request_of (take (length batched.outcomes.items) requests)))
      → (batched.fault ≡ None → length batched.outcomes.items ≡ length requests)
      → IfSome batched.fault (λ fault. (fault ≡ store_fault.Store) ⊎ (fault ≡ store_fault.Memory))
      → AreGiven s batch batched
  given_of numbers within outcomes whole fault =
      let Within : List Request → Type 0 = λ rs. length batched.outcomes.items ≤ length rs in
      record {
        numbers = numbers;
        within = subst Within at within;
        outcomes = outcomes
            ∙ ap (λ rs. map answered (club_outcomes s (map request_of (take (length batched.outcomes.items) rs)))) at;
        whole = λ none. whole none ∙ ap length at;
        fault = fault;
      }
