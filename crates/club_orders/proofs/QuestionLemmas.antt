-- What is reported of a question that was answered, or not.
use Rattle.std.proofs.Common.{◌≡◌, ◌⊎◌, inl, inr, ℕ, List, Option, Some, None, Result, Ok, Err, refl, ℤ, pos, false}
use Rattle.std.proofs.Common.{ap, sym, subst, ◌∙◌, true≢false}
use Rattle.std.specs.Prelude.{IfOk, IfErr}
use Rattle.club_requests.specs.declared.refusals.Refusal.{Refusal}
use Rattle.club_requests.specs.declared.questions.Question.{Question}
use Rattle.club_answers.specs.AnswerTexts.{HasWrittenAnswer, HasShownSome}
use Rattle.club_rows.specs.Club.{ClubState}
use Rattle.store.specs.declared.fault.AskFault.{AskFault}
use Rattle.store.specs.declared.fault.AskFault.TheVariants as ask_fault
use Rattle.store.specs.declared.fault.StoreFault.TheVariants as store_fault
use Rattle.club_orders.specs.Recorded.{IsUnrecorded, can_ask}
use Rattle.club_orders.specs.Report.{AnswersQuery, Shows}
use Rattle.club_orders.specs.internal.Report.{ask_report}
use Rattle.club_orders.proofs.RecordedLemmas.{recorded_by}

-- the fault of a query on a club that was open
abbrev pub IsOfAsking : AskFault → Type 0
IsOfAsking fault = (fault ≡ ask_fault.Output) ⊎ ((fault ≡ ask_fault.Club (store_fault.Schema (pos 2)))
    ⊎ ((fault ≡ ask_fault.Club store_fault.Store) ⊎ (fault ≡ ask_fault.Club store_fault.Memory)))

not_reopen : IsOfAsking (ask_fault.Club store_fault.Reopen) → ⊥
not_reopen (inl e) = cc
not_reopen (inr (inl e)) = cc
not_reopen (inr (inr (inl e))) = cc
not_reopen (inr (inr (inr e))) = cc

schema_two : (number : ℤ) → IsOfAsking (ask_fault.Club (store_fault.Schema number))
    → ask_fault.Club (store_fault.Schema number) ≡ ask_fault.Club (store_fault.Schema (pos 2))
schema_two number (inl e) = absurd (let x = e in cc)
schema_two number (inr (inl e)) = e
schema_two number (inr (inr (inl e))) = absurd (let x = e in cc)
schema_two number (inr (inr (inr e))) = absurd (let x = e in cc)

shows : (s : ClubState) (moment : ℕ) (question : Question) (before now : Option (List ℕ))
    (answered : Result (Option Refusal) AskFault)
    → IfOk answered (λ refusal. HasWrittenAnswer s moment question refusal before now)
    → HasShownSome s moment question before now → IfErr answered IsOfAsking
    → (answered ≡ Err (ask_fault.Club (store_fault.Schema (pos 2))) → ⊥)
    → Shows s moment question before now (ask_report answered)
shows s moment question before now (Ok None) shown some fault other = shown
shows s moment question before now (Ok (Some refusal)) shown some fault other = shown
shows s moment question before now (Err ask_fault.Output) shown some fault other = some
shows s moment question before now (Err (ask_fault.Club store_fault.Store)) shown some fault other = (inl refl, some)
shows s moment question before now (Err (ask_fault.Club store_fault.Memory)) shown some fault other = (inr refl, some)
shows s moment question before now (Err (ask_fault.Club store_fault.Reopen)) shown some fault other =
    absurd (not_reopen fault)
shows s moment question before now (Err (ask_fault.Club (store_fault.Schema number))) shown some fault other =
    absurd (other (ap Err (schema_two number fault)))

-- a query that the club can answer is answered, and any other is told so
pub answers : (s : ClubState) (moment : ℕ) (question : Question) (before now : Option (List ℕ))
    (answered : Result (Option Refusal) AskFault)
    → IfOk answered (λ refusal. HasWrittenAnswer s moment question refusal before now)
    → HasShownSome s moment question before now → IfErr answered IsOfAsking
    → (can_ask s question ≡ false → (answered ≡ Err (ask_fault.Club (store_fault.Schema (pos 2)))) × (now ≡ before))
    → (answered ≡ Err (ask_fault.Club (store_fault.Schema (pos 2))) → can_ask s question ≡ false)
    → AnswersQuery s moment question before now (ask_report answered)
answers s moment question before now answered shown some fault withheld only = (
  recorded_by (can_ask s question) (ask_report answered)
      (λ can. shows s moment question before now answered shown some fault (λ is. true≢false (sym can ∙ only is)))
      (λ none. subst (λ a. IsUnrecorded (ask_report a)) (sym (withheld none).0) refl),
  λ none. (withheld none).1,
)
