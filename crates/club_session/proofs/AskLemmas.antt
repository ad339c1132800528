-- What a question is shown, and what is left where it was not shown to its end.
use Rattle.std.proofs.Common.{◌≡◌, ◌⊎◌, ◌∙◌, ◌++◌, ℕ, List, [], Bool, true, false, Option, Some, None, Result, Ok, Err}
use Rattle.std.proofs.Common.{refl, sym, subst, ap, inl, inr, pos}
use Rattle.std.specs.declared.alloc.Global.{Global}
use Rattle.std.specs.declared.vec.Vec.{Vec}
use Rattle.sqlite.specs.State.{State, HasCleanDisk}
use Rattle.store_tables.specs.Reading.{Reads}
use Rattle.club_requests.specs.declared.refusals.Refusal.{Refusal}
use Rattle.club_requests.specs.Questions.{is_arbiters}
use Rattle.club_requests.specs.declared.questions.Question.{Question}
use Rattle.club_rows.specs.Club.{ClubState}
use Rattle.club_answers.specs.AnswerTexts.{IsShown, HasWrittenAnswer}
use Rattle.store.specs.Asking.{stays_open}
use Rattle.store.specs.declared.fault.AskFault.{AskFault}
use Rattle.store.specs.declared.fault.AskFault.TheVariants as asking
use Rattle.store.specs.declared.fault.StoreFault.TheVariants as club
use Rattle.http_bodies.specs.ShownViews.{shown_view}
use Rattle.http_desk.specs.declared.faults.ClubFault.{ClubFault}
use Rattle.http_desk.specs.Served.{IsOfQuestion}
use Rattle.club_session.specs.internal.Faults.{fault_of_question}
use Rattle.club_session.specs.Served.{DeskState}
use Rattle.club_session.specs.internal.Served.{written}
use Rattle.club_session.specs.ServedStates.{IsOpenIn, IsLeft, served_stays}
use Rattle.club_session.proofs.ServeLemmas.{read_left, read_stands}

-- what was written where nothing was before
written_shown : (s : ClubState) (moment : ℕ) (question : Question) (refusal : Option Refusal) (before now : List ℕ)
    → before ≡ [] → HasWrittenAnswer s moment question refusal (Some before) (Some now)
    → IsShown s moment question (written refusal now)
written_shown s moment question None before now nothing (text, is, appended) =
    let same : now ≡ text = appended ∙ ap (λ (bytes : List ℕ). bytes ++ text) nothing in
    subst (λ bytes. IsShown s moment question (Ok bytes)) (sym same) is
written_shown s moment question (Some refusal) before now nothing (is, same) = is

pub asking_shown : (s : ClubState) (moment : ℕ) (question : Question) (refusal : Option Refusal)
    (before now : List ℕ) (shown : Result (Vec ℕ Global) Refusal) → before ≡ [] → shown_view shown ≡ written refusal now
    → HasWrittenAnswer s moment question refusal (Some before) (Some now) → IsShown s moment question (shown_view shown)
asking_shown s moment question refusal before now shown nothing same has =
    subst (IsShown s moment question) (sym same) (written_shown s moment question refusal before now nothing has)

-- A writer that fails is told as memory that was refused, and the club goes on. It also goes on if it has no arbiter.
pub asking_left : (was_arbiter is_arbiter old_shut new_shut : Bool) (old new : State) (s : DeskState)
    (question : Question) (fault : AskFault) (answer : ClubFault) → answer ≡ fault_of_question fault
    → is_arbiter ≡ was_arbiter → (fault ≡ asking.Output → new_shut ≡ false)
    → (fault ≡ asking.Output) ⊎ ((fault ≡ asking.Club (club.Schema (pos 2))) ⊎ (new_shut ≡ true))
    → (fault ≡ asking.Output) ⊎ ((fault ≡ asking.Club (club.Schema (pos 2)))
    ⊎ ((fault ≡ asking.Club club.Store) ⊎ (fault ≡ asking.Club club.Memory)))
    → (fault ≡ asking.Club (club.Schema (pos 2)) → (is_arbiters question ≡ true) × IsOpenIn is_arbiter new_shut new s)
    → Reads (stays_open {A = Option Refusal} (Err fault)) old new → HasCleanDisk new → IsOpenIn was_arbiter old_shut old s
    → IsOfQuestion question answer × IsLeft is_arbiter new_shut new s s
asking_left was_arbiter is_arbiter old_shut new_shut old new s question asking.Output answer is same output ends named
    other reads clean open_in = (
      inl (inr is),
      served_stays is_arbiter new_shut new s s
          (read_stands was_arbiter is_arbiter old_shut new_shut old new s same (output refl) (reads.kept refl clean) open_in),
    )
asking_left was_arbiter is_arbiter old_shut new_shut old new s question (asking.Club fault) answer is same output ends
    named other reads clean open_in = (
      elim named [
        | inl written ↦ absurd (let h = written in cc)
        | inr (inl schema) ↦ inr ((other schema).0, is ∙ ap fault_of_question schema)
        | inr (inr (inl store)) ↦ inl (inl (is ∙ ap fault_of_question store))
        | inr (inr (inr memory)) ↦ inl (inr (is ∙ ap fault_of_question memory))
      ],
      elim ends [
        | inl written ↦ absurd (let h = written in cc)
        | inr (inl schema) ↦ served_stays is_arbiter new_shut new s s (other schema).1
        | inr (inr shut) ↦ read_left false was_arbiter is_arbiter old_shut new_shut old new s shut reads clean open_in
      ],
    )
