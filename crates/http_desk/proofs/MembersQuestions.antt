-- No query of a member is an arbiter's, so that its faults are those of a call.
use Rattle.std.proofs.Common.{◌≡◌, false, true≢false, sym, ◌∙◌, inl, inr, Result, Ok, Err}
use Rattle.club_requests.specs.Questions.{is_arbiters}
use Rattle.club_requests.specs.declared.questions.Question.{Question}
use Rattle.http_desk.specs.Served.{IsOfCall, IsOfQuestion, Serves}
use Rattle.http_desk.specs.declared.faults.ClubFault.{ClubFault}

of_call : (question : Question) (fault : ClubFault) → is_arbiters question ≡ false → IsOfQuestion question fault
    → IsOfCall fault
of_call question fault none (inl is) = is
of_call question fault none (inr (needs, is)) = absurd (true≢false (sym needs ∙ none))

pub served_of_question : {S A : Type 0} (stands : S → Type 0) (leaves : S → S → Type 0) (s : S) (is_right : A → Type 0)
    (question : Question) (result : Result A ClubFault) → is_arbiters question ≡ false
    → Serves stands leaves s s is_right (IsOfQuestion question) result
    → Serves stands leaves s s is_right IsOfCall result
served_of_question stands leaves s is_right question (Ok answer) none is = is
served_of_question stands leaves s is_right question (Err fault) none is = (of_call question fault none is.0, is.1)
