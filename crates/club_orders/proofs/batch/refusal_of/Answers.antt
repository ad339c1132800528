use Rattle.std.proofs.Common.{◌≡◌, ap, subst, ◌∙◌, Err, true, false}
use Rattle.club_requests.specs.Questions.{is_arbiters}
use Rattle.store.specs.declared.fault.AskFault.TheVariants as ask_fault
use Rattle.club_orders.proofs.GivingLemmas.{of_ask}
use Rattle.club_orders.proofs.QuestionLemmas.{IsOfAsking}
use Rattle.club_orders.proofs.batch.refusal_of.Goals as goal

pub returns-in-Err-Club-clause-possible_faults : goal.returns-in-Err-Club-clause-possible_faults
returns-in-Err-Club-clause-possible_faults g c =
    let told : IsOfAsking (ask_fault.Club c.in-Err-Club.fault) =
    subst IsOfAsking c.in-Err-Club.field-0-is (c.in-Err-Club.ensures.possible_faults c.requires) in
    of_ask {A = is_arbiters c.args.question.now ≡ true} {B = c.args.club.now.has_arbiter ≡ false} c.in-Err-Club.fault told
    (λ is.
    let (none, needs) = c.in-Err-Club.ensures.only_then (ap Err (c.in-Err-Club.field-0-is ∙ is)) in
    (needs, none))
