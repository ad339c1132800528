use Rattle.std.proofs.Common.{ap, sym, ◌∙◌}
use Rattle.std.proofs.lemmas.Result.{IfOk-weaker, IfErr-weaker}
use Rattle.club_requests.specs.Questions.{is_arbiters}
use Rattle.store_tables.proofs.Proved.{leaves_beside}
use Rattle.club_rows.specs.Club.{tables}
use Rattle.store.specs.Clubs.{version_with}
use Rattle.store.proofs.Proved.{asks_served}
use Rattle.club_orders.proofs.QuestionLemmas.{answers}
use Rattle.club_orders.proofs.RecordedLemmas.{not_taken, untaken}
use Rattle.club_orders.proofs.SessionLemmas.{led_still, left_led}
use Rattle.club_orders.proofs.execution.QuestionExecute.execute.Goals as goal

pub returns-clause-answer : goal.returns-clause-answer
returns-clause-answer g c clean them s k =
    let asks = asks_served k in
    let answer = c.ask.result in
    let question = c.args.self.now in
    rw c.report_of_question.ensures.report
    (answers s c.args.moment question _ _ answer
    (IfOk-weaker answer _ _ (λ refusal told. told s asks) (c.ask.ensures.shown clean))
    (c.ask.ensures.begun clean s asks)
    (IfErr-weaker answer _ _ (λ fault told. told c.requires) c.ask.ensures.possible_faults)
    (λ left.
    let (needs, none) = not_taken (is_arbiters question) s.has_arbiter left in
    let (told, same, unwritten) = c.ask.ensures.other_schema c.requires (k.arbiter ∙ none) needs in
    (told, ap (λ w. g.W.Write.contents w) unwritten))
    (λ is.
    let (none, needs) = c.ask.ensures.only_then is in
    untaken (is_arbiters question) s.has_arbiter needs (sym k.arbiter ∙ none)))

pub returns-clause-history : goal.returns-clause-history
returns-clause-history g c clean from them sessions at db left =
    let version = version_with c.args.club.now.has_arbiter in
    led_still from version them sessions db
    (left_led from version them sessions _ at db (c.ask.ensures.reads.may clean db left))

pub returns-clause-next_state : goal.returns-clause-next_state
returns-clause-next_state g c clean them s k db left =
    leaves_beside them (tables s) _ k.holds db (c.ask.ensures.reads.may clean db left)
