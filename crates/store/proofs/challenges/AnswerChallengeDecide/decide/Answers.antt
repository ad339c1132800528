use Rattle.std.proofs.Common.{ℕ, ap, sym, subst, ◌∙◌, length, string_bytes}
use Rattle.club_core.specs.declared.challenges.Challenge.{Challenge}
use Rattle.club_core.specs.internal.Answer.{events_of, members_of}
use Rattle.club_core.specs.Challenges.{challenge_by, answer_step}
use Rattle.club_core.specs.Members.{find_id}
use Rattle.club_requests.specs.Outcome.{Outcome, map_outcome}
use Rattle.club_core.specs.Seats.{has_member_name}
use Rattle.club_core.specs.State.{with_answer}
use Rattle.club_rows.specs.Club.{tables}
use Rattle.club_changes.specs.internal.Challenged.{AnswersTo}
use Rattle.club_changes.specs.internal.Steps.{IsDecided}
use Rattle.club_changes.proofs.Proved.{member_answers, member_mapped}
use Rattle.club_rows.proofs.Proved.{stores-rows}
use Rattle.store_tables.proofs.Proved.{clean_before, reads_on, rows_after}
use Rattle.store.proofs.challenges.AnswerChallengeDecide.decide.Goals as goal

pub returns-clause-step : goal.returns-clause-step
returns-clause-step g c clean s is_club version taken later k =
    let at_events = clean_before c.decided_answer.ensures.reads clean in
    let at_members = clean_before c.all_events.ensures.reads at_events in
    let one = rows_after c.in_ok-members.ensures.reads at_members (tables s) k in
    let two = rows_after c.in_ok-events.ensures.reads at_events (tables s) one in
    let ms = ap members_of c.deref.ensures.value ∙ c.in_ok-members.ensures.values at_members s is_club version k in
    let read = c.in_ok-events.ensures.values at_events s is_club version one in
    let es = ap events_of c.deref-2.ensures.value ∙ read in
    let es_again = ap events_of c.deref-3.ensures.value ∙ read in
    let command = c.args.self.now in
    let accept = command.accept in
    let under = challenge_by s.challenges (find_id (has_member_name (string_bytes command.challenger)) s.members)
    command.number in
    let wanted : ℕ → Outcome Challenge = λ m. answer_step s.events under (length s.games) m accept in
    let is = c.in_ok-decision.ensures.decided clean s is_club ms es (stores-rows s _ two) in
    let f = with_answer s c.args.moment accept in
    let leaves = subst (AnswersTo (length s.games) accept) (sym is)
    (member_answers c.args.caller s.events under (length s.games) accept) in
    subst (λ o. IsDecided s o c.in_ok-put_answered.field-0)
    (ap (map_outcome f) is ∙ sym (member_mapped f c.args.caller wanted))
    (c.in_ok-put_answered.ensures.step s accept is_club es_again leaves)

pub returns-clause-reads : goal.returns-clause-reads
returns-clause-reads g c =
    reads_on c.in_ok-members.ensures.reads
    (reads_on c.in_ok-events.ensures.reads c.in_ok-decision.ensures.reads)
