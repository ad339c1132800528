use Rattle.std.proofs.Common.{ℕ, ap, sym, subst, ◌∙◌, string_bytes}
use Rattle.club_core.specs.declared.challenges.Challenge.{Challenge}
use Rattle.club_core.specs.internal.Answer.{events_of, members_of}
use Rattle.club_core.specs.Challenges.{challenge_by, challenge_under, opening_step}
use Rattle.club_requests.specs.Outcome.{Outcome, map_outcome}
use Rattle.club_core.specs.State.{with_challenge}
use Rattle.club_rows.specs.Club.{tables}
use Rattle.club_changes.specs.internal.Steps.{IsDecided}
use Rattle.club_changes.proofs.Proved.{member_mapped, member_same}
use Rattle.club_rows.proofs.Proved.{stores-rows}
use Rattle.store_tables.proofs.Proved.{clean_before, reads_on, rows_after}
use Rattle.store.proofs.challenges.OpenChallengeDecide.decide.Goals as goal

pub returns-clause-step : goal.returns-clause-step
returns-clause-step g c clean s is_club version taken later k =
    let at_members = clean_before c.all_events.ensures.reads clean in
    let at_under = clean_before c.all_members.ensures.reads at_members in
    let one = rows_after c.in_ok-under.ensures.reads at_under (tables s) k in
    let two = rows_after c.in_ok-members.ensures.reads at_members (tables s) one in
    let ms = ap members_of c.deref.ensures.value ∙ c.in_ok-members.ensures.values at_members s is_club version one in
    let es = ap events_of c.deref-2.ensures.value ∙ c.in_ok-events.ensures.values clean s is_club version two in
    let under = c.in_ok-under.ensures.found at_under s is_club (stores-rows s _ k) in
    let command = c.args.self.now in
    let event = string_bytes command.event in
    let other = string_bytes command.other in
    let f = with_challenge s c.args.moment in
    let wanted : ℕ → Outcome Challenge = λ m.
    opening_step s.members s.events (challenge_under s.challenges m command.number) m command.number event other
    command.first in
    let same = member_same c.args.caller _ wanted
    (λ id is i.
    opening_step (ms i) (es i)
    ((under ∙ ap (λ o. challenge_by s.challenges o command.number) (c.member_id.ensures id is)) i) id command.number
    event other command.first) in
    subst (λ o. IsDecided s o c.in_ok-put_challenge.field-0)
    (ap (map_outcome f) (c.open_challenge-decision.ensures ∙ same) ∙ sym (member_mapped f c.args.caller wanted))
    (c.in_ok-put_challenge.ensures.step s is_club)

pub returns-clause-reads : goal.returns-clause-reads
returns-clause-reads g c =
    reads_on c.in_ok-under.ensures.reads (reads_on c.in_ok-members.ensures.reads c.in_ok-events.ensures.reads)
