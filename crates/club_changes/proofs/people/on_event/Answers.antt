use Rattle.std.proofs.Common.{◌≡◌, ◌+◌, ◌≤◌, length, sym, ap, ◌∙◌, arith}
use Rattle.std.proofs.lemmas.List.{length-map}
use Rattle.club_requests.specs.Outcome.{by_officer}
use Rattle.club_core.specs.Events.{Event, declaring, event_step}
use Rattle.club_core.specs.Answer.{answered, added_event}
use Rattle.club_core.specs.internal.Answer.{events_of}
use Rattle.club_core.specs.State.{with_events}
use Rattle.club_rows.specs.Tables.{event_row, rule_row}
use Rattle.store_tables.specs.Cells.{event_cells}
use Rattle.store_tables.specs.internal.Cells.{event_rule_cells}
use Rattle.club_changes.proofs.OutcomeLemmas.{officer_none, event_decided, event_limits}
use Rattle.club_changes.proofs.PlayedLemmas.{budget_most, increment_most}
use Rattle.club_changes.proofs.ReadRows.{one_pushed}
use Rattle.club_changes.proofs.people.on_event.Goals as goal

pub returns-then-not-is_accepted-clause-step : goal.returns-then-not-is_accepted-clause-step
returns-then-not-is_accepted-clause-step c s is_club same =
    let e : Event = added_event c.args.command.now in
    officer_none s (with_events s c.args.moment) c.args.caller (event_step s.events e) c.without_changes.result
    c.add_event-outcome.result c.without_changes.ensures.outcome c.without_changes.ensures.none
    (c.add_event-outcome.ensures ∙ ap (λ es. answered (by_officer c.args.caller (event_step es e))) same)
    (sym c.if-not-is_accepted.ensures)

pub returns-clause-step : goal.returns-clause-step
returns-clause-step c s is_club same =
    let e : Event = added_event c.args.command.now in
    let counted : length (events_of c.args.events.now) ≡ length c.args.events.now = simp length-map in
    let next : length c.args.events.now + 1 ≡ 1 + length s.events = omega (arith, counted, ap length same) in
    let answer = c.add_event-outcome.ensures ∙ ap (λ es. answered (by_officer c.args.caller (event_step es e))) same in
    let limits = event_limits c.args.caller s.events e c.add_event-outcome.result answer
    (sym c.if-not-is_accepted.ensures) in
    let budget : e.terms.budget ≤ 31536000 = budget_most e.terms.budget limits.0 in
    let increment : e.terms.increment ≤ 2592000 = increment_most e.terms.increment limits.1 in
    let events = one_pushed event_cells c.changes_at-changes.result.events.items c.push.new.self.items
    c.in_ok-event_row.field-0 (event_row (1 + length s.events) e) c.changes_at-changes.ensures.events_are
    c.in_ok-push.ensures.items
    (c.in_ok-event_row.ensures (omega (arith, budget)) (omega (arith, increment)) ∙ ap (λ k. event_row k e) next) in
    let rules = one_pushed event_rule_cells c.changes_at-changes.result.event_rules.items c.push-2.new.self.items
    c.rule_row.result (rule_row (1 + length s.events) (declaring e)) c.changes_at-changes.ensures.rules_are
    c.in_ok-push-2.ensures.items (c.rule_row.ensures e ∙ ap (λ k. rule_row k (declaring e)) next) in
    event_decided s c.args.moment c.args.caller e c.add_event-outcome.result _ is_club answer
    (sym c.if-not-is_accepted.ensures)
    (search (events, rules, c.changes_at-changes.ensures))
