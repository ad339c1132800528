use Rattle.std.proofs.Common.{string_bytes, sym, ap, ◌∙◌}
use Rattle.club_requests.specs.Outcome.{by_officer}
use Rattle.club_core.specs.Answer.{answered}
use Rattle.club_core.specs.Closings.{close_step}
use Rattle.club_core.specs.State.{with_events}
use Rattle.club_rows.specs.Tables.{closing_row}
use Rattle.store_tables.specs.internal.Cells.{closing_cells}
use Rattle.club_changes.proofs.ArbiterTables.{closing_decided, closing_found_by}
use Rattle.club_changes.proofs.OutcomeLemmas.{officer_none}
use Rattle.club_changes.proofs.ReadRows.{one_pushed}
use Rattle.club_changes.proofs.arbiter.on_closing.Goals as goal

pub returns-then-not-is_accepted-clause-step : goal.returns-then-not-is_accepted-clause-step
returns-then-not-is_accepted-clause-step c s arbiter same =
    let name = string_bytes c.args.command.now.event in
    let moment = c.args.moment in
    officer_none s (with_events s moment) c.args.caller (close_step s.events name moment) c.without_changes.result
    c.close_event-outcome.result c.without_changes.ensures.outcome c.without_changes.ensures.none
    (c.close_event-outcome.ensures moment
    ∙ ap (λ es. answered (by_officer c.args.caller (close_step es name moment))) same)
    (sym c.if-not-is_accepted.ensures)

pub returns-in-None-clause-step : goal.returns-in-None-clause-step
returns-in-None-clause-step c s arbiter same =
    let name = string_bytes c.args.command.now.event in
    let moment = c.args.moment in
    absurd (closing_found_by s.events moment c.args.caller name c.close_event-outcome.result
    (c.close_event-outcome.ensures moment
    ∙ ap (λ es. answered (by_officer c.args.caller (close_step es name moment))) same)
    (sym c.if-not-is_accepted.ensures)
    (sym c.in-None.is ∙ rw (same, c.as_str.ensures.value) at c.find_event.ensures))

pub returns-clause-step : goal.returns-clause-step
returns-clause-step c s arbiter same =
    let name = string_bytes c.args.command.now.event in
    let moment = c.args.moment in
    let answer = c.close_event-outcome.ensures moment
    ∙ ap (λ es. answered (by_officer c.args.caller (close_step es name moment))) same in
    let closings = one_pushed closing_cells c.changes_at-changes.result.closings.items c.push.new.self.items
    c.closing_row.result (closing_row c.in-Some.event moment) c.changes_at-changes.ensures.closings_are
    c.in_ok-push.ensures.items c.closing_row.ensures in
    closing_decided s moment c.args.caller name c.close_event-outcome.result _ c.in-Some.event arbiter answer
    (sym c.if-not-is_accepted.ensures)
    (sym c.in-Some.is ∙ rw (same, c.as_str.ensures.value) at c.find_event.ensures)
    (search (closings, c.changes_at-changes.ensures))
