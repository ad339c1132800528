use Rattle.std.proofs.Common.{◌<◌, string_bytes, sym, ap, ◌∙◌, arith}
use Rattle.club_requests.specs.Outcome.{by_officer}
use Rattle.club_core.specs.Answer.{answered}
use Rattle.club_core.specs.Keys.{key_step}
use Rattle.club_core.specs.State.{with_members}
use Rattle.club_rows.specs.Tables.{key_row}
use Rattle.store_tables.specs.internal.Cells.{key_cells}
use Rattle.club_changes.proofs.ArbiterTables.{key_decided, key_found_by, key_small}
use Rattle.club_changes.proofs.OutcomeLemmas.{officer_none}
use Rattle.club_changes.proofs.ReadRows.{one_pushed}
use Rattle.club_changes.proofs.arbiter.on_key.Goals as goal

pub returns-then-not-is_accepted-clause-step : goal.returns-then-not-is_accepted-clause-step
returns-then-not-is_accepted-clause-step c s arbiter same =
    let name = string_bytes c.args.command.now.name in
    let key = string_bytes c.args.command.now.key in
    let n = c.args.command.now.number in
    officer_none s (with_members s c.args.moment) c.args.caller (key_step s.members name n key) c.without_changes.result
    c.new_key-outcome.result c.without_changes.ensures.outcome c.without_changes.ensures.none
    (c.new_key-outcome.ensures ∙ ap (λ ms. answered (by_officer c.args.caller (key_step ms name n key))) same)
    (sym c.if-not-is_accepted.ensures)

pub returns-in-None-clause-step : goal.returns-in-None-clause-step
returns-in-None-clause-step c s arbiter same =
    let name = string_bytes c.args.command.now.name in
    let key = string_bytes c.args.command.now.key in
    let n = c.args.command.now.number in
    absurd (key_found_by s.members c.args.caller name n key c.new_key-outcome.result
    (c.new_key-outcome.ensures ∙ ap (λ ms. answered (by_officer c.args.caller (key_step ms name n key))) same)
    (sym c.if-not-is_accepted.ensures)
    (sym c.in-None.is ∙ rw (same, c.as_str.ensures.value) at c.find_member.ensures))

pub returns-clause-step : goal.returns-clause-step
returns-clause-step c s arbiter same =
    let name = string_bytes c.args.command.now.name in
    let key = string_bytes c.args.command.now.key in
    let n = c.args.command.now.number in
    let answer = c.new_key-outcome.ensures
    ∙ ap (λ ms. answered (by_officer c.args.caller (key_step ms name n key))) same in
    let is_in = sym c.if-not-is_accepted.ensures in
    let small : n < 100 = key_small s.members c.args.caller name n key c.new_key-outcome.result answer is_in in
    let keys = one_pushed key_cells c.changes_at-changes.result.keys.items c.push.new.self.items
    c.in_ok-key_row.field-0 (key_row c.in-Some.member n key) c.changes_at-changes.ensures.keys_are
    c.in_ok-push.ensures.items (c.in_ok-key_row.ensures (omega (arith, small))) in
    key_decided s c.args.moment c.args.caller name n key c.new_key-outcome.result _ c.in-Some.member arbiter answer
    is_in
    (sym c.in-Some.is ∙ rw (same, c.as_str.ensures.value) at c.find_member.ensures)
    (search (keys, c.changes_at-changes.ensures))
