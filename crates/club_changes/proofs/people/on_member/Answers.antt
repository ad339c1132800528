use Rattle.std.proofs.Common.{◌≡◌, ◌+◌, [], length, string_bytes, sym, ap, ◌∙◌, arith}
use Rattle.std.proofs.lemmas.List.{length-map}
use Rattle.club_requests.specs.Outcome.{by_officer}
use Rattle.club_core.specs.Members.{Member, member_step}
use Rattle.club_core.specs.Answer.{answered}
use Rattle.club_core.specs.internal.Answer.{members_of}
use Rattle.club_core.specs.State.{with_members}
use Rattle.club_rows.specs.Tables.{member_row}
use Rattle.store_tables.specs.internal.Cells.{member_cells}
use Rattle.club_changes.proofs.OutcomeLemmas.{officer_none, member_decided}
use Rattle.club_changes.proofs.ReadRows.{one_pushed}
use Rattle.club_changes.proofs.people.on_member.Goals as goal

pub returns-then-not-is_accepted-clause-step : goal.returns-then-not-is_accepted-clause-step
returns-then-not-is_accepted-clause-step c s same =
    let name = string_bytes c.args.command.now.name in
    let key = string_bytes c.args.command.now.key in
    officer_none s (with_members s c.args.moment) c.args.caller (member_step s.members name key) c.without_changes.result
    c.add_member-outcome.result c.without_changes.ensures.outcome c.without_changes.ensures.none
    (c.add_member-outcome.ensures ∙ ap (λ ms. answered (by_officer c.args.caller (member_step ms name key))) same)
    (sym c.if-not-is_accepted.ensures)

pub returns-clause-step : goal.returns-clause-step
returns-clause-step c s same =
    let name = string_bytes c.args.command.now.name in
    let key = string_bytes c.args.command.now.key in
    let m : Member = record { name = name; key = key; later = [] } in
    let counted : length (members_of c.args.members.now) ≡ length c.args.members.now = simp length-map in
    let next : length c.args.members.now + 1 ≡ 1 + length s.members = omega (arith, counted, ap length same) in
    let members = one_pushed member_cells c.changes_at-changes.result.members.items c.push.new.self.items
    c.in_ok-member_row.field-0 (member_row (1 + length s.members) m) c.changes_at-changes.ensures.members_are
    c.in_ok-push.ensures.items (c.in_ok-member_row.ensures ∙ ap (λ k. member_row k m) next) in
    member_decided s c.args.moment c.args.caller name key c.add_member-outcome.result _
    (c.add_member-outcome.ensures ∙ ap (λ ms. answered (by_officer c.args.caller (member_step ms name key))) same)
    (sym c.if-not-is_accepted.ensures)
    (search (members, c.changes_at-changes.ensures))
