use Rattle.std.proofs.Common.{ap, ◌∙◌, string_bytes}
use Rattle.club_core.specs.internal.Answer.{events_of, members_of}
use Rattle.club_rows.specs.Club.{tables}
use Rattle.club_rows.proofs.Proved.{stores-rows}
use Rattle.store_tables.proofs.Proved.{clean_before, reads_on, rows_after}
use Rattle.store.proofs.seats.SeatDecide.decide.Goals as goal

pub returns-clause-step : goal.returns-clause-step
returns-clause-step g c clean s is_club version taken later k =
    let at_events = clean_before c.decided_seating.ensures.reads clean in
    let at_members = clean_before c.all_events.ensures.reads at_events in
    let one = rows_after c.in_ok-members.ensures.reads at_members (tables s) k in
    let two = rows_after c.in_ok-events.ensures.reads at_events (tables s) one in
    let ms = ap members_of c.deref.ensures.value ∙ c.in_ok-members.ensures.values at_members s is_club version k in
    let es = ap events_of c.deref-2.ensures.value ∙ c.in_ok-events.ensures.values at_events s is_club version one in
    let es_again = ap events_of c.deref-3.ensures.value ∙ c.in_ok-events.ensures.values at_events s is_club version one in
    let is = c.in_ok-seating.ensures.decided clean s is_club ms es (stores-rows s _ two) in
    rw c.as_str.ensures.value at
    c.in_ok-put_seating.ensures.step s c.args.caller (string_bytes c.args.self.now.event)
    (string_bytes c.args.self.now.first) (string_bytes c.args.self.now.second) is_club es_again is

pub returns-clause-reads : goal.returns-clause-reads
returns-clause-reads g c =
    reads_on c.in_ok-members.ensures.reads
    (reads_on c.in_ok-events.ensures.reads c.in_ok-seating.ensures.reads)
