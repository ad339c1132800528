use Rattle.std.proofs.Common.{inl, refl, subst, sym, inr}
use Rattle.sqlite.specs.Held.{state}
use Rattle.club_audit.specs.internal.Audit.{AreEvents}
use Rattle.store_tables.specs.Cells.{IsEvent}
use Rattle.store_tables.specs.Tables.{events}
use Rattle.store_tables.specs.declared.names.Table.TheVariants.{Events}
use Rattle.club_check.proofs.StoredLemmas.{stands}
use Rattle.club_check.proofs.ClubLemmas.{names_both}
use Rattle.club_check.proofs.FirstWrong.{event_types_wrong, events_none, named_wrong, rows_named}
use Rattle.club_check.proofs.read.read_events.Goals as goal

pub returns-then-not-are_events-clause-wrong : goal.returns-then-not-are_events-clause-wrong
returns-then-not-are_events-clause-wrong g c clean has =
    named_wrong Events (state g.S.Store c.args.conn.now).now
    (events_none c.in-Ok.events.items _ _ (c.in-Ok.ensures.rows clean (stands Events tt has))
    (λ es are.
    let yes = c.are_events.ensures.complete es (subst (AreEvents es) (sym c.deref.ensures.value) are) in
    let no = c.if-not-are_events.true in
    absurd cc))

pub returns-then-not-are_events-clause-reason_is_right : goal.returns-then-not-are_events-clause-reason_is_right
returns-then-not-are_events-clause-reason_is_right g c clean has =
    inr (rows_named Events _ (returns-then-not-are_events-clause-wrong g c clean has Events refl).1)

pub returns-clause-are : goal.returns-clause-are
returns-clause-are g c =
    let (es, are) = c.are_events.ensures.sound c.if-not-are_events.false in
    (es, subst (AreEvents es) c.deref.ensures.value are)

pub returns-in-Err-clause-wrong : goal.returns-in-Err-clause-wrong
returns-in-Err-clause-wrong g c clean has =
    event_types_wrong (state g.S.Store c.args.conn.now) c.in-Err.fault (c.in-Err.ensures.reason_is_right clean
    (stands Events tt has))

pub returns-clause-rows : goal.returns-clause-rows
returns-clause-rows g c clean has =
    c.in-Ok.ensures.rows clean (stands Events tt has)

pub returns-in-Err-clause-reason_is_right : goal.returns-in-Err-clause-reason_is_right
returns-in-Err-clause-reason_is_right g c clean has =
    inl (names_both Events (events 4) 2 IsEvent (state g.S.Store c.args.conn.now) _ refl refl (λ content all. all)
    (c.in-Err.ensures.reason_is_right clean (stands Events tt has)))
