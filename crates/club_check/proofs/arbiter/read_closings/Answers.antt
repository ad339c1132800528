use Rattle.std.proofs.Common.{inr, refl, subst, sym}
use Rattle.std.specs.Prelude.{length}
use Rattle.sqlite.specs.Held.{state}
use Rattle.store_tables.specs.declared.names.Table.TheVariants.{Closings}
use Rattle.club_audit.specs.internal.ClosingAudit.{AreClosingsAfter}
use Rattle.club_check.proofs.ArbiterLemmas.{closing_types_wrong, closings_wrong}
use Rattle.club_check.proofs.FirstWrong.{named_wrong, rows_named}
use Rattle.club_check.proofs.StoredLemmas.{closings_stand}
use Rattle.club_check.proofs.arbiter.read_closings.Goals as goal

pub returns-in-Err-clause-wrong : goal.returns-in-Err-clause-wrong
returns-in-Err-clause-wrong g c clean has one told =
    closing_types_wrong (state g.S.Store c.args.conn.now) (rw c.in-V3.is at one) c.in-Err.fault
    (c.in-Err.ensures.reason_is_right clean (closings_stand _ (rw c.in-V3.is at has)))

pub returns-then-not-are_closings-clause-wrong : goal.returns-then-not-are_closings-clause-wrong
returns-then-not-are_closings-clause-wrong g c clean has one told =
    let s0 = state g.S.Store c.args.conn.now in
    named_wrong Closings s0.now
    (closings_wrong s0 (state g.S.Store c.read.new.conn) (rw c.in-V3.is at one) c.args.events.now
    c.in-Ok.closings.items told (c.in-Ok.ensures.rows clean (closings_stand _ (rw c.in-V3.is at has)))
    (λ are.
    let yes = c.are_closings.ensures.complete
    (subst (AreClosingsAfter (length c.args.events.now) 0) (sym c.deref.ensures.value) are) in
    let no = c.if-not-are_closings.true in
    absurd cc))

pub returns-then-not-are_closings-clause-reason_is_right : goal.returns-then-not-are_closings-clause-reason_is_right
returns-then-not-are_closings-clause-reason_is_right g c clean has one told =
    inr (rows_named Closings _ (returns-then-not-are_closings-clause-wrong g c clean has one told Closings refl).1)
