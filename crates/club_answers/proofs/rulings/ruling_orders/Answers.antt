use Rattle.std.proofs.Common.{sym}
use Rattle.store_tables.proofs.Proved.{reads_on}
use Rattle.club_answers.proofs.CallLemmas.{between}
use Rattle.club_answers.proofs.rulings.ruling_orders.Goals as goal

pub returns-in-Some-clause-found : goal.returns-in-Some-clause-found
returns-in-Some-clause-found g c clean s is_club version k =
    let read = c.in_ok-club.ensures.read clean s is_club version k in
    sym (rw (c.deref.ensures.value, c.deref-2.ensures.value, read.members_are, read.events_are, c.in-Some.is)
    at c.bulk_refusal.ensures)

pub returns-clause-reads : goal.returns-clause-reads
returns-clause-reads g c = reads_on c.in_ok-club.ensures.reads c.in_ok-text-in-None.ensures.reads

pub returns-clause-found : goal.returns-clause-found
returns-clause-found g c clean s is_club version k =
    let (first, kept) = between s c.in_ok-club.ensures.reads c.in_ok-text-in-None.ensures.reads clean k in
    let read = c.in_ok-club.ensures.read first s is_club version k in
    let named = rw (c.deref.ensures.value, c.deref-2.ensures.value, read.members_are, read.events_are, c.in-None.is)
    at c.bulk_refusal.ensures in
    (sym named, c.in_ok-text-in-None.ensures.orders clean s c.args.moment is_club version kept read)
