use Rattle.std.proofs.Common.{sym}
use Rattle.club_reads.proofs.KeyLemmas.{holder_called}
use Rattle.club_reads.proofs.people.member_with.Goals as goal

pub returns-in_ok-member_in-in-Some-clause-found : goal.returns-in_ok-member_in-in-Some-clause-found
returns-in_ok-member_in-in-Some-clause-found g c clean s is_club version k =
    holder_called s c.args.key.now c.in-Some.row c.in_ok-member_in-in-Some.field-0
    (rw c.in-Some.is at (c.in_ok-row.ensures.found clean s is_club version k))
    c.in_ok-member_in-in-Some.ensures

pub returns-in-None-clause-found : goal.returns-in-None-clause-found
returns-in-None-clause-found g c clean s is_club version k =
    sym (rw c.in-None.is at (c.in_ok-row.ensures.found clean s is_club version k))
