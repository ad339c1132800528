use Rattle.std.specs.Prelude.{string_bytes}
use Rattle.club_changes.proofs.Proved.{name_same}
use Rattle.club_reads.proofs.KeyLemmas.{holder_some, holder_none}
use Rattle.club_reads.proofs.people.member_by_key.Goals as goal

pub returns-in-Some-clause-held : goal.returns-in-Some-clause-held
returns-in-Some-clause-held g c clean s is_club version k =
    holder_some s c.args.key.now c.in-Some.row (string_bytes c.in-Some.row.name)
    (rw c.in-Some.is at (c.in_ok-row.ensures.found clean s is_club version k))
    (λ id m is. name_same c.in-Some.row id m is)

pub returns-in-None-clause-held : goal.returns-in-None-clause-held
returns-in-None-clause-held g c clean s is_club version k =
    holder_none s c.args.key.now (rw c.in-None.is at (c.in_ok-row.ensures.found clean s is_club version k))
