use Rattle.std.proofs.Common.{sym, subst}
use Rattle.sqlite.specs.Held.{state}
use Rattle.store_tables.specs.Over.{HasRowsIn}
use Rattle.club_rows.specs.Club.{tables}
use Rattle.club_reads.proofs.HolderLemmas.{key_by, key_of_none}
use Rattle.club_reads.proofs.LaterLemmas.{no_first, no_keys}
use Rattle.club_reads.proofs.people.later_key.Goals as goal

pub returns-in-V1-clause-found : goal.returns-in-V1-clause-found
returns-in-V1-clause-found g c clean s is_club version k = absurd (no_first s (rw c.in-V1.is at version))

pub returns-in-V2-clause-found : goal.returns-in-V2-clause-found
returns-in-V2-clause-found g c clean s is_club version k =
    key_of_none s is_club c.args.key.now (no_keys s is_club (rw c.in-V2.is at version))

pub returns-in_ok-find-in-V3-clause-found : goal.returns-in_ok-find-in-V3-clause-found
returns-in_ok-find-in-V3-clause-found g c clean s is_club version k =
    key_by s is_club c.args.key.now c.in_ok-find-in-V3.field-0.items c.first-row.result c.first-row.ensures
    (c.in_ok-find-in-V3.ensures.rows clean (tables s)
    (subst (λ v. HasRowsIn v (tables s) (state g.S.Store c.args.conn.now)) (sym (rw c.in-V3.is at version)) k))
