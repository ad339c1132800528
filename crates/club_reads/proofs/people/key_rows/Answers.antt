use Rattle.std.proofs.Common.{List, map, sym, subst}
use Rattle.sqlite.specs.Held.{state}
use Rattle.store_tables.specs.Changes.{HaveSame}
use Rattle.store_tables.specs.Over.{HasRowsIn}
use Rattle.store_tables.specs.internal.Cells.{key_cells}
use Rattle.store_tables.specs.declared.rows.KeyRow.{KeyRow}
use Rattle.club_rows.specs.Club.{tables}
use Rattle.club_reads.proofs.LaterLemmas.{no_first, no_keys, same_none}
use Rattle.club_reads.proofs.people.key_rows.Goals as goal

pub returns-in-V1-clause-rows : goal.returns-in-V1-clause-rows
returns-in-V1-clause-rows g c clean s is_club version k = absurd (no_first s (rw c.in-V1.is at version))

pub returns-in-V2-clause-rows : goal.returns-in-V2-clause-rows
returns-in-V2-clause-rows g c clean s is_club version k =
    subst (λ (l : List KeyRow). HaveSame (map key_cells l) (tables s 17)) (sym c.new-in-V2.ensures.items)
    (same_none _ (no_keys s is_club (rw c.in-V2.is at version)))

pub returns-in_ok-rows-in-V3-clause-rows : goal.returns-in_ok-rows-in-V3-clause-rows
returns-in_ok-rows-in-V3-clause-rows g c clean s is_club version k =
    c.in_ok-rows-in-V3.ensures.same clean (tables s)
    (subst (λ v. HasRowsIn v (tables s) (state g.S.Store c.args.conn.now)) (sym (rw c.in-V3.is at version)) k)
