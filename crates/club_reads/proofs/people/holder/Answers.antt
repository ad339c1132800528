use Rattle.std.proofs.Common.{true, refl, map, sym, subst, ◌∙◌, arith}
use Rattle.sqlite.specs.Held.{state}
use Rattle.sqlite.specs.State.{HasCleanDisk}
use Rattle.store_tables.specs.internal.Cells.{member_cells}
use Rattle.store_tables.proofs.Proved.{read_then, still_rows}
use Rattle.club_rows.proofs.Proved.{stores-rows}
use Rattle.club_rows.specs.Club.{tables}
use Rattle.club_changes.proofs.Proved.{first_key_found, first_key_missing, first_mapped, none_mapped}
use Rattle.club_reads.specs.internal.Holders.{IsHolder}
use Rattle.club_reads.proofs.people.holder.Goals as goal

pub returns-in_ok-found-in-Some-clause-found : goal.returns-in_ok-found-in-Some-clause-found
returns-in_ok-found-in-Some-clause-found g c clean s is_club version k =
    let looked : HasCleanDisk (state g.S.Store c.find.new.conn) = omega (arith, c.first_holder.ensures.reads.clean) in
    let rows = c.in_ok-find.field-0.items in
    let those = c.in_ok-find.ensures.rows looked (tables s) (stores-rows s _ k) in
    let kept = still_rows _ _ (c.in_ok-find.ensures.reads.kept refl looked) (tables s) k in
    let (n, m, at, key_is, cells) = first_key_found s c.args.key.now (map member_cells rows)
    (member_cells c.in-Some.row) those
    (first_mapped member_cells rows c.in-Some.row (sym c.first.ensures ∙ c.in-Some.is)) in
    subst (λ text. IsHolder s text c.in_ok-found-in-Some.found) key_is
    (c.in_ok-found-in-Some.ensures.found clean s is_club version kept n m at cells)

pub returns-in_ok-found-in-None-clause-found : goal.returns-in_ok-found-in-None-clause-found
returns-in_ok-found-in-None-clause-found g c clean s is_club version k =
    let looked : HasCleanDisk (state g.S.Store c.find.new.conn) = omega (arith, c.later_holder.ensures.reads.clean) in
    let rows = c.in_ok-find.field-0.items in
    let those = c.in_ok-find.ensures.rows looked (tables s) (stores-rows s _ k) in
    let kept = still_rows _ _ (c.in_ok-find.ensures.reads.kept refl looked) (tables s) k in
    c.in_ok-found-in-None.ensures.found clean s is_club version kept
    (first_key_missing s c.args.key.now (map member_cells rows) those
    (none_mapped member_cells rows (sym c.first.ensures ∙ c.in-None.is)))

pub returns-in_ok-found-in-Some-clause-reads : goal.returns-in_ok-found-in-Some-clause-reads
returns-in_ok-found-in-Some-clause-reads g c =
    read_then true _ _ _ c.in_ok-find.ensures.reads c.in_ok-found-in-Some.ensures.reads

pub returns-in_ok-found-in-None-clause-reads : goal.returns-in_ok-found-in-None-clause-reads
returns-in_ok-found-in-None-clause-reads g c =
    read_then true _ _ _ c.in_ok-find.ensures.reads c.in_ok-found-in-None.ensures.reads
