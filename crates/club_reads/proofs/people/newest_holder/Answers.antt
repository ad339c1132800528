use Rattle.std.proofs.Common.{refl, sym, subst, ◌∙◌}
use Rattle.sqlite.specs.Held.{state}
use Rattle.store_tables.specs.Over.{HasRowsIn}
use Rattle.store_tables.specs.internal.Cells.{member_cells}
use Rattle.store_tables.proofs.Proved.{clean_before, reads_on, rows_after}
use Rattle.club_rows.proofs.Proved.{stores-rows}
use Rattle.club_rows.specs.Club.{tables}
use Rattle.club_changes.proofs.Proved.{first_mapped}
use Rattle.club_reads.specs.internal.Later.{NoneAfter, SomeAfter}
use Rattle.club_reads.proofs.HolderLemmas.{newest_held, older_lost}
use Rattle.club_reads.proofs.people.newest_holder.Goals as goal

pub returns-then-not-is_newest-clause-found : goal.returns-then-not-is_newest-clause-found
returns-then-not-is_newest-clause-found g c clean s is_club version k text later =
    let keys = c.in_ok-keys.keys.items in
    let older : SomeAfter c.args.key.now.number keys =
    subst (SomeAfter c.args.key.now.number) c.deref.ensures.value (c.if-not-is_newest.ensures.older refl) in
    older_lost s is_club text c.args.key.now later keys
    (c.in_ok-keys.ensures.rows clean (tables s)
    (subst (λ v. HasRowsIn v (tables s) (state g.S.Store c.args.conn.now)) (sym version) k)).0 older

pub returns-in-Some-clause-found : goal.returns-in-Some-clause-found
returns-in-Some-clause-found g c clean s is_club version k text later =
    let looked = clean_before c.find_by_first-2.ensures.reads clean in
    let keys = c.in_ok-keys.keys.items in
    let newest : NoneAfter c.args.key.now.number keys =
    subst (NoneAfter c.args.key.now.number) c.deref.ensures.value (c.if-not-is_newest.ensures.newest refl) in
    let rows = c.in_ok-find_by_first.field-0.items in
    let kept = rows_after c.in_ok-keys.ensures.reads looked (tables s) k in
    newest_held s is_club text c.args.key.now later keys rows c.in-Some.row
    (c.in_ok-keys.ensures.rows looked (tables s)
    (subst (λ v. HasRowsIn v (tables s) (state g.S.Store c.args.conn.now)) (sym version) k)).0 newest
    (c.in_ok-find_by_first.ensures.rows clean (tables s) (stores-rows s _ kept)).0
    (first_mapped member_cells rows c.in-Some.row (sym c.first.ensures ∙ c.in-Some.is))

pub returns-in-Some-clause-reads : goal.returns-in-Some-clause-reads
returns-in-Some-clause-reads g c = reads_on c.in_ok-keys.ensures.reads c.in_ok-find_by_first.ensures.reads
