use Rattle.std.proofs.Common.{true, map, refl, ap, sym, subst, ◌∙◌, arith}
use Rattle.sqlite.specs.Held.{state}
use Rattle.sqlite.specs.State.{HasCleanDisk}
use Rattle.store_tables.specs.Changes.{HaveSame}
use Rattle.store_tables.specs.internal.Cells.{key_cells, member_cells}
use Rattle.store_tables.proofs.Proved.{read_then, still_rows}
use Rattle.club_rows.proofs.Proved.{stores-rows}
use Rattle.club_rows.specs.Club.{tables}
use Rattle.club_reads.proofs.BeginLemmas.{members_begin}
use Rattle.club_reads.proofs.people.all_members.Goals as goal

pub returns-clause-values : goal.returns-clause-values
returns-clause-values g c clean s is_club version k =
    let early : HasCleanDisk (state g.S.Store c.list.new.conn) = omega (arith, c.key_rows.ensures.reads.clean) in
    let kept = still_rows _ _ (c.in_ok-rows.ensures.reads.kept refl early) (tables s) k in
    c.in_ok-members.ensures.values s.members
    (ap (map member_cells) c.deref.ensures.value
    ∙ c.in_ok-rows.ensures.rows early refl (tables s) (stores-rows s _ k) (members_begin s.members))
    (subst (λ l. HaveSame (map key_cells l) (tables s 17)) (sym c.deref-2.ensures.value)
    (c.in_ok-keys.ensures.rows clean s is_club version kept))

pub returns-clause-reads : goal.returns-clause-reads
returns-clause-reads g c =
    read_then true _ _ _ c.in_ok-rows.ensures.reads c.in_ok-keys.ensures.reads
