use Rattle.std.proofs.Common.{true, map, refl, ap, sym, subst, ◌∙◌, arith}
use Rattle.sqlite.specs.Held.{state}
use Rattle.sqlite.specs.State.{HasCleanDisk}
use Rattle.store_tables.specs.Cells.{event_cells}
use Rattle.store_tables.specs.internal.Cells.{closing_cells, event_rule_cells}
use Rattle.store_tables.specs.Changes.{HaveSame}
use Rattle.club_rows.proofs.Proved.{stores-rows}
use Rattle.store_tables.proofs.Proved.{read_then, still_rows}
use Rattle.club_rows.specs.Club.{tables}
use Rattle.club_reads.proofs.BeginLemmas.{events_begin, rules_begin}
use Rattle.club_reads.proofs.events.all_events.Goals as goal

pub returns-clause-values : goal.returns-clause-values
returns-clause-values g c clean s is_club version k =
    let later : HasCleanDisk (state g.S.Store c.list-2.new.conn) =
    omega (arith, c.closing_rows.ensures.reads.clean) in
    let early : HasCleanDisk (state g.S.Store c.list.new.conn) = omega (arith, later, c.list-2.ensures.reads.clean) in
    let kept = still_rows _ _ (c.in_ok-rows.ensures.reads.kept refl early) (tables s) k in
    let kept_on = still_rows _ _ (c.in_ok-rules.ensures.reads.kept refl later) (tables s) kept in
    c.in_ok-events.ensures.values s.events (ap (map event_cells) c.deref.ensures.value
    ∙ c.in_ok-rows.ensures.rows early refl (tables s) (stores-rows s _ k) (events_begin s.events))
    (ap (map event_rule_cells) c.deref-2.ensures.value
    ∙ c.in_ok-rules.ensures.rows later refl (tables s) (stores-rows s _ kept) (rules_begin s.events))
    (subst (λ l. HaveSame (map closing_cells l) (tables s 22)) (sym c.deref-3.ensures.value)
    (c.in_ok-closings.ensures.rows clean s is_club version kept_on))

pub returns-clause-reads : goal.returns-clause-reads
returns-clause-reads g c =
    read_then true _ _ _ (read_then true _ _ _ c.in_ok-rows.ensures.reads c.in_ok-rules.ensures.reads)
    c.in_ok-closings.ensures.reads
