use Rattle.std.proofs.Common.{true, refl, [], ◌∷◌, map, SFits, w64, to_z-of_z, sym, subst, ◌∙◌, arith}
use Rattle.std.proofs.lemmas.Int.{ints}
use Rattle.sqlite.specs.Held.{state}
use Rattle.sqlite.specs.State.{HasCleanDisk}
use Rattle.sqlite.specs.declared.types.Value.TheVariants.{Int}
use Rattle.store_tables.specs.internal.Contents.{AreThose}
use Rattle.store_tables.specs.Cells.{event_cells}
use Rattle.store_tables.specs.internal.Cells.{event_rule_cells}
use Rattle.store_tables.proofs.Proved.{read_then, still_rows}
use Rattle.club_rows.specs.Club.{tables}
use Rattle.club_changes.proofs.Proved.{event_found, first_mapped, rule_found}
use Rattle.club_reads.proofs.events.event_with.Goals as goal

pub returns-in-Some-first-clause-found : goal.returns-in-Some-first-clause-found
returns-in-Some-first-clause-found g c clean s is_club k known at =
    let early : HasCleanDisk (state g.S.Store c.find_by_first.new.conn) =
    omega (arith, c.find_by_first-2.ensures.reads.clean) in
    let rows = c.in_ok-find_by_first.field-0.items in
    let rules = c.in_ok-find_by_first-2.field-0.items in
    let fits : SFits w64 c.from-number.result =
    subst (SFits w64) (sym c.from-number.ensures) (omega (arith, ints, c.ranges.event.fits)) in
    let found = c.in_ok-find_by_first.ensures.rows early (tables s) k in
    let kept = still_rows _ _ (c.in_ok-find_by_first.ensures.reads.kept refl early) (tables s) k in
    let ruled = c.in_ok-find_by_first-2.ensures.rows clean (tables s) kept in
    let those = subst (λ z. AreThose (0 ∷ []) (Int z ∷ []) (tables s 4) (map event_cells rows))
    (to_z-of_z fits ∙ c.from-number.ensures) found.0 in
    let these = subst (λ z. AreThose (0 ∷ []) (Int z ∷ []) (tables s 16) (map event_rule_cells rules))
    (to_z-of_z fits ∙ c.from-number.ensures) ruled.0 in
    c.in_ok-event_of-in-Some-first.ensures c.args.event known
    (event_found s c.args.event (map event_cells rows) (event_cells c.in-Some.row) known those
    (first_mapped event_cells rows c.in-Some.row (sym c.first.ensures ∙ c.in-Some.is)) at)
    (rule_found s c.args.event (map event_rule_cells rules) (event_rule_cells c.in-Some-first.rule) known these
    (first_mapped event_rule_cells rules c.in-Some-first.rule (sym c.first-2.ensures ∙ c.in-Some-first.is)) at)

pub returns-in-Some-first-clause-reads : goal.returns-in-Some-first-clause-reads
returns-in-Some-first-clause-reads g c =
    read_then true _ _ _ c.in_ok-find_by_first.ensures.reads c.in_ok-find_by_first-2.ensures.reads
