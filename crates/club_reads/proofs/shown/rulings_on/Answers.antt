use Rattle.std.proofs.Common.{[], ◌∷◌, List, map, SFits, w64, to_z-of_z, sym, subst, ◌∙◌, arith}
use Rattle.std.proofs.lemmas.Int.{ints}
use Rattle.sqlite.specs.declared.types.Value.TheVariants.{Int}
use Rattle.store_tables.specs.Changes.{HaveSame}
use Rattle.store_tables.specs.Cells.{ruling_cells}
use Rattle.store_tables.specs.internal.Contents.{AreThose}
use Rattle.store_tables.specs.declared.rows.RulingRow.{RulingRow}
use Rattle.club_rows.specs.Tables.{ruling_rows_from}
use Rattle.club_reads.proofs.RulingLemmas.{rulings_read}
use Rattle.club_reads.proofs.shown.rulings_on.Goals as goal

pub returns-in-Some-clause-found : goal.returns-in-Some-clause-found
returns-in-Some-clause-found g c clean content rulings outside finds =
    let id = c.args.game in
    let rows = c.in_ok-rows.rows.items in
    let fits : SFits w64 c.from-id.result = subst (SFits w64) (sym c.from-id.ensures)
    (omega (arith, ints, c.ranges.game)) in
    let those = subst (λ z. AreThose (0 ∷ []) (Int z ∷ []) (content 20) (map ruling_cells rows))
    (to_z-of_z fits ∙ c.from-id.ensures) (c.in_ok-rows.ensures.rows clean content finds.stored).0 in
    let same = finds.found (map ruling_cells rows) those in
    rulings_read id c.deref.result.now c.in-Some.rulings rulings outside (rw c.in-Some.is at c.in_ok-rulings.ensures.some)
    (subst (λ (l : List RulingRow). HaveSame (map ruling_cells l) (ruling_rows_from id 1 outside rulings)) (sym c.deref.ensures.value) same)

pub returns-in-Some-clause-possible : goal.returns-in-Some-clause-possible
returns-in-Some-clause-possible g c = (rw c.in-Some.is at c.in_ok-rulings.ensures.some).possible
