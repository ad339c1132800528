use Rattle.std.proofs.Common.{true, [], ◌∷◌, map, SFits, w64, to_z-of_z, subst, sym, ◌∙◌, arith}
use Rattle.std.proofs.lemmas.Int.{ints}
use Rattle.sqlite.specs.Held.{state}
use Rattle.sqlite.specs.State.{HasCleanDisk}
use Rattle.sqlite.specs.declared.types.Value.TheVariants.{Int}
use Rattle.store_tables.specs.Cells.{move_cells}
use Rattle.store_tables.specs.internal.Contents.{AreThose}
use Rattle.store_tables.proofs.Proved.{read_then}
use Rattle.club_rows.specs.internal.Replay.{terms_given}
use Rattle.club_rows.specs.Tables.{move_rows}
use Rattle.club_changes.specs.Steps.{HaveSame}
use Rattle.club_reads.proofs.RulingLemmas.{verdict_still}
use Rattle.club_reads.proofs.played.played_in.Goals as goal

pub returns-in-Some-clause-played : goal.returns-in-Some-clause-played
returns-in-Some-clause-played g c clean content game k tells judged of =
    let laws = g.R.Rules.rules in
    let stored = c.args.stored.now in
    let rows = c.in_ok-rows.rows.items in
    let looked : HasCleanDisk (state g.S.Store c.find_by_first.new.conn) =
    omega (arith, c.end_beneath.ensures.reads.clean) in
    let few = of.fits.id in
    let fits : SFits w64 c.from-id.result = subst (SFits w64) (sym c.from-id.ensures) (omega (arith, ints, few)) in
    let those = subst (λ z. AreThose (0 ∷ []) (Int z ∷ []) (content 8) (map move_cells rows))
    (to_z-of_z fits ∙ c.from-id.ensures) (c.in_ok-rows.ensures.rows looked content k).0 in
    let same = tells (map move_cells rows) those in
    let beneath = c.in_ok-beneath.ensures.beneath clean content game
    (verdict_still game c.in_ok-rows.ensures.reads looked judged) of in
    (rw c.in-Some.is at c.in_ok-played.ensures) (terms_given stored.terms) stored.id game of beneath
    (subst (λ l. HaveSame (map move_cells l) (move_rows laws (terms_given stored.terms) stored.id game))
    (sym c.deref.ensures.value) same)

pub returns-in-Some-clause-reads : goal.returns-in-Some-clause-reads
returns-in-Some-clause-reads g c =
    read_then true _ _ _ c.in_ok-rows.ensures.reads c.in_ok-beneath.ensures.reads
