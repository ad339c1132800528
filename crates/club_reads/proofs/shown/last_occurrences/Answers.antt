use Rattle.std.proofs.Common.{[], ◌∷◌, map, sym, subst, subst₂, ◌∙◌}
use Rattle.sqlite.specs.declared.types.Value.TheVariants.{Int, Text}
use Rattle.store_tables.specs.Cells.{seen_cells}
use Rattle.store_tables.specs.internal.Contents.{AreThose}
use Rattle.club_core.specs.Game.{last_position}
use Rattle.club_rows.specs.internal.Replay.{terms_given}
use Rattle.club_rows.specs.internal.Seen.{IsFound}
use Rattle.club_rows.proofs.Proved.{position-text}
use Rattle.club_reads.proofs.shown.last_occurrences.Goals as goal

pub returns-in-Some-clause-stood : goal.returns-in-Some-clause-stood
returns-in-Some-clause-stood g c clean content game k tells of =
    let laws = g.R.Rules.rules in
    let stored = c.args.stored.now in
    let text = laws.write_position (last_position laws game) in
    let is_text = position-text laws (terms_given stored.terms) stored.id stored.row game of in
    let asked_text = c.position_of-question.ensures.position ∙ (c.as_str.ensures.value ∙ is_text) in
    let those =
    subst₂
    (λ z t. AreThose (0 ∷ 1 ∷ []) (Int z ∷ Text t ∷ []) (content 12) (map seen_cells c.in_ok-find.field-0.items))
    c.position_of-question.ensures.game asked_text (c.in_ok-find.ensures.rows clean content k) in
    let found = tells text c.in_ok-find.field-0.items those in
    let is = subst (IsFound laws stored.id game text) (sym c.first.ensures ∙ c.in-Some.is) found in
    let told = c.occurrences_in.ensures stored.id game of.legal.line.legal is in
    record { times = told.0; within = told.1.within; stands = told.1.stands; earliest = told.1.earliest }
