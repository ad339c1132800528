use Rattle.std.proofs.Common.{◌≡◌, [], ◌∷◌, map, ap, sym, subst, subst₂, ◌∙◌, SFits, w64, to_z-of_z, arith, rules}
use Rattle.std.proofs.lemmas.Int.{ints}
use Rattle.std.specs.Option.{option_map}
use Rattle.std.specs.Prelude.{slice_get}
use Rattle.sqlite.specs.declared.types.Value.TheVariants.{Int, Text}
use Rattle.store_tables.specs.Cells.{seen_cells}
use Rattle.store_tables.specs.internal.Contents.{AreThose}
use Rattle.club_rows.specs.internal.Seen.{IsFound, IsSeenRow}
use Rattle.club_rows.specs.Tables.{with_entry}
use Rattle.club_reads.proofs.counts.seen_at.Goals as goal

pub returns-clause-seen : goal.returns-clause-seen
returns-clause-seen g c clean content old e k tells position few ply =
    let laws = g.R.Rules.rules in
    let text = laws.write_position c.args.position.now in
    let rows = c.in_ok-find.field-0.items in
    let fits : SFits w64 c.from.result = subst (SFits w64) (sym c.from.ensures) (omega (
      arith,
      ints,
      c.ranges.game.fits,
    ))
    in
    let those =
    subst₂ (λ z t. AreThose (0 ∷ 1 ∷ []) (Int z ∷ Text t ∷ []) (content 12) (map seen_cells rows))
    (to_z-of_z fits ∙ c.from.ensures) (c.as_str.ensures.value ∙ c.in_ok-text.ensures)
    (c.in_ok-find.ensures.rows clean content k) in
    let first : option_map (λ r. r.now) c.as_ref.result ≡ slice_get rows 0 = search rules in
    let asked = c.as_str-2.ensures.value ∙ c.in_ok-text.ensures in
    subst (λ t. IsSeenRow laws c.args.game (with_entry old e) t (seen_cells c.in_ok-row.row)) asked
    (c.in_ok-row.ensures old e (asked ∙ ap laws.write_position position) few ply
    (subst₂ (IsFound laws c.args.game old) (sym asked) (sym first) (tells text rows those)))
