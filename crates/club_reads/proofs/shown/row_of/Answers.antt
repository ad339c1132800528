use Rattle.std.proofs.Common.{[], ◌∷◌, Option, map, ap, subst₂, ◌∙◌}
use Rattle.std.specs.Option.{option_map}
use Rattle.sqlite.specs.declared.types.Value.TheVariants.{Int}
use Rattle.store_tables.specs.Cells.{move_cells}
use Rattle.store_tables.specs.internal.Contents.{AreThose}
use Rattle.store_tables.specs.declared.rows.MoveRow.{MoveRow}
use Rattle.club_reads.proofs.shown.row_of.Goals as goal

pub returns-clause-found : goal.returns-clause-found
returns-clause-found g c clean content terms old k tells =
    let rows = c.in_ok-find.field-0.items in
    let those =
    subst₂ (λ z n. AreThose (0 ∷ 1 ∷ []) (Int z ∷ Int n ∷ []) (content 8) (map move_cells rows))
    c.ply_of-question.ensures.game c.ply_of-question.ensures.ply (c.in_ok-find.ensures.rows clean content k) in
    ap (λ (o : Option MoveRow). option_map move_cells o) c.first-row.ensures ∙ tells c.args.ply rows those
