use Rattle.std.proofs.Common.{pos, ap, sym, ◌∙◌}
use Rattle.sqlite_value.specs.declared.value.Value.TheVariants.{Int}
use Rattle.store_tables.specs.Cells.{seen_cells}
use Rattle.club_rows.proofs.SeenLine.{numbers-in, stood-in-row}
use Rattle.club_rows.proofs.seen.occurrences_in.Goals as goal

pub returns : goal.returns
returns g c = λ id game legal is.
    let (count, first, count_is, first_is) = numbers-in g.R.Rules.rules id game _ c.args.row.now is in
    stood-in-row g.R.Rules.rules g.met.R.Rules.same_position_is g.met.R.Rules.texts_tell_positions id game
    (seen_cells c.args.row.now)
    c.times_in.result c.first_ply_in.result legal is
    (ap Int count_is ∙ ap (λ n. Int (pos n)) (sym (c.times_in.ensures count count_is)))
    (ap Int first_is ∙ ap (λ n. Int (pos n)) (sym (c.first_ply_in.ensures first first_is)))
