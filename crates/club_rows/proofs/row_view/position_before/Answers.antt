use Rattle.std.proofs.Common.{ap, sym, ◌∙◌, arith}
use Rattle.std.specs.Option.{option_map}
use Rattle.store_tables.specs.Cells.{move_cells}
use Rattle.club_rows.proofs.RowViewLemmas.{before-none, before-some}
use Rattle.club_rows.proofs.row_view.position_before.Goals as goal

pub returns-in_ok-found-in-Some : goal.returns-in_ok-found-in-Some
returns-in_ok-found-in-Some g c = λ terms id game legal rows some.
    before-some g.R.Rules.rules (assumption (g.met.R.Rules)) terms id game legal g.R.Rules.StandsFor
    g.met.R.Rules.writes_positions g.met.R.Rules.stands_for_one c.args.ply (omega arith) c.in-Some.row
    (ap (option_map move_cells) (sym c.in-Some.is) ∙ rows.before)
    c.as_str.result.now c.as_str.ensures.value c.in_ok-found-in-Some.found c.in_ok-found-in-Some.ensures

pub returns-in-None : goal.returns-in-None
returns-in-None g c = λ terms id game legal rows some.
    absurd
    (before-none g.R.Rules.rules (assumption (g.met.R.Rules)) terms id game legal c.args.ply (omega arith)
    c.args.rows.now.before rows.before c.in-None.is some)
