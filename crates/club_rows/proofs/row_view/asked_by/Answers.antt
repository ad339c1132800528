use Rattle.std.proofs.Common.{None, ap, sym, subst, ◌∙◌, arith}
use Rattle.std.specs.Option.{option_map}
use Rattle.std.proofs.lemmas.Option.{same_Some}
use Rattle.club_core.specs.View.{IsAsked}
use Rattle.store_tables.specs.Cells.{move_cells}
use Rattle.club_rows.proofs.RowViewLemmas.{asked-shown, row-none}
use Rattle.club_rows.proofs.row_view.asked_by.Goals as goal

pub returns-in-None-clause-shows : goal.returns-in-None-clause-shows
returns-in-None-clause-shows g c = λ terms id game legal rows.
    let none = row-none g.R.Rules.rules (assumption (g.met.R.Rules)) terms id game legal c.args.ply c.args.rows.now.at
    rows.at c.in-None.is in
    subst (λ o. IsAsked {R = g.row.R.Denot} g.R.Rules.rules terms game c.args.ply o None) (sym none) tt

pub returns-clause-shows : goal.returns-clause-shows
returns-clause-shows g c = λ terms id game legal rows.
    asked-shown g.R.Rules.rules (assumption (g.met.R.Rules)) terms id game legal c.args.ply
    (omega (arith, c.if-ply-eq0.false)) c.in-Some.row
    (ap (option_map move_cells) (sym c.in-Some.is) ∙ rows.at) c.in-Some-2.before
    (λ some. same_Some _ _ (sym c.in-Some-2.is ∙ c.in_ok-before.ensures terms id game legal rows some))
    c.in_ok-asked.asked c.in_ok-asked.ensures.shows
