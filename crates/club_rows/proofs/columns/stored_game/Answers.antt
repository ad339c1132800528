use Rattle.std.proofs.Common.{refl, sym, subst, arith, rules}
use Rattle.std.proofs.lemmas.Int.{ints}
use Rattle.store_tables.specs.Cells.{game_cells}
use Rattle.club_rows.specs.internal.Columns.{IsReadAs}
use Rattle.club_rows.proofs.ColumnLemmas.{cells-told, columns-cells}
use Rattle.club_rows.proofs.columns.stored_game.Goals as goal

pub returns-in_err-result : goal.returns-in_err-result
returns-in_err-result c =
    subst (IsReadAs (game_cells c.args.row.now)) (sym c.from_residual-in_err-result.ensures) (λ columns are is.
    let told = cells-told c.args.row.now columns is in
    c.in_err-result.ensures.none refl columns.result told.result)

pub returns : goal.returns
returns c = (
  columns-cells c.args.row.now _ (search (rules, arith, ints)),
  search (rules, arith),
)
