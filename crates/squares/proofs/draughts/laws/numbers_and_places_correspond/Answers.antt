use Rattle.std.proofs.Common.{arith}
use Rattle.squares.specs.internal.DraughtsOnBoard.{number_at-row_of, row_of-number_at}
use Rattle.squares.proofs.draughts.laws.numbers_and_places_correspond.Goals as goal

pub returns-clause-numbers : goal.returns-clause-numbers
returns-clause-numbers c =
    λ n on. (record { row_in = omega arith; column_in = omega arith; odd = omega arith }, number_at-row_of n on)

pub returns-clause-places : goal.returns-clause-places
returns-clause-places c = λ row column dark.
    let w = row_of-number_at row column dark.row_in dark.column_in dark.odd in
    ((omega arith, omega arith), w.0, w.1)
