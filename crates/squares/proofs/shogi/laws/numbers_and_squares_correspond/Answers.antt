use Rattle.std.proofs.Common.{arith}
use Rattle.squares.proofs.shogi.laws.numbers_and_squares_correspond.Goals as goal

pub returns-clause-numbers : goal.returns-clause-numbers
returns-clause-numbers c = λ n below. (((omega arith, omega arith), (omega arith, omega arith)), omega arith)

pub returns-clause-squares : goal.returns-clause-squares
returns-clause-squares c = λ file rank on. (omega arith, omega arith, omega arith)
