use Rattle.std.proofs.Common.{arith}
use Rattle.shogi_moves.proofs.DeclareLemmas.{entered-walk, points-walk, entered-few}
use Rattle.shogi_moves.proofs.declaring.entered.Goals as goal

pub loop-number-init : goal.loop-number-init
loop-number-init c =
    let own = c.squares_of_side-rest in
    let pieces = entered-walk c.args.board.now c.args.side own.result own.ensures in
    let points = points-walk c.args.board.now c.args.side own.result own.ensures in
    (omega (arith, pieces), omega (arith, points), omega arith)

pub with-found-requires-clause-pieces : goal.with-found-requires-clause-pieces
with-found-requires-clause-pieces c =
    omega (arith, c.loop-number.invariant.0, entered-few c.args.board.now c.args.side)

pub with-found-requires-clause-points : goal.with-found-requires-clause-points
with-found-requires-clause-points c =
    omega (arith, c.loop-number.invariant.0, c.loop-number.invariant.2, entered-few c.args.board.now c.args.side)

pub returns-clause-within : goal.returns-clause-within
returns-clause-within c =
    omega (arith, c.loop-number.invariant.0, c.loop-number.invariant.2, entered-few c.args.board.now c.args.side)
