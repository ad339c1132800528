use Rattle.draughts_moves.proofs.IdleLemmas.{takes_nothing}
use Rattle.draughts_moves.proofs.most.may_take.Goals as goal

pub returns : goal.returns
returns c = rw (c.union.ensures, c.intersection-men.ensures)
    (takes_nothing c.args.position.now c.squares_of-own.result c.squares_of-enemies.result c.empty_squares.result
    c.jump_origins-near.result c.jumping_kings.result (rw c.turn.ensures at c.squares_of-own.ensures)
    (rw (c.other.ensures, c.turn-2.ensures) at c.squares_of-enemies.ensures) c.empty_squares.ensures.empty
    c.jump_origins-near.ensures c.jumping_kings.ensures)
