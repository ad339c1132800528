use Rattle.draughts_moves.proofs.IdleLemmas.{goes_nowhere}
use Rattle.draughts_moves.proofs.listing.may_go.Goals as goal

pub returns : goal.returns
returns c = rw (c.intersection.ensures, c.union-able.ensures)
    (goes_nowhere c.args.position.now c.empty_squares.result c.empty_squares.ensures.empty c.squares_of-own.result
    c.men_before-before.result c.kings.result (rw c.turn.ensures at c.squares_of-own.ensures)
    (rw c.turn-2.ensures at c.men_before-before.ensures) c.kings.ensures)
