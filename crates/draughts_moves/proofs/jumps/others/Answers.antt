use Rattle.draughts_moves.proofs.IdleLemmas.{pieces-are, others-are}
use Rattle.draughts_moves.proofs.jumps.others.Goals as goal

pub returns : goal.returns
returns c = λ n.
    let p = c.args.position.now in
    rw (c.without.ensures, c.union-all.ensures)
    (others-are p.board _ c.args.origin
    (pieces-are p c.squares_of-first.result c.squares_of.result c.squares_of-first.ensures c.squares_of.ensures) n)
