use Rattle.draughts_moves.proofs.IdleLemmas.{prey-is}
use Rattle.draughts_moves.proofs.jumps.look.Goals as goal

pub returns : goal.returns
returns c =
    let m = c.args.mover.now in (
      λ n. rw (c.without.ensures, c.difference-left.ensures)
          (prey-is c.args.position.now.board m.piece m.origin m.taken c.squares_of-enemies.result
          (rw c.other.ensures at c.squares_of-enemies.ensures) n),
      c.others.ensures,
    )
