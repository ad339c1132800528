use Rattle.shogi_moves.proofs.DeclareLemmas.{kings-entered}
use Rattle.shogi_moves.proofs.declaring.king_entered.Goals as goal

pub loop-number-init : goal.loop-number-init
loop-number-init c = kings-entered c.args.board.now c.args.side c.kings_of-rest.result c.kings_of-rest.ensures
