use Rattle.draughts_moves.proofs.MoveLemmas.{play-turn}
use Rattle.draughts_moves.proofs.laws.turn_passes.Goals as goal

pub returns : goal.returns
returns c = play-turn
