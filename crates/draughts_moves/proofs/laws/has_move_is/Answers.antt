use Rattle.draughts_moves.proofs.MoveLemmas.{has_move-sound, has_move-complete}
use Rattle.draughts_moves.proofs.laws.has_move_is.Goals as goal

pub returns : goal.returns
returns c = λ p. (has_move-sound p, has_move-complete p)
