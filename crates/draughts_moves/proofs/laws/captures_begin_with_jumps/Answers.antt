use Rattle.draughts_moves.proofs.MoveLemmas.{IsCapture-HasCapture, HasCapture-IsCapture}
use Rattle.draughts_moves.proofs.laws.captures_begin_with_jumps.Goals as goal

pub returns : goal.returns
returns c = λ p. (λ w. IsCapture-HasCapture p w.0 w.1, HasCapture-IsCapture p)
