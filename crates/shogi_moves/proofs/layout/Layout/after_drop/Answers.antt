use Rattle.shogi_moves.proofs.PinLemmas.{nothing_in}
use Rattle.shogi_moves.proofs.layout.Layout.after_drop.Goals as goal

pub invariant_of-result-clause-can_leave : goal.invariant_of-result-clause-can_leave
invariant_of-result-clause-can_leave c n e = absurd (nothing_in c.new.result n c.new.ensures e)
