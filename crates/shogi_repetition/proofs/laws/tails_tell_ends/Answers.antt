use Rattle.shogi_repetition.proofs.TailLemmas.{tail-begins, tail-goes-on, ends-by-tail}
use Rattle.shogi_repetition.proofs.laws.tails_tell_ends.Goals as goal

pub returns-clause-begin : goal.returns-clause-begin
returns-clause-begin c = tail-begins

pub returns-clause-go_on : goal.returns-clause-go_on
returns-clause-go_on c = tail-goes-on

pub returns-clause-ends : goal.returns-clause-ends
returns-clause-ends c = ends-by-tail
