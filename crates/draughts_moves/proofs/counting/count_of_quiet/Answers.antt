use Rattle.std.proofs.Common.{arith}
use Rattle.draughts_moves.proofs.CountLemmas.{both-counted}
use Rattle.draughts_moves.proofs.counting.count_of_quiet.Goals as goal

pub returns : goal.returns
returns c = omega (
  arith,
  both-counted c.args.position.now,
  c.count_of_men-men.ensures.value,
  c.count_of_kings.ensures.value,
)
