use Rattle.std.proofs.Common.{inr}
use Rattle.club_check.proofs.known.judged_game.Goals as goal

pub returns-in-WrongType-clause-judged : goal.returns-in-WrongType-clause-judged
returns-in-WrongType-clause-judged c = inr (
  c.in-Err.ensures.mistyped c.in-WrongType.is,
  c.nameless.ensures.id,
  c.nameless.ensures.event,
)
