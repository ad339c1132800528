use Rattle.csa.proofs.BackLemmas.{written-back, running-back}
use Rattle.csa.proofs.laws.written_games_are_read.Goals as goal

pub returns-clause-ended : goal.returns-clause-ended
returns-clause-ended c = written-back c.can_declare_is.ensures

pub returns-clause-running : goal.returns-clause-running
returns-clause-running c = running-back c.check_is.ensures c.each_line_has_one_end.ensures.one
