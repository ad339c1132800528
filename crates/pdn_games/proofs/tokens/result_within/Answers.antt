use Rattle.std.proofs.Common.{sym}
use Rattle.pdn_games.proofs.FindLemmas.{result-within}
use Rattle.pdn_games.proofs.tokens.result_within.Goals as goal

pub returns-in-Some-clause-within : goal.returns-in-Some-clause-within
returns-in-Some-clause-within c = result-within c.args.text.now c.in-Some.word (sym c.in-Some.ensures)
