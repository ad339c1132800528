use Rattle.pdn_games.proofs.BackLemmas.{written-back}
use Rattle.pdn_games.proofs.laws.written_games_are_read.Goals as goal

pub returns : goal.returns
returns c = λ event white black date score ms g kept items score_is.
    written-back event white black date score ms g kept items score_is
