use Rattle.sfen.proofs.WrittenLemmas.{greatest-runs}
use Rattle.sfen.proofs.writing_laws.writes_greatest_runs.Goals as goal

pub returns : goal.returns
returns c = λ board rank. greatest-runs board rank
