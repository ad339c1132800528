use Rattle.sfen.proofs.OneLemmas.{not-refused, one-fault}
use Rattle.sfen.proofs.reading_laws.is_refused_once.Goals as goal

pub returns : goal.returns
returns c =
    λ text fault refused. (
      λ p n is. not-refused text fault p n refused is,
      λ other also. one-fault text fault other refused also,
    )
