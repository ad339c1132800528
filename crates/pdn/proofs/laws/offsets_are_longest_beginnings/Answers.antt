use Rattle.pdn.proofs.OffsetLemmas.{refused-offset, offset-refused}
use Rattle.pdn.proofs.laws.offsets_are_longest_beginnings.Goals as goal

pub returns : goal.returns
returns c = λ text bytes. (λ e. refused-offset text bytes e, λ h. offset-refused text bytes h.0 h.1)
