use Rattle.sfen.proofs.OneLemmas.{one-form}
use Rattle.sfen.proofs.reading_laws.has_one_form.Goals as goal

pub returns : goal.returns
returns c = λ text a b has_a has_b. one-form text a b has_a has_b
