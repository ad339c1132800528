use Rattle.pdn.proofs.FenStopLemmas.{form-parts}
use Rattle.pdn.proofs.FenReadLemmas.{text-reads}
use Rattle.pdn.proofs.laws.fen_forms_are_texts.Goals as goal

pub returns : goal.returns
returns c = λ text form. (λ h. form-parts text form h, λ h. text-reads text form h)
