use Rattle.pdn.proofs.GrammarLemmas.{read_form-text, text-read_form}
use Rattle.pdn.proofs.laws.forms_are_texts.Goals as goal

pub returns : goal.returns
returns c = λ text form. (λ e. read_form-text text form e, λ h. text-read_form text form h)
