use Rattle.pdn.proofs.ValueLemmas.{text-is, text-one}
use Rattle.pdn.proofs.laws.writes_one_text.Goals as goal

pub returns : goal.returns
returns c = λ p m legal. (text-is p m legal, λ text written. text-one p m text legal written)
