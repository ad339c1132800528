use Rattle.pdn_games.proofs.OneTextLemmas.{texts-one, text-unrefused}
use Rattle.pdn_games.proofs.laws.texts_are_read_in_one_way.Goals as goal

pub returns-clause-one : goal.returns-clause-one
returns-clause-one c = λ text g h a b. texts-one c.reads_one_move.ensures text g h a b

pub returns-clause-read : goal.returns-clause-read
returns-clause-read c = λ text g f a h. text-unrefused c.reads_one_move.ensures text g f a h
