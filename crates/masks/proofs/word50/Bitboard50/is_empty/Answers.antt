use Rattle.masks.proofs.SetLemmas.{is_empty_word}
use Rattle.masks.proofs.word50.Bitboard50.is_empty.Goals as goal

pub returns : goal.returns
returns c = is_empty_word 1 50 c.self.inside.bits c.self.invariant c.args.self c.self.view_is
