use Rattle.masks.proofs.SetLemmas.{is_empty_word}
use Rattle.masks.proofs.word81.Bitboard81.is_empty.Goals as goal

pub returns : goal.returns
returns c = is_empty_word 0 81 c.self.inside.bits c.self.invariant c.args.self c.self.view_is
