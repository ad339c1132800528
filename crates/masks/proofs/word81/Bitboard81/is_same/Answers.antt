use Rattle.masks.proofs.SetLemmas.{same_words}
use Rattle.masks.proofs.word81.Bitboard81.is_same.Goals as goal

pub returns : goal.returns
returns c = same_words 0 81 c.self.inside.bits c.other.inside.bits c.args.self c.args.other c.self.invariant
    c.other.invariant c.self.view_is c.other.view_is
