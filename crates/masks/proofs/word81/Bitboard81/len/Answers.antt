use Rattle.std.proofs.Common.{◌∙◌, ap}
use Rattle.std.specs.FinSet as set
use Rattle.masks.proofs.SetLemmas.{len_word}
use Rattle.masks.proofs.word81.Bitboard81.len.Goals as goal

pub returns : goal.returns
returns c = len_word 0 81 c.self.inside.bits c.self.invariant ∙ ap set.len c.self.view_is
