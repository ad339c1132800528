use Rattle.std.proofs.Common.{◌∙◌, ap}
use Rattle.std.specs.FinSet as set
use Rattle.masks.proofs.SetLemmas.{len_word}
use Rattle.masks.proofs.word50.Bitboard50.len.Goals as goal

pub returns : goal.returns
returns c = len_word 1 50 c.self.inside.bits c.self.invariant ∙ ap set.len c.self.view_is
