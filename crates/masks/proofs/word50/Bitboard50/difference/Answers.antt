use Rattle.std.proofs.Common.{◌∙◌, arith}
use Rattle.std.specs.FinSet as set
use Rattle.std.specs.Int.{w64}
use Rattle.masks.proofs.SetLemmas.{difference_word}
use Rattle.masks.proofs.word50.Bitboard50.difference.Goals as goal

pub returns : goal.returns
returns c = difference_word 1 50 c.self.inside.bits c.other.inside.bits c.self.invariant c.other.invariant w64
    (omega arith) ∙ (λ i. set.difference (c.self.view_is i) (c.other.view_is i))
