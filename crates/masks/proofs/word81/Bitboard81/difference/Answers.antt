use Rattle.std.proofs.Common.{◌∙◌, arith}
use Rattle.std.specs.FinSet as set
use Rattle.std.specs.Int.{w128}
use Rattle.masks.proofs.SetLemmas.{difference_word}
use Rattle.masks.proofs.word81.Bitboard81.difference.Goals as goal

pub returns : goal.returns
returns c = difference_word 0 81 c.self.inside.bits c.other.inside.bits c.self.invariant c.other.invariant w128
    (omega arith) ∙ (λ i. set.difference (c.self.view_is i) (c.other.view_is i))
