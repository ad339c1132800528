use Rattle.std.proofs.Common.{◌∙◌, ap, arith}
use Rattle.std.specs.FinSet as set
use Rattle.std.specs.Int.{w64}
use Rattle.masks.proofs.BitLemmas.{has_bit-test}
use Rattle.masks.proofs.SetLemmas.{has_word}
use Rattle.masks.proofs.word50.Bitboard50.contains.Goals as goal

pub returns : goal.returns
returns c = has_bit-test c.self.inside.bits c.from.result
    ∙ has_word 1 50 w64 c.self.inside.bits c.from.result c.args.square c.self.invariant (omega arith) (omega arith)
    (omega arith) ∙ ap (λ s. set.contains s c.args.square) c.self.view_is
