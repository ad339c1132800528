use Rattle.std.proofs.Common.{◌∙◌, ap, arith}
use Rattle.std.specs.FinSet as set
use Rattle.std.specs.Int.{w128}
use Rattle.masks.proofs.BitLemmas.{has_bit-test}
use Rattle.masks.proofs.SetLemmas.{has_word}
use Rattle.masks.proofs.word81.Bitboard81.contains.Goals as goal

pub returns : goal.returns
returns c = has_bit-test c.self.inside.bits c.from.result
    ∙ has_word 0 81 w128 c.self.inside.bits c.from.result c.args.square c.self.invariant (omega arith) (omega arith)
    (omega arith) ∙ ap (λ s. set.contains s c.args.square) c.self.view_is
