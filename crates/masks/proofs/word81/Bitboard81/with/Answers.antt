use Rattle.std.proofs.Common.{◌∙◌, ap, arith}
use Rattle.std.specs.FinSet as set
use Rattle.std.specs.Int.{w128}
use Rattle.masks.proofs.SetLemmas.{with_small, with_word}
use Rattle.masks.proofs.word81.Bitboard81.with.Goals as goal

pub invariant_of-result : goal.invariant_of-result
invariant_of-result c = with_small 0 81 w128 c.self.inside.bits c.from.result c.args.square c.self.invariant
    (omega arith) (omega arith) (omega arith)

pub returns : goal.returns
returns c = with_word 0 81 w128 c.self.inside.bits c.from.result c.args.square c.self.invariant (omega arith)
    (omega arith) (omega arith) ∙ ap (λ s. set.insert s c.args.square) c.self.view_is
