use Rattle.std.proofs.Common.{◌∙◌, ap, arith}
use Rattle.std.specs.FinSet as set
use Rattle.std.specs.Int.{w64}
use Rattle.masks.proofs.SetLemmas.{with_small, with_word}
use Rattle.masks.proofs.word50.Bitboard50.with.Goals as goal

pub invariant_of-result : goal.invariant_of-result
invariant_of-result c = with_small 1 50 w64 c.self.inside.bits c.from.result c.args.square c.self.invariant
    (omega arith) (omega arith) (omega arith)

pub returns : goal.returns
returns c = with_word 1 50 w64 c.self.inside.bits c.from.result c.args.square c.self.invariant (omega arith)
    (omega arith) (omega arith) ∙ ap (λ s. set.insert s c.args.square) c.self.view_is
