use Rattle.std.proofs.Common.{◌∙◌, ap, arith}
use Rattle.std.specs.FinSet as set
use Rattle.std.specs.Int.{w64}
use Rattle.masks.proofs.SetLemmas.{without_word}
use Rattle.masks.proofs.word50.Bitboard50.without.Goals as goal

pub returns : goal.returns
returns c = without_word 1 50 w64 c.self.inside.bits c.from.result c.args.square c.self.invariant (omega arith)
    (omega arith) (omega arith) ∙ ap (λ s. set.remove s c.args.square) c.self.view_is
