use Rattle.std.proofs.Common.{◌∙◌, ap, arith}
use Rattle.std.specs.FinSet as set
use Rattle.std.specs.Int.{w128}
use Rattle.masks.proofs.SetLemmas.{without_word}
use Rattle.masks.proofs.word81.Bitboard81.without.Goals as goal

pub returns : goal.returns
returns c = without_word 0 81 w128 c.self.inside.bits c.from.result c.args.square c.self.invariant (omega arith)
    (omega arith) (omega arith) ∙ ap (λ s. set.remove s c.args.square) c.self.view_is
