use Rattle.std.proofs.Common.{◌∙◌, sym, ap, arith}
use Rattle.std.specs.FinSet as set
use Rattle.masks.specs.internal.Words.{contains_past}
use Rattle.masks.proofs.word81.Bitboard81.keeps_to_its_squares.Goals as goal

pub returns : goal.returns
returns c q above = ap (λ s. set.contains s q) (sym c.self.view_is)
    ∙ contains_past 0 81 c.self.inside.bits c.self.invariant q (omega arith)
