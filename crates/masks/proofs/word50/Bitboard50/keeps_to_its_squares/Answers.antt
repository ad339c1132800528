use Rattle.std.proofs.Common.{◌∙◌, inl, inr, sym, ap, arith}
use Rattle.std.specs.FinSet as set
use Rattle.masks.specs.internal.Words.{contains_below, contains_past}
use Rattle.masks.proofs.word50.Bitboard50.keeps_to_its_squares.Goals as goal

pub returns : goal.returns
returns c q (inl below) = ap (λ s. set.contains s q) (sym c.self.view_is)
    ∙ contains_below 1 50 c.self.inside.bits c.self.invariant q below
returns c q (inr above) = ap (λ s. set.contains s q) (sym c.self.view_is)
    ∙ contains_past 1 50 c.self.inside.bits c.self.invariant q (omega arith)
