use Rattle.std.proofs.Common.{◌∙◌}
use Rattle.std.specs.FinSet as set
use Rattle.masks.proofs.SetLemmas.{intersection_word}
use Rattle.masks.proofs.word50.Bitboard50.intersection.Goals as goal

pub returns : goal.returns
returns c = intersection_word 1 50 c.self.inside.bits c.other.inside.bits c.self.invariant c.other.invariant
    ∙ (λ i. set.intersection (c.self.view_is i) (c.other.view_is i))
