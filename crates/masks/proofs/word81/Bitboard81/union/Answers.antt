use Rattle.std.proofs.Common.{◌∙◌}
use Rattle.std.proofs.lemmas.Nat.{or_lt}
use Rattle.std.specs.FinSet as set
use Rattle.masks.proofs.SetLemmas.{union_word}
use Rattle.masks.proofs.word81.Bitboard81.union.Goals as goal

pub invariant_of-result : goal.invariant_of-result
invariant_of-result c = or_lt 81 c.self.inside.bits c.other.inside.bits c.self.invariant c.other.invariant

pub returns : goal.returns
returns c = union_word 0 81 c.self.inside.bits c.other.inside.bits c.self.invariant c.other.invariant
    ∙ (λ i. set.union (c.self.view_is i) (c.other.view_is i))
