use Rattle.std.proofs.Common.{arith}
use Rattle.std.specs.Int.{w64, trailing_zeros}
use Rattle.masks.proofs.BitLemmas.{lowest, positive}
use Rattle.masks.proofs.EndLemmas.{least_is}
use Rattle.masks.proofs.SetLemmas.{pops_nothing}
use Rattle.masks.proofs.word50.Bitboard50.least.Goals as goal

pub returns-then-self-eq0 : goal.returns-then-self-eq0
returns-then-self-eq0 c =
    (pops_nothing 1 50 c.self.inside.bits c.self.invariant c.args.self c.self.view_is c.if-self-eq0.true).0

pub returns : goal.returns
returns c =
    let w = c.self.inside.bits in
    let l = lowest w64 w (positive w c.if-self-eq0.false) (omega (arith, c.self.invariant)) in
    least_is 1 50 w c.self.invariant c.args.self c.self.view_is (trailing_zeros w64 w) _ l (omega arith)
