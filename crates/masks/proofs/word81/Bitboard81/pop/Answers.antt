use Rattle.std.proofs.Common.{arith}
use Rattle.std.specs.Int.{w128}
use Rattle.std.specs.Int.{trailing_zeros}
use Rattle.masks.proofs.BitLemmas.{lowest, positive}
use Rattle.masks.proofs.SetLemmas.{pops_nothing, pops_lowest}
use Rattle.masks.proofs.word81.Bitboard81.pop.Goals as goal

pub returns-then-self-eq0 : goal.returns-then-self-eq0
returns-then-self-eq0 c = pops_nothing 0 81 c.self.inside.bits c.self.invariant c.args.self.now c.self.view_is
    c.if-self-eq0.true

pub returns : goal.returns
returns c =
    let w = c.self.inside.bits in
    let l = lowest w128 w (positive w c.if-self-eq0.false) (omega (arith, c.self.invariant)) in
    pops_lowest 0 81 w c.self.invariant c.args.self.now c.self.view_is (trailing_zeros w128 w) _ l (omega arith)
