use Rattle.std.proofs.Common.{arith}
use Rattle.std.proofs.lemmas.Nat.{leading_top}
use Rattle.masks.proofs.BitLemmas.{positive}
use Rattle.masks.proofs.EndLemmas.{greatest_is}
use Rattle.masks.proofs.SetLemmas.{pops_nothing}
use Rattle.masks.proofs.word50.Bitboard50.greatest.Goals as goal

pub returns-then-self-eq0 : goal.returns-then-self-eq0
returns-then-self-eq0 c =
    (pops_nothing 1 50 c.self.inside.bits c.self.invariant c.args.self c.self.view_is c.if-self-eq0.true).0

pub returns : goal.returns
returns c =
    let w = c.self.inside.bits in
    let top = leading_top 64 w (positive w c.if-self-eq0.false) (omega (arith, c.self.invariant)) in
    greatest_is 1 50 w c.self.invariant c.args.self c.self.view_is top.0 _ top.2 top.3 (omega (arith, top.1))
