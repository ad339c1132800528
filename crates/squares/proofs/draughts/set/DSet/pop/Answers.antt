use Rattle.std.proofs.Common.{ℕ, Option, Some, None, refl, subst, arith}
use Rattle.masks.specs.internal.Words.{Pops}
use Rattle.squares.specs.DraughtsSets.{Squares}
use Rattle.squares.proofs.DraughtsPops.{pops-none, pops-some, some-is}
use Rattle.squares.proofs.draughts.set.DSet.pop.Goals as goal

pub returns : goal.returns
returns c =
    let after = c.pop.new.self in
    let found : Pops 1 50 c.self.inside.squares (Some c.in-Some.number) after =
    subst (λ (o : Option ℕ). Pops 1 50 c.self.inside.squares o after) c.in-Some.is c.pop.ensures in
    let there : Pops 1 50 c.args.self.now (Some c.in-Some.number) after =
    subst (λ (s : Squares). Pops 1 50 s (Some c.in-Some.number) after) c.self.view_is found in
    pops-some c.args.self.now after c.in-Some.number c.new.result there
    (some-is c.new.result c.in-Some.number (c.new.ensures.some.1 (there.2, omega (arith, there.3))) c.new.ensures.value)

pub returns-in-None : goal.returns-in-None
returns-in-None c =
    let after = c.pop.new.self in
    let found : Pops 1 50 c.self.inside.squares None after =
    subst (λ (o : Option ℕ). Pops 1 50 c.self.inside.squares o after) c.in-None.is c.pop.ensures in
    pops-none c.args.self.now after None (subst (λ (s : Squares). Pops 1 50 s None after) c.self.view_is found) refl
