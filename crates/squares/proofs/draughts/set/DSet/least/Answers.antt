use Rattle.std.proofs.Common.{Some, None, sym, subst}
use Rattle.masks.specs.internal.Words.{IsLeast}
use Rattle.squares.specs.DraughtsSets.{Squares}
use Rattle.squares.proofs.DraughtsPops.{some-is}
use Rattle.squares.proofs.DraughtsLines.{contained-on}
use Rattle.squares.proofs.draughts.set.DSet.least.Goals as goal

pub returns-in-Some : goal.returns-in-Some
returns-in-Some c =
    let number = c.in-Some.number in
    let found : IsLeast c.self.inside.squares (Some number) =
    subst (IsLeast c.self.inside.squares) c.in-Some.is c.least.ensures in
    let on = contained-on c.self.inside.squares number c.keeps_to_its_squares.ensures found.0 in
    subst (λ (s : Squares). IsLeast s c.new.result) c.self.view_is
    (subst (IsLeast c.self.inside.squares)
    (sym (some-is c.new.result number (c.new.ensures.some.1 on) c.new.ensures.value)) found)

pub returns-in-None : goal.returns-in-None
returns-in-None c = subst (λ (s : Squares). IsLeast s None) c.self.view_is
    (subst (IsLeast c.self.inside.squares) c.in-None.is c.least.ensures)
