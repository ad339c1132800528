use Rattle.std.proofs.Common.{Some, None, sym, subst}
use Rattle.masks.specs.internal.Words.{IsGreatest}
use Rattle.squares.specs.DraughtsSets.{Squares}
use Rattle.squares.proofs.DraughtsPops.{some-is}
use Rattle.squares.proofs.DraughtsLines.{contained-on}
use Rattle.squares.proofs.draughts.set.DSet.greatest.Goals as goal

pub returns-in-Some : goal.returns-in-Some
returns-in-Some c =
    let number = c.in-Some.number in
    let found : IsGreatest c.self.inside.squares (Some number) =
    subst (IsGreatest c.self.inside.squares) c.in-Some.is c.greatest.ensures in
    let on = contained-on c.self.inside.squares number c.keeps_to_its_squares.ensures found.0 in
    subst (λ (s : Squares). IsGreatest s c.new.result) c.self.view_is
    (subst (IsGreatest c.self.inside.squares)
    (sym (some-is c.new.result number (c.new.ensures.some.1 on) c.new.ensures.value)) found)

pub returns-in-None : goal.returns-in-None
returns-in-None c = subst (λ (s : Squares). IsGreatest s None) c.self.view_is
    (subst (IsGreatest c.self.inside.squares) c.in-None.is c.greatest.ensures)
