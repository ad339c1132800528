use Rattle.std.proofs.Common.{◌≡◌, ◌∙◌, true, sym, subst}
use Rattle.std.specs.Cmp.{both_ways}
use Rattle.squares.specs.DraughtsSets.{Squares, same_squares}
use Rattle.squares.specs.internal.DraughtsSameSquares.{same_squares-same, same_squares-itself}
use Rattle.squares.proofs.draughts.set.DSetPartialEq.eq.Goals as goal

pub returns : goal.returns
returns c =
    let s : Squares = c.args.self.now in
    let t : Squares = c.args.other.now in
    both_ways c.is_same.result (same_squares s t)
    (λ e. let one : s ≡ t = sym c.self.view_is ∙ c.is_same.ensures.0 e ∙ c.other.view_is in
    subst (λ u. same_squares s u ≡ true) one (same_squares-itself s))
    (λ e. c.is_same.ensures.1 (c.self.view_is ∙ same_squares-same s t e ∙ sym c.other.view_is))
