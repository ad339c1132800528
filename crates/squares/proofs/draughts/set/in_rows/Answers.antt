use Rattle.std.proofs.Common.{◌+◌, ◌&&◌, ◌||◌, ap, ◌∙◌}
use Rattle.std.specs.Cmp.{nat_cmp_total}
use Rattle.std.specs.FinSet as set
use Rattle.squares.specs.DraughtsSets.{Squares}
use Rattle.squares.proofs.draughts.set.in_rows.Goals as goal

pub returns-clause-squares : goal.returns-clause-squares
returns-clause-squares c = λ n.
    let even = c.intersection-even.result in
    let odd = c.intersection-odd.result in
    let in_even = ap (λ (s : Squares). set.contains s (n + 1)) c.intersection-even.ensures
    ∙ set.contains-intersection nat_cmp_total c.args.even c.of_word.result (n + 1)
    ∙ ap (λ b. set.contains c.args.even (n + 1) && b) (c.of_word.ensures n) in
    let in_odd = ap (λ (s : Squares). set.contains s (n + 1)) c.intersection-odd.ensures
    ∙ set.contains-intersection nat_cmp_total c.args.odd c.of_word-2.result (n + 1)
    ∙ ap (λ b. set.contains c.args.odd (n + 1) && b) (c.of_word-2.ensures n) in
    ap (λ (s : Squares). set.contains s (n + 1)) c.union-squares.ensures
    ∙ set.contains-union nat_cmp_total even odd (n + 1) ∙ (λ i. in_even i || in_odd i)
