use Rattle.std.proofs.Common.{sym, ◌∙◌}
use Rattle.draughts_moves.proofs.CountLemmas.{men-first, men-second}
use Rattle.draughts_moves.proofs.counting.count_of_men.Goals as goal

pub returns-in-First-clause-value : goal.returns-in-First-clause-value
returns-in-First-clause-value c =
    let p = c.args.position.now in
    rw (c.count_toward-left.ensures.value, c.count_toward.ensures.value, c.difference-men.ensures)
    (sym (men-first p c.squares_of-own.result c.kings.result (rw c.turn.ensures at c.squares_of-own.ensures)
    c.kings.ensures c.empty_squares-empty.result c.empty_squares-empty.ensures.empty
    (sym c.turn-2.ensures ∙ c.in-First.is)))

pub returns-in-Second-clause-value : goal.returns-in-Second-clause-value
returns-in-Second-clause-value c =
    let p = c.args.position.now in
    rw (
      c.count_toward-left-in-Second.ensures.value,
      c.count_toward-in-Second.ensures.value,
      c.difference-men.ensures,
    )
    (sym (men-second p c.squares_of-own.result c.kings.result (rw c.turn.ensures at c.squares_of-own.ensures)
    c.kings.ensures c.empty_squares-empty.result c.empty_squares-empty.ensures.empty
    (sym c.turn-2.ensures ∙ c.in-Second.is)))
