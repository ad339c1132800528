use Rattle.std.proofs.Common.{◌∙◌, sym}
use Rattle.std.specs.Cmp.{nat_cmp_total, unsigned_tied}
use Rattle.std.specs.FinMap.{get}
use Rattle.std.specs.FinSet.{contains-remove, contains-difference}
use Rattle.draughts_moves.proofs.ClearLemmas.{clear-all, clear-part}
use Rattle.draughts_moves.proofs.IdleLemmas.{pieces-are}
use Rattle.draughts_moves.proofs.steps.clear_line.Goals as goal

pub returns-in-None : goal.returns-in-None
returns-in-None c = λ n.
    let p = c.args.position.now in
    let are = pieces-are p c.squares_of-first.result c.squares_of.result c.squares_of-first.ensures
    c.squares_of.ensures in
    c.line-line.ensures n
    ∙ clear-all (get p.board) c.args.toward _ are n c.args.from
    (rw c.union-pieces.ensures at (sym c.first_on.ensures ∙ c.in-None.is))

pub returns-in-Some : goal.returns-in-Some
returns-in-Some c = λ n.
    let p = c.args.position.now in
    let are = pieces-are p c.squares_of-first.result c.squares_of.result c.squares_of-first.ensures
    c.squares_of.ensures in
    rw (c.without.ensures, contains-remove nat_cmp_total, unsigned_tied, c.difference.ensures)
    (rw (contains-difference nat_cmp_total, c.line-line.ensures n, c.line.ensures n)
    (clear-part (get p.board) c.args.toward _ are n c.args.from c.in-Some.piece
    (rw c.union-pieces.ensures at (sym c.first_on.ensures ∙ c.in-Some.is))))
