use Rattle.std.specs.Cmp.{nat_cmp_total}
use Rattle.std.specs.FinMap.{get}
use Rattle.std.specs.FinSet.{contains-union}
use Rattle.squares.specs.DraughtsGeometry.{ray}
use Rattle.draughts_moves.specs.Search.{clear_front}
use Rattle.draughts_moves.proofs.ClearLemmas.{steps-by, king_along}
use Rattle.draughts_moves.proofs.steps.king_steps.Goals as goal

pub returns : goal.returns
returns c = λ n.
    let b = get c.args.position.now.board in
    simp (c.union-2.ensures, c.union.ensures, c.union-down.ensures, contains-union nat_cmp_total)
    (rw (c.clear_line-up_left.ensures n, c.clear_line-up_right.ensures n)
    (rw (c.clear_line-down_left.ensures n, c.clear_line-down_right.ensures n)
    (steps-by b c.args.piece c.args.from (λ d. clear_front b (ray d c.args.from))
    (king_along b c.args.piece c.args.from c.requires) n)))
