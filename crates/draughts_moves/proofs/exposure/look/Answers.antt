use Rattle.std.proofs.Common.{◌∙◌}
use Rattle.squares.specs.declared.draughts.direction.Direction.TheVariants as direction
use Rattle.draughts_moves.proofs.IdleLemmas.{pieces-are, exposed-is}
use Rattle.draughts_moves.proofs.exposure.look.Goals as goal

pub returns : goal.returns
returns c =
    let p = c.args.position.now in
    let enemies = c.squares_of-enemies.result in
    let empty = c.empty_squares-empty.result in
    let are = exposed-is p enemies empty (rw (c.other.ensures, c.turn.ensures) at c.squares_of-enemies.ensures)
    c.empty_squares-empty.ensures.empty in
    record {
      pieces = λ n. rw c.union.ensures
          (pieces-are p c.squares_of-first.result c.squares_of.result c.squares_of-first.ensures
          c.squares_of.ensures n);
      up_left = λ n. c.exposed_squares.ensures n ∙ are direction.UpLeft n;
      up_right = λ n. c.exposed_squares-2.ensures n ∙ are direction.UpRight n;
      down_left = λ n. c.exposed_squares-3.ensures n ∙ are direction.DownLeft n;
      down_right = λ n. c.exposed_squares-4.ensures n ∙ are direction.DownRight n;
    }
