use Rattle.std.proofs.Common.{sym, ◌∙◌}
use Rattle.std.specs.FinMap as map
use Rattle.draughts_moves.specs.Search.{steps}
use Rattle.draughts_moves.proofs.MoveLemmas.{can_move-own, steps-none, steps-some}
use Rattle.draughts_moves.proofs.checking.can_move.Goals as goal

pub returns-then-not-is_empty : goal.returns-then-not-is_empty
returns-then-not-is_empty c =
    let p = c.args.position.now in
    let q = c.in-Some.piece in
    let some = steps-some c.steps_from.result (steps (map.get p.board) q c.args.square) c.steps_from.ensures
    (λ e. let f = c.is_empty.ensures.1 e in let g = c.if-not-is_empty.true in cc) in
    rw (can_move-own p c.args.square q (sym c.own_at.ensures ∙ c.in-Some.is), some)

pub returns-else-not-is_empty : goal.returns-else-not-is_empty
returns-else-not-is_empty c =
    let p = c.args.position.now in
    let q = c.in-Some.piece in
    let none = steps-none c.steps_from.result (steps (map.get p.board) q c.args.square) c.steps_from.ensures
    (c.is_empty.ensures.0 c.if-not-is_empty.false) in
    rw (can_move-own p c.args.square q (sym c.own_at.ensures ∙ c.in-Some.is), none)
    (rw c.new.ensures at c.can_jump.ensures)
