use Rattle.std.proofs.Common.{◌≡◌, ◌≤◌, ap, ◌∙◌, rules}
use Rattle.std.specs.FinMap.{insert}
use Rattle.squares.specs.DraughtsBoard.{Position}
use Rattle.squares.specs.internal.DraughtsGeometry.{OnBoard}
use Rattle.squares.specs.internal.DraughtsKept.{noted}
use Rattle.squares.proofs.DraughtsKept.{kept_put, board_put}
use Rattle.squares.proofs.draughts.position.DPos.put.Goals as goal

pub returns : goal.returns
returns c =
    let o = c.self.inside in
    let n = c.args.square in
    let on : OnBoard n = search rules in
    let board =
    board_put o.first o.second o.kings c.self.invariant n on.0 on.1 c.noted-self-inside.result
    c.noted-self-inside-2.result c.noted-self-inside-3.result c.args.piece
    (c.noted-self-inside.ensures ∙ ap (noted o.first n) c.is_of.ensures)
    (c.noted-self-inside-2.ensures ∙ ap (noted o.second n) c.is_of-2.ensures) c.noted-self-inside-3.ensures
    ∙ ap (λ (p : Position). let b = p.board in insert b n c.args.piece) c.self.view_is in
    let turn = ap (λ (p : Position). p.turn) c.self.view_is in
    λ i. record { board = board i; turn = turn i }

pub invariant_of-self : goal.invariant_of-self
invariant_of-self c =
    let o = c.self.inside in
    let n = c.args.square in
    let on : OnBoard n = search rules in
    kept_put o.first o.second o.kings c.self.invariant n on.0 on.1 c.noted-self-inside.result
    c.noted-self-inside-2.result c.noted-self-inside-3.result c.args.piece
    (c.noted-self-inside.ensures ∙ ap (noted o.first n) c.is_of.ensures)
    (c.noted-self-inside-2.ensures ∙ ap (noted o.second n) c.is_of-2.ensures) c.noted-self-inside-3.ensures
