use Rattle.std.proofs.Common.{ap, ◌∙◌}
use Rattle.std.specs.FinMap.{remove}
use Rattle.std.specs.FinSet as set
use Rattle.squares.specs.DraughtsBoard.{Position}
use Rattle.squares.proofs.DraughtsKept.{kept_clear, board_clear}
use Rattle.squares.proofs.draughts.position.DPos.clear.Goals as goal

pub returns : goal.returns
returns c =
    let o = c.self.inside in
    let range = c.number.ensures.range in
    let board =
    board_clear o.first o.second o.kings c.self.invariant c.args.square range.0 range.1
    c.without-self-inside.result c.without-self-inside-2.result c.without-self-inside-3.result
    (c.without-self-inside.ensures ∙ ap (set.remove o.first) c.number.ensures.value)
    (c.without-self-inside-2.ensures ∙ ap (set.remove o.second) c.number-2.ensures.value)
    (c.without-self-inside-3.ensures ∙ ap (set.remove o.kings) c.number-3.ensures.value)
    ∙ ap (λ (p : Position). let b = p.board in remove b c.args.square) c.self.view_is in
    let turn = ap (λ (p : Position). p.turn) c.self.view_is in
    λ i. record { board = board i; turn = turn i }

pub invariant_of-self : goal.invariant_of-self
invariant_of-self c =
    let o = c.self.inside in
    let range = c.number.ensures.range in
    kept_clear o.first o.second o.kings c.self.invariant c.args.square range.0 range.1
    c.without-self-inside.result c.without-self-inside-2.result c.without-self-inside-3.result
    (c.without-self-inside.ensures ∙ ap (set.remove o.first) c.number.ensures.value)
    (c.without-self-inside-2.ensures ∙ ap (set.remove o.second) c.number-2.ensures.value)
    (c.without-self-inside-3.ensures ∙ ap (set.remove o.kings) c.number-3.ensures.value)
