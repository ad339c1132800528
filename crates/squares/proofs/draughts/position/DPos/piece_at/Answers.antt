use Rattle.std.proofs.Common.{◌≡◌, ◌≤◌, ap, sym, ◌∙◌, arith, ◌-◌}
use Rattle.std.specs.FinMap.{get}
use Rattle.squares.specs.internal.DraughtsKept.{cell_in}
use Rattle.squares.proofs.DraughtsKept.{cell_read}
use Rattle.squares.proofs.draughts.position.DPos.piece_at.Goals as goal

pub returns : goal.returns
returns c =
    let o = c.self.inside in
    let n = c.args.square in
    c.cell_in.ensures ∙ ap (cell_in o.first o.second o.kings) c.number.ensures.value
    ∙ sym (cell_read o.first o.second o.kings n (n - 1) (omega (arith, c.number.ensures.range))
    (omega (arith, c.number.ensures.range)))
    ∙ ap (λ p. get p.board n) c.self.view_is
