use Rattle.std.proofs.Common.{◌≡◌, ◌-◌, None, inl, inr, arith, ap, subst, ◌∙◌}
use Rattle.std.specs.FinMap.{get}
use Rattle.std.proofs.lemmas.List.{get_or_past}
use Rattle.squares.specs.DraughtsBoard.{Position, board_of}
use Rattle.squares.specs.internal.DraughtsCells.{get-board_of, get-board_of-zero}
use Rattle.squares.specs.internal.DraughtsKept.{cells_in}
use Rattle.squares.proofs.draughts.position.DPos.keeps_to_its_squares.Goals as goal

pub returns : goal.returns
returns c n (inl below) =
    let o = c.self.inside in
    let cells = cells_in o.first o.second o.kings in
    let zero : n ≡ 0 = omega arith in
    subst (λ (p : Position). get p.board n ≡ None) c.self.view_is
    (ap (get (board_of cells)) zero ∙ get-board_of-zero cells)
returns c n (inr above) =
    let o = c.self.inside in
    let cells = cells_in o.first o.second o.kings in
    subst (λ (p : Position). get p.board n ≡ None) c.self.view_is
    (get-board_of cells n (n - 1) (omega arith)
    ∙ get_or_past cells (n - 1) None (omega (arith, c.self.invariant.has_cells)))
