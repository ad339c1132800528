use Rattle.std.proofs.Common.{◌≡◌, None, arith, subst, ◌∙◌}
use Rattle.std.specs.FinMap.{get}
use Rattle.squares.specs.ShogiBoard.{ShogiBoard}
use Rattle.squares.proofs.ShogiCells.{get-shogi_board_of}
use Rattle.std.proofs.lemmas.List.{get_or_past}
use Rattle.squares.proofs.shogi.board.SBoard.keeps_to_its_squares.Goals as goal

pub returns : goal.returns
returns c n off =
    subst (λ (b : ShogiBoard). get b n ≡ None) c.self.view_is
    (get-shogi_board_of c.self.inside.cells n
    ∙ get_or_past c.self.inside.cells n None (omega (arith, c.self.invariant.has_cells, off)))
