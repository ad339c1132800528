use Rattle.std.proofs.Common.{ap, sym, ◌∙◌}
use Rattle.std.specs.FinMap.{get}
use Rattle.squares.specs.ShogiBoard.{ShogiBoard}
use Rattle.squares.proofs.ShogiCells.{get-shogi_board_of}
use Rattle.squares.proofs.shogi.board.SBoard.piece_at.Goals as goal

pub returns : goal.returns
returns c =
    sym (get-shogi_board_of c.self.inside.cells c.index.result)
    ∙ ap (λ (b : ShogiBoard). get b c.index.result) c.self.view_is
    ∙ ap (get c.args.self.now) c.index.ensures.value
