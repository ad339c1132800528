use Rattle.std.proofs.Common.{Option, List, length, ap, ◌∙◌}
use Rattle.squares.specs.declared.draughts.piece.DPiece.{DPiece}
use Rattle.squares.specs.DraughtsBoard.{Position, board_of}
use Rattle.squares.proofs.DraughtsHashed.{hashed}
use Rattle.squares.proofs.draughts.position.DPosHash.hash.Goals as goal

pub returns : goal.returns
returns g c =
    let turn = c.self.inside.turn in
    let cells = c.cells_in-cells.ensures in
    hashed g.H.Hasher.write _ _ c.args.state.now c.hash.new.state c.hash-2.new.state c.cells_in-cells.result turn
    c.args.self.now (ap length cells ∙ c.self.invariant.has_cells)
    (ap (λ (cs : List (Option DPiece)). let p : Position = record { board = board_of cs; turn = turn } in p) cells
    ∙ c.self.view_is) c.hash.ensures c.hash-2.ensures
