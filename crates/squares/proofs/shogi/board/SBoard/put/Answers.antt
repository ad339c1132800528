use Rattle.std.proofs.Common.{◌≡◌, None, ap, sym, ◌∙◌, arith, length, ◌<◌, subst}
use Rattle.std.specs.FinMap.{get, insert, remove}
use Rattle.squares.specs.ShogiBoard.{ShogiBoard}
use Rattle.squares.proofs.ShogiCells.{shogi_board_of-put}
use Rattle.squares.proofs.ShogiTracks.{insert-removed}
use Rattle.squares.proofs.ShogiKept.{filled, free-removed}
use Rattle.squares.proofs.shogi.board.SBoard.put.Goals as goal

pub invariant_of-self : goal.invariant_of-self
invariant_of-self c =
    filled c.self.inside.cells c.self.inside.sides c.self.inside.roles c.args.square c.args.piece c.self.invariant
    (omega (arith, c.index.ensures.value, c.index.ensures.range))
    c.index.result c.side_place.result c.role_place.result c.index.ensures.value c.side_place.ensures.value
    c.role_place.ensures.value
    c.add_to.new.words c.add_to-2.new.words c.add_to.ensures c.add_to-2.ensures
    (subst (λ (b : ShogiBoard). get b c.args.square ≡ None) (sym (c.self.view_is ∙ c.clear.ensures))
    (free-removed c.args.self.now c.args.square))

pub returns : goal.returns
returns c =
    let within : c.index.result < length c.self.inside.cells =
    omega (arith, c.index.ensures.range, c.self.invariant.has_cells) in
    shogi_board_of-put c.self.inside.cells c.index.result c.args.piece within
    ∙ ap (λ (b : ShogiBoard). insert b c.index.result c.args.piece) (c.self.view_is ∙ c.clear.ensures)
    ∙ ap (λ n. insert (remove c.args.self.now c.args.square) n c.args.piece) c.index.ensures.value
    ∙ insert-removed c.args.self.now c.args.square c.args.piece
