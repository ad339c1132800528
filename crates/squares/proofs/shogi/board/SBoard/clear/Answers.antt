use Rattle.std.proofs.Common.{◌≡◌, Some, None, get_or, ap, sym, ◌∙◌, arith, length, ◌<◌, subst}
use Rattle.std.specs.FinMap.{get, remove}
use Rattle.squares.specs.ShogiBoard.{ShogiBoard}
use Rattle.squares.proofs.ShogiCells.{shogi_board_of-clear, get-shogi_board_of}
use Rattle.squares.proofs.ShogiKept.{cleared, remove-free}
use Rattle.squares.proofs.shogi.board.SBoard.clear.Goals as goal

pub invariant_of-self : goal.invariant_of-self
invariant_of-self c =
    let is : get_or c.self.inside.cells c.index.result None ≡ Some c.in-Some.piece = c.in-Some.is in
    cleared c.self.inside.cells c.self.inside.sides c.self.inside.roles c.args.square c.in-Some.piece c.self.invariant
    (omega (arith, c.index.ensures.value, c.index.ensures.range))
    c.index-in-Some.result c.side_place.result c.role_place.result c.index-in-Some.ensures.value
    c.side_place.ensures.value c.role_place.ensures.value
    c.take_from.new.words c.take_from-in-Some.new.words c.take_from.ensures c.take_from-in-Some.ensures
    (ap (λ k. get_or c.self.inside.cells k None) (sym c.index.ensures.value) ∙ is)

pub returns-in-None : goal.returns-in-None
returns-in-None c =
    let is : get_or c.self.inside.cells c.index.result None ≡ None = c.in-None.is in
    remove-free c.args.self.now c.args.square
    (subst (λ (b : ShogiBoard). get b c.args.square ≡ None) c.self.view_is
    (get-shogi_board_of c.self.inside.cells c.args.square
    ∙ ap (λ k. get_or c.self.inside.cells k None) (sym c.index.ensures.value) ∙ is))

pub returns-in-Some : goal.returns-in-Some
returns-in-Some c =
    let within : c.index-in-Some.result < length c.self.inside.cells =
    omega (arith, c.index-in-Some.ensures.range, c.self.invariant.has_cells) in
    shogi_board_of-clear c.self.inside.cells c.index-in-Some.result within
    ∙ ap (λ (b : ShogiBoard). remove b c.index-in-Some.result) c.self.view_is
    ∙ ap (remove c.args.self.now) c.index-in-Some.ensures.value
