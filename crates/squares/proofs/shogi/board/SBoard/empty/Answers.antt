use Rattle.std.proofs.Common.{refl}
use Rattle.squares.specs.ShogiBoard.{shogi_board_of}
use Rattle.squares.proofs.ShogiKept.{kept_empty}
use Rattle.squares.proofs.shogi.board.SBoard.empty.Goals as goal

pub returns : goal.returns
unfolding shogi_board_of
returns c = refl

pub invariant_of-result : goal.invariant_of-result
invariant_of-result c = kept_empty c.new.result c.new-2.result c.new.ensures c.new-2.ensures
