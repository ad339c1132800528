-- The position of a layout: its board, hands and side to move. No promise of the program rests on these definitions.
use Rattle.squares.specs.ShogiSets.{ShogiPosition}
use Rattle.shogi_moves.specs.declared.layout.Layout.{Layout}

abbrev pub position_of : Layout → ShogiPosition
position_of layout = record { board = layout.board; hands = layout.hands; turn = layout.turn }
