-- A game printed for a person: its players, the side to move and the clocks, the board, and the moves. No promise of
-- the program rests on these definitions.
use Rattle.std.specs.Prelude.{map}
use Rattle.std.specs.Prelude.{string_bytes}
use Rattle.club_lists.specs.declared.board.BoardView.{BoardView}
use Rattle.club_lists.specs.Board.{Board}

abbrev pub board_by : BoardView → Board
board_by view = record {
  kind = view.kind;
  event = string_bytes view.event;
  first = string_bytes view.first;
  second = string_bytes view.second;
  diagram = string_bytes view.diagram;
  moves = map (λ t. string_bytes t) view.moves.items;
}
