-- Maps the values of the code to those of the specification. No promise of the program rests on these definitions.
use Rattle.std.specs.Prelude.{option_map, string_bytes}
use Rattle.club_lists.specs.declared.shown.GameShown as given
use Rattle.club_lists.specs.GameShown.{GameShown}
use Rattle.club_lists.specs.ShownViews.{texts_view}

abbrev pub game_view : given.GameShown → GameShown
game_view g = record {
  event = string_bytes g.event;
  first = string_bytes g.first;
  second = string_bytes g.second;
  moves = texts_view g.moves.items;
  position = string_bytes g.position;
  left_first = g.left_first;
  left_second = g.left_second;
  offer = option_map string_bytes g.offer;
  end = g.end;
  result = g.result;
}
