-- Maps the summaries of games in the code to those of the specification. No promise of the program rests on these
-- definitions.
use Rattle.std.specs.Prelude.{List, map, string_bytes}
use Rattle.std.specs.Option.{option_map}
use Rattle.club_lists.specs.declared.game_entry.GameOver.{GameOver}
use Rattle.club_lists.specs.declared.game_entry.GameEntry.{GameEntry}
use Rattle.club_lists.specs.declared.game_entry.RunningGame.{RunningGame}
use Rattle.club_lists.specs.GameSummary.{Over, GameSummary, Running}

abbrev pub over_by : GameOver → Over
over_by over = record { end = string_bytes over.end; result = option_map string_bytes over.result }

abbrev pub summary_of : GameEntry → GameSummary
summary_of game = record {
  id = game.id;
  event = game.event;
  first = game.first;
  second = game.second;
  key = option_map (λ key. string_bytes key) game.key;
  plies = game.plies;
  turn = game.turn;
  clocks = record { left_first = game.left_first; left_second = game.left_second; since = game.since };
  offer = game.offer;
  over = option_map over_by game.over;
}

abbrev pub running_view : RunningGame → Running
running_view running = record {
  told = summary_of running.entry;
  last = option_map string_bytes running.last;
  position = string_bytes running.position;
}

-- the same for a list
abbrev pub summaries_of : List GameEntry → List GameSummary
summaries_of games = map summary_of games

abbrev pub running_views : List RunningGame → List Running
running_views games = map running_view games
