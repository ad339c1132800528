-- JSON of a game and of its legal moves. The keys of an object are in byte order.
use Rattle.std.specs.Prelude.{ℕ, List, length, option_map, codes}
use Rattle.serde_json.specs.Data.{Data, string, object, member, no_members}
use Rattle.squares.specs.Sides.{score_text}
use Rattle.club_lists.specs.GameShown.{GameShown, end_name}
use Rattle.club_lists.specs.Values.{number_data, seconds_pair, text_array, text_or_null}

-- an object with the legal moves of a game under `moves`
abbrev pub moves_data : List (List ℕ) → Data
moves_data rows = object (member (codes "moves") (text_array rows) no_members)

-- the object of the game with this id
unfoldable pub game_data : ℕ → GameShown → Data
game_data id game = object
    (member (codes "end") (text_or_null (option_map end_name game.end))
    (member (codes "event") (string game.event)
    (member (codes "first") (string game.first)
    (member (codes "game") (number_data id)
    (member (codes "left") (seconds_pair game.left_first game.left_second)
    (member (codes "moves") (text_array game.moves)
    (member (codes "offer") (text_or_null game.offer)
    (member (codes "ply") (number_data (length game.moves))
    (member (codes "position") (string game.position)
    (member (codes "result") (text_or_null (option_map score_text game.result))
    (member (codes "second") (string game.second) no_members)))))))))))
