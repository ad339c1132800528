-- A game and its legal moves as JSON.
use Rattle.std.specs.Prelude.{◌≡◌, ℕ, List, Some, string_bytes}
use Rattle.std.specs.Option.{option_map}
use Rattle.serde_json.specs.Written.{compact_text}
use Rattle.squares.specs.declared.sides.Side.{Side}
use Rattle.squares.specs.declared.sides.Side.TheVariants.{First, Second}
use Rattle.club_rows.specs.Club.{ClubState}
use Rattle.club_changes.specs.Stored.{AreLegalRows}
use Rattle.club_answers.specs.Viewed.{IsViewed}
use Rattle.club_answers.specs.declared.viewed.ViewedGame.{ViewedGame}
use Rattle.club_lists.specs.Bodies.{game_data, moves_data}
use Rattle.club_lists.specs.GameShown.{GameShown}
use Rattle.club_lists.specs.ShownViews.{texts_view}

-- the name of the player of a side
abbrev pub named : ViewedGame → Side → List ℕ
named viewed First = string_bytes viewed.first
named viewed Second = string_bytes viewed.second

-- the JSON fields of a view of a game
abbrev pub shown_of : ViewedGame → GameShown
shown_of viewed =
    record {
      event = string_bytes viewed.event;
      first = string_bytes viewed.first;
      second = string_bytes viewed.second;
      moves = texts_view viewed.played.moves.items;
      position = string_bytes viewed.played.position;
      left_first = viewed.played.left_first;
      left_second = viewed.played.left_second;
      offer = option_map (named viewed) viewed.played.offer;
      end = viewed.played.end;
      result = viewed.played.result;
    }

-- the JSON of the game with this number
abbrev pub IsGameBody : ClubState → ℕ → List ℕ → Type 0
IsGameBody s id text = (viewed : ViewedGame) × IsViewed s id (Some viewed)
    × (text ≡ compact_text (game_data id (shown_of viewed)))

-- the JSON of its legal moves, in the order of the list of legal moves
abbrev pub IsMovesBody : ClubState → ℕ → List ℕ → Type 0
IsMovesBody s id text = (rows : List (List ℕ)) × AreLegalRows s id (Some rows)
    × (text ≡ compact_text (moves_data rows))
