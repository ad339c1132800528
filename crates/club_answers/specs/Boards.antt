-- The diagram of a game with its state, as text for people.
use Rattle.std.specs.Prelude.{◌≡◌, ℕ, List, Bool, true, false, Some}
use Rattle.squares.specs.DraughtsBoard.{Position}
use Rattle.squares.specs.ShogiSets.{ShogiPosition}
use Rattle.club_core.specs.Game.{last_position, moves_of}
use Rattle.club_core.specs.declared.seats.Pairing.{Pairing}
use Rattle.club_core.specs.State.{draughts, shogi, place, kind_at, pairing_of}
use Rattle.club_rows.specs.Club.{ClubGame, ClubState, both_games}
use Rattle.club_analysis.specs.Tried.{notation_from}
use Rattle.diagrams.specs.BodDiagram.{bod_text}
use Rattle.diagrams.specs.DraughtsDiagram.{diagram_text}
use Rattle.diagrams.specs.ShogiDiagram.{shogi_text}
use Rattle.club_lists.specs.Board.{Board, board_text}
use Rattle.club_lists.specs.Listing.{event_name, member_name}
use Rattle.club_answers.specs.Games.{effective_moment, game_summary_of}

-- draughts has one kind of diagram
abbrev pub draughts_diagram : Bool → Position → List ℕ
draughts_diagram letters p = diagram_text p.board

-- shogi pieces as Latin letters, or as kanji in the BOD format
abbrev pub shogi_diagram : Bool → ShogiPosition → List ℕ
shogi_diagram true p = shogi_text p
shogi_diagram false p = bod_text p

-- the diagram of the current position
abbrev pub diagram_of : Bool → ClubGame → List ℕ
diagram_of letters (draughts game) = draughts_diagram letters (last_position both_games.draughts game)
diagram_of letters (shogi game) = shogi_diagram letters (last_position both_games.shogi game)

-- the moves, each in the notation for the position in which it was made
abbrev pub moves_in : ClubGame → List (List ℕ)
moves_in (draughts game) = notation_from both_games.draughts both_games.draughts.start (moves_of game)
moves_in (shogi game) = notation_from both_games.shogi both_games.shogi.start (moves_of game)

-- all that is shown of the game beside its entry in lists
abbrev pub board_with : ClubState → Pairing → (diagram : List ℕ) → (moves : List (List ℕ)) → Board
board_with s pairing diagram moves = record {
  kind = kind_at (place s.events pairing.event);
  event = event_name (place s.events pairing.event);
  first = member_name (place s.members pairing.first);
  second = member_name (place s.members pairing.second);
  diagram = diagram;
  moves = moves;
}

-- all that is shown of the game beside its entry in lists, with its diagram and its moves
abbrev pub board_of : ClubState → Bool → ClubGame → Board
board_of s letters game = board_with s (pairing_of game) (diagram_of letters game) (moves_in game)

-- the game with this number at the effective timestamp
abbrev pub IsBoardText : ClubState → (moment : ℕ) → (id : ℕ) → (letters : Bool) → List ℕ → Type 0
IsBoardText s moment id letters text =
    (game : ClubGame) × (place s.games id ≡ Some game)
    × (text ≡ board_text (effective_moment s moment) (game_summary_of s id game) (board_of s letters game))
