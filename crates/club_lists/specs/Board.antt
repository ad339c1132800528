-- A game printed for a person: its players, the side to move and the clocks, the board, and the moves.
use Rattle.std.specs.Prelude.{ℕ, suc, ◌+◌, ◌-◌, ◌/◌, ◌%◌, ◌==◌, List, [], ◌∷◌, ◌++◌, length}
use Rattle.std.specs.Prelude.{Option, Some, None, codes, decimal, nat_lt, if◌then◌else◌}
use Rattle.squares.specs.declared.sides.Side.{Side}
use Rattle.squares.specs.declared.sides.Side.TheVariants.{First, Second}
use Rattle.club_rules.specs.declared.names.GameKind.{GameKind}
use Rattle.club_rules.specs.declared.names.GameKind.TheVariants.{Draughts, Shogi}
use Rattle.club_lists.specs.Clock.{left_now}
use Rattle.club_lists.specs.GameSummary.{Over, GameSummary, over_text}

-- data of a printed game: its kind, the names of the event and the players, the diagram of the last position, and the
-- moves in notation
pub record Board : Type 0 where
  pub kind : GameKind
  pub event : List ℕ
  pub first : List ℕ
  pub second : List ℕ
  pub diagram : List ℕ
  pub moves : List (List ℕ)

-- ---- the lines before the diagram

-- `Game ID EVENT: FIRST - SECOND`
abbrev pub heading : ℕ → Board → List ℕ
heading id board =
    codes "Game " ++ (decimal id ++ (codes " " ++ (board.event ++ (codes ": " ++ (board.first ++ (codes " - "
    ++ (board.second ++ codes "\n")))))))

-- W for White and B for Black; First is White in draughts and Black in shogi
abbrev pub side_letter : GameKind → Side → List ℕ
side_letter Draughts First = codes "W"
side_letter Draughts Second = codes "B"
side_letter Shogi First = codes "B"
side_letter Shogi Second = codes "W"

-- `SIDE to move, ply PLIES, FIRST SECONDS, SECOND SECONDS`, with the seconds left at this timestamp
abbrev pub turn_line : ℕ → GameSummary → Board → List ℕ
turn_line moment told board =
    side_letter board.kind told.turn ++ (codes " to move, ply " ++ (decimal told.plies ++ (codes ", " ++ (board.first
    ++ (codes " " ++ (decimal (left_now moment First told) ++ (codes ", " ++ (board.second ++ (codes " "
    ++ (decimal (left_now moment Second told) ++ codes "\n"))))))))))

-- `ended NAME RESULT`, without a result for a void game
abbrev pub ended_line : Over → List ℕ
ended_line over = codes "ended " ++ (over_text over ++ codes "\n")

-- the line of the end, or of the side to move and the clocks while the game is running
abbrev pub standing_line : ℕ → GameSummary → Board → Option Over → List ℕ
standing_line moment told board None = turn_line moment told board
standing_line moment told board (Some over) = ended_line over

-- ---- the moves

-- A move after `plies` plies. Draughts numbers pairs of moves, `1. 32-28`; shogi numbers each move, `1. 7g7f`.
abbrev pub move_text : GameKind → ℕ → List ℕ → List ℕ
move_text Draughts plies text = if plies % 2 == 0 then decimal (plies / 2 + 1) ++ (codes ". " ++ text) else text
move_text Shogi plies text = decimal (plies + 1) ++ (codes ". " ++ text)

-- separator before a text of `wide` columns: nothing at the start of a line, a space if both fit 72 columns, otherwise
-- a newline
abbrev pub gap : (filled wide : ℕ) → List ℕ
gap filled wide = if filled == 0 then [] else if nat_lt wide (72 - filled) then codes " " else codes "\n"

-- columns of the line after the text is added
abbrev pub filled_with : (filled wide : ℕ) → ℕ
filled_with filled wide =
    if filled == 0 then wide else if nat_lt wide (72 - filled) then filled + 1 + wide else wide

-- newline of a line that is not empty
abbrev pub line_end : ℕ → List ℕ
line_end filled = if filled == 0 then [] else codes "\n"

-- the moves after `plies` plies, in a line that has `filled` columns
abbrev pub moves_from : GameKind → (plies filled : ℕ) → List (List ℕ) → List ℕ
moves_from kind plies filled [] = line_end filled
moves_from kind plies filled (text ∷ texts) =
    gap filled (length (move_text kind plies text))
    ++ (move_text kind plies text
    ++ moves_from kind (suc plies) (filled_with filled (length (move_text kind plies text))) texts)

-- ---- whole text

-- the text of a game at a timestamp
abbrev pub board_text : ℕ → GameSummary → Board → List ℕ
board_text moment told board =
    heading told.id board
    ++ (standing_line moment told board told.over ++ (board.diagram ++ moves_from board.kind 0 0 board.moves))
