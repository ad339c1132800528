-- Parser of a statement.
use Rattle.std.specs.Prelude.{ℕ, ◌-◌, ◌==◌, ◌&&◌, ◌||◌, true, false, Option, Some, None, List, [], ◌∷◌, length}
use Rattle.std.specs.Prelude.{if◌then◌else◌}
use Rattle.std.specs.List.{list_all}
use Rattle.squares.specs.declared.sides.Side.{Side}
use Rattle.squares.specs.declared.sides.Side.TheVariants.{First, Second}
use Rattle.squares.specs.declared.shogi.piece.Role.{Role}
use Rattle.csa.specs.declared.statements.Statement.{Statement}
use Rattle.csa.specs.declared.statements.Statement.TheVariants as statement
use Rattle.csa.specs.Codes.{is_digit, is_place, role_of, square_of}
use Rattle.csa.specs.EndWords.{end_word}
use Rattle.csa.specs.Openings.{are_pieces, is_row, is_even_row}

-- the origin of a move from a square on the board, if its digits are valid
abbrev pub board_source : Option ℕ → Option (Option ℕ)
board_source None = None
board_source (Some square) = Some (Some square)

-- the origin of a move: a square, or the hand for `00`
abbrev pub source_of : ℕ → ℕ → Option (Option ℕ)
source_of file rank = if file == 48 && rank == 48 then Some None else board_source (square_of file rank)

-- the move of a side, if all its parts are valid
abbrev pub move_of : Side → Option (Option ℕ) → Option ℕ → Option Role → Statement
move_of side (Some from) (Some to) (Some role) =
    statement.Move (record { side = side; from = from; to = to; role = role })
move_of side _ _ _ = statement.Formless

-- after `/`
abbrev pub parting : List ℕ → Statement
parting [] = statement.Parting
parting _ = statement.Formless

-- after `V`
abbrev pub version : List ℕ → Statement
version (a ∷ []) = if a == 50 then statement.Version else statement.Formless
version (a ∷ b ∷ c ∷ []) = if (a == 50 && b == 46) &&
    (c == 49 || c == 50) then statement.Version else statement.Formless
version _ = statement.Formless

-- after `P+` or `P-`
abbrev pub pieces : List ℕ → Statement
pieces text = if are_pieces true text then statement.Pieces (length text == 0) else statement.Formless

-- after `P` and a rank
abbrev pub row : ℕ → List ℕ → Statement
row rank text = if is_row text then statement.Row rank (is_even_row rank text) else statement.Formless

-- after `P`
abbrev pub opening : List ℕ → Statement
opening [] = statement.Formless
opening (c ∷ text) =
    if c == 73 && are_pieces false text then statement.Opening (length text == 0)
    else if c == 43 || c == 45 then pieces text
    else if is_place c then row (c - 48) text
    else statement.Formless

-- after a side's sign
abbrev pub signed : Side → List ℕ → Statement
signed side [] = statement.Turn side
signed side (file ∷ rank ∷ to_file ∷ to_rank ∷ a ∷ b ∷ []) =
    move_of side (source_of file rank) (square_of to_file to_rank) (role_of a b)
signed side _ = statement.Formless

-- after `T`: one or more digits
abbrev pub seconds : List ℕ → Statement
seconds text = if length text == 0 then statement.Formless else if list_all is_digit
    text then statement.Seconds else statement.Formless

-- the statement of a text between two commas
abbrev pub statement_of : List ℕ → Statement
statement_of [] = statement.Formless
statement_of (c ∷ more) =
    if c == 47 then parting more
    else if c == 86 then version more
    else if c == 80 then opening more
    else if c == 43 then signed First more
    else if c == 45 then signed Second more
    else if c == 84 then seconds more
    else if c == 37 then statement.End (end_word (c ∷ more))
    else statement.Formless
