-- Parsers of the statements of the initial position: ranks of the board, and pieces on squares.
use Rattle.std.specs.Prelude.{ℕ, ◌==◌, ◌&&◌, ◌||◌, nat_lt, is_some, Bool, true, false, List, [], ◌∷◌, length, take}
use Rattle.std.specs.Prelude.{drop, codes, if◌then◌else◌}
use Rattle.std.specs.List.{list_all}
use Rattle.std.specs.Str.{bytes_eq}
use Rattle.csa.specs.Codes.{role_of, is_place}

-- a cell of a rank: ` * ` for an empty square, or a side's sign and a piece's code
abbrev pub is_cell : ℕ → ℕ → ℕ → Bool
is_cell a b c = if a == 32 then b == 42 && c == 32 else if a == 43 || a == 45 then is_some (role_of b c) else false

-- a sequence of cells; the last space may be missing
abbrev pub are_cells : List ℕ → Bool
are_cells [] = true
are_cells (a ∷ []) = false
are_cells (a ∷ b ∷ []) = a == 32 && b == 42
are_cells (a ∷ b ∷ c ∷ more) = is_cell a b c && are_cells more

-- nothing but spaces
abbrev pub are_blanks : List ℕ → Bool
are_blanks text = list_all (λ c. c == 32) text

-- nine complete cells and trailing spaces
abbrev pub is_long_row : List ℕ → Bool
is_long_row text = if are_cells (take 27 text) then are_blanks (drop 27 text) else false

-- nine cells and trailing spaces; the space of the last cell may be missing
abbrev pub is_row : List ℕ → Bool
is_row text =
    if length text == 26 then are_cells text
    else if nat_lt (length text) 27 then false
    else is_long_row text

-- the ranks of the even initial position, from file 9
abbrev pub even_row : ℕ → List ℕ
even_row rank =
    if rank == 1 then codes "-KY-KE-GI-KI-OU-KI-GI-KE-KY"
    else if rank == 2 then codes " * -HI *  *  *  *  * -KA * "
    else if rank == 3 then codes "-FU-FU-FU-FU-FU-FU-FU-FU-FU"
    else if rank == 7 then codes "+FU+FU+FU+FU+FU+FU+FU+FU+FU"
    else if rank == 8 then codes " * +KA *  *  *  *  * +HI * "
    else if rank == 9 then codes "+KY+KE+GI+KI+OU+KI+GI+KE+KY"
    else codes " *  *  *  *  *  *  *  *  * "

-- whether the nine cells are those of the rank in the even initial position
abbrev pub is_even_row : ℕ → List ℕ → Bool
is_even_row rank text = if nat_lt (length text) 27 then bytes_eq text (take 26 (even_row rank)) else bytes_eq
    (take 27 text) (even_row rank)

-- a piece on a square, or in hand if `hand` allows it: two digits and a code
abbrev pub is_piece : Bool → ℕ → ℕ → ℕ → ℕ → Bool
is_piece hand file rank a b = (((hand && file == 48) && rank == 48) || (is_place file && is_place rank)) && is_some
    (role_of a b)

-- a sequence of pieces
abbrev pub are_pieces : Bool → List ℕ → Bool
are_pieces hand [] = true
are_pieces hand (file ∷ rank ∷ a ∷ b ∷ more) = is_piece hand file rank a b && are_pieces hand more
are_pieces hand _ = false
