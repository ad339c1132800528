-- The USI reader: the move of a text, or the length of its longest valid prefix.
use Rattle.std.specs.Prelude.{ℕ, ◌-◌, ◌==◌, ◌&&◌, nat_le, max, is_some, Bool, true, false, Option, Some, None, List, []}
use Rattle.std.specs.Prelude.{◌∷◌, if◌then◌else◌}
use Rattle.std.proofs.Common.{suc}
use Rattle.squares.specs.declared.shogi.piece.HandKind.{HandKind}
use Rattle.squares.specs.declared.shogi.piece.HandKind.TheVariants as in_hand
use Rattle.squares.specs.declared.shogi.moves.SMove.{SMove}
use Rattle.squares.specs.declared.shogi.moves.SMove.TheVariants.{Step, Drop}
use Rattle.squares.specs.ShogiGeometry.{shogi_number}
use Rattle.sfen.specs.declared.usi_reading.UsiField.{UsiField}
use Rattle.sfen.specs.declared.usi_reading.UsiField.TheVariants as place

-- a digit from 1 to 9, for a file
abbrev pub is_file : ℕ → Bool
is_file c = nat_le 49 c && nat_le c 57

-- a letter from a to i, for a rank
abbrev pub is_rank : ℕ → Bool
is_rank c = nat_le 97 c && nat_le c 105

-- the square of a file digit and a rank letter
abbrev pub square_reading : ℕ → ℕ → Option ℕ
square_reading file rank = if is_file file && is_rank rank then Some (shogi_number (file - 48) (rank - 96)) else None

-- the kind of piece with this capital letter
abbrev pub kind_reading : ℕ → Option HandKind
kind_reading c =
    if c == 82 then Some in_hand.Rook
    else if c == 66 then Some in_hand.Bishop
    else if c == 71 then Some in_hand.Gold
    else if c == 83 then Some in_hand.Silver
    else if c == 78 then Some in_hand.Knight
    else if c == 76 then Some in_hand.Lance
    else if c == 80 then Some in_hand.Pawn
    else None

-- the step between two squares, if both were read
abbrev pub step_of : Option ℕ → Option ℕ → Bool → Option SMove
step_of (Some from) (Some to) promote = Some (Step from to promote)
step_of (Some from) None promote = None
step_of None to promote = None

-- the drop of a kind on a square, if both were read
abbrev pub drop_of : Option HandKind → Option ℕ → Option SMove
drop_of (Some kind) (Some to) = Some (Drop kind to)
drop_of (Some kind) None = None
drop_of None to = None

-- the move that a text denotes
abbrev pub usi_reading : List ℕ → Option SMove
usi_reading (a ∷ b ∷ c ∷ d ∷ []) =
    if b == 42 then drop_of (kind_reading a) (square_reading c d) else step_of (square_reading a b) (square_reading c d)
    false
usi_reading (a ∷ b ∷ c ∷ d ∷ e ∷ []) =
    if e == 43 then step_of (square_reading a b) (square_reading c d) true else None
usi_reading _ = None

-- whether a byte is allowed at a place of a move's text
abbrev pub fits : UsiField → ℕ → Bool
fits place.File c = is_file c
fits place.Rank c = is_rank c
fits place.Plus c = c == 43
fits place.Piece c = is_some (kind_reading c)
fits place.Star c = c == 42

-- the number of leading bytes that match the places
abbrev pub reach : List UsiField → List ℕ → ℕ
reach [] text = 0
reach (p ∷ places) [] = 0
reach (p ∷ places) (c ∷ text) = if fits p c then suc (reach places text) else 0

-- the places of a board move's text
unfoldable pub step_places : List UsiField
step_places = place.File ∷ place.Rank ∷ place.File ∷ place.Rank ∷ place.Plus ∷ []

-- the places of a drop's text: the piece, a `*`, and the file and rank of the square
unfoldable pub drop_places : List UsiField
drop_places = place.Piece ∷ place.Star ∷ place.File ∷ place.Rank ∷ []

-- the length of the longest prefix that can begin a move's text
abbrev pub usi_reach : List ℕ → ℕ
usi_reach text = max (reach step_places text) (reach drop_places text)
