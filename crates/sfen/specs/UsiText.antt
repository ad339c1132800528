-- The text of a move in USI notation: the squares of a board move, with `+` for a promotion; or the letter of a dropped
-- piece, `*` and its square.
use Rattle.std.specs.Prelude.{ℕ, ◌+◌, Bool, true, false, List, [], ◌∷◌, ◌++◌}
use Rattle.squares.specs.declared.shogi.moves.SMove.{SMove}
use Rattle.squares.specs.declared.shogi.moves.SMove.TheVariants.{Step, Drop}
use Rattle.squares.specs.ShogiGeometry.{file_of, rank_of}
use Rattle.squares.specs.ShogiPieces.{on_board}
use Rattle.sfen.specs.Letters.{capital}

-- a square: its file digit and its rank letter, `a` for the first rank
abbrev pub square_text : ℕ → List ℕ
square_text n = (48 + file_of n) ∷ (96 + rank_of n) ∷ []

-- a `+` if the piece promotes
abbrev pub promotion_text : Bool → List ℕ
promotion_text true = 43 ∷ []
promotion_text false = []

-- the text of a move
abbrev pub usi_text : SMove → List ℕ
usi_text (Step from to promote) = square_text from ++ (square_text to ++ promotion_text promote)
usi_text (Drop kind to) = capital (on_board kind) ∷ 42 ∷ square_text to
