-- The diagram of a shogi position: White's hand, the numbers of the files, nine ranks, Black's hand.
use Rattle.std.specs.Prelude.{ℕ, zero, suc, ◌+◌, List, [], ◌∷◌, ◌++◌, codes, Option}
use Rattle.std.specs.Fmt.{decimal}
use Rattle.squares.specs.declared.shogi.piece.HandKind.{HandKind}
use Rattle.squares.specs.declared.shogi.piece.SPiece.{SPiece}
use Rattle.squares.specs.declared.shogi.hand.Hand.{Hand}
use Rattle.squares.specs.ShogiBoard.{ShogiBoard}
use Rattle.squares.specs.ShogiPieces.{on_board}
use Rattle.squares.specs.ShogiSets.{ShogiPosition}
use Rattle.diagrams.specs.ShogiLines as lines
use Rattle.diagrams.specs.ShogiLines.{hand_kinds}
use Rattle.diagrams.specs.ShogiLetters.{capital, cell_mark, cell_letter}

-- A square, right-aligned in three columns.
abbrev pub cell_text : Option SPiece → List ℕ
cell_text cell = 32 ∷ cell_mark cell ∷ cell_letter cell ∷ []

-- The squares of a rank from a file down to file 1.
abbrev pub squares_text : ShogiBoard → ℕ → ℕ → List ℕ
squares_text = lines.squares_text cell_text

-- A rank, its letter (`a` for rank 1), and the line end.
unfoldable pub rank_text : ShogiBoard → ℕ → List ℕ
rank_text board rank = squares_text board rank 9 ++ (32 ∷ (96 + rank) ∷ 10 ∷ [])

-- Consecutive ranks from a rank on.
abbrev pub ranks_text : ShogiBoard → ℕ → ℕ → List ℕ
ranks_text board = lines.ranks_text (rank_text board)

-- The line with the numbers of the files.
unfoldable pub heading : List ℕ
heading = codes "  9  8  7  6  5  4  3  2  1\n"

-- The lines of the board: the numbers of the files, and nine ranks.
unfoldable pub board_text : ShogiBoard → List ℕ
board_text board = heading ++ ranks_text board 1 9

-- The pieces of a letter: the letter, and the count if above 1.
abbrev pub held_text : ℕ → ℕ → List ℕ
held_text letter zero = []
held_text letter (suc zero) = 32 ∷ letter ∷ []
held_text letter (suc (suc n)) = 32 ∷ letter ∷ decimal (suc (suc n))

-- The pieces of these kinds in a hand.
abbrev pub kinds_text : Hand → List HandKind → List ℕ
kinds_text = lines.kinds_text (λ kind n. held_text (capital (on_board kind)) n)

-- this text of a hand, or a hyphen if it is empty
abbrev pub or_hyphen : List ℕ → List ℕ
or_hyphen = lines.or_else (32 ∷ 45 ∷ [])

-- The pieces in a hand, or a hyphen for an empty one.
unfoldable pub hand_text : Hand → List ℕ
hand_text hand = or_hyphen (kinds_text hand hand_kinds)

-- The line of a hand.
abbrev pub hand_line : List ℕ → Hand → List ℕ
hand_line name hand = name ++ (hand_text hand ++ (10 ∷ []))

-- The diagram of a position.
unfoldable pub shogi_text : ShogiPosition → List ℕ
shogi_text p =
    hand_line (codes "White:") p.hands.second ++ (board_text p.board ++ hand_line (codes "Black:") p.hands.first)
