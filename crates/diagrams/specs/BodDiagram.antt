-- The BOD diagram of a shogi position.
use Rattle.std.specs.Prelude.{ℕ, zero, suc, List, [], ◌++◌, codes}
use Rattle.std.proofs.Math.Utf8.{encodes}
use Rattle.squares.specs.declared.sides.Side.{Side}
use Rattle.squares.specs.declared.sides.Side.TheVariants.{First, Second}
use Rattle.squares.specs.declared.shogi.piece.HandKind.{HandKind}
use Rattle.squares.specs.declared.shogi.hand.Hand.{Hand}
use Rattle.squares.specs.ShogiBoard.{ShogiBoard}
use Rattle.squares.specs.ShogiPieces.{on_board, demoted}
use Rattle.squares.specs.ShogiSets.{ShogiPosition}
use Rattle.diagrams.specs.BodNames.{role_name, digit_name, count_name, cell_text, wide_blank, nothing}
use Rattle.diagrams.specs.ShogiLines as lines
use Rattle.diagrams.specs.ShogiLines.{hand_kinds}

-- The squares of a rank from a file down to file 1.
abbrev pub squares_text : ShogiBoard → ℕ → ℕ → List ℕ
squares_text = lines.squares_text cell_text

-- A rank between bars, and its numeral.
unfoldable pub rank_text : ShogiBoard → ℕ → List ℕ
rank_text board rank =
    codes "|" ++ (squares_text board rank 9 ++ (codes "|" ++ (digit_name rank ++ codes "\n")))

-- Consecutive ranks from a rank on.
abbrev pub ranks_text : ShogiBoard → ℕ → ℕ → List ℕ
ranks_text board = lines.ranks_text (rank_text board)

-- The line with the numbers of the files.
unfoldable pub heading : List ℕ
heading = encodes (codes "  ９ ８ ７ ６ ５ ４ ３ ２ １\n")

-- The edge of the board.
unfoldable pub border : List ℕ
border = codes "+---------------------------+\n"

-- The lines of the board: the numbers of the files, and nine ranks between two edges.
unfoldable pub board_text : ShogiBoard → List ℕ
board_text board = heading ++ (border ++ (ranks_text board 1 9 ++ border))

-- The pieces of a kind: the kind, the count if above 1, and a wide space.
abbrev pub held_text : HandKind → ℕ → List ℕ
held_text kind zero = []
held_text kind (suc n) = role_name (demoted (on_board kind)) ++ (count_name (suc n) ++ wide_blank)

-- The pieces of these kinds in a hand.
abbrev pub kinds_text : Hand → List HandKind → List ℕ
kinds_text = lines.kinds_text held_text

-- this text of a hand, or the one of an empty hand if it is empty
abbrev pub or_none : List ℕ → List ℕ
or_none = lines.or_else nothing

-- The pieces in a hand, or the words for an empty one.
unfoldable pub hand_text : Hand → List ℕ
hand_text hand = or_none (kinds_text hand hand_kinds)

-- The words before a side's hand: the pieces in hand of Black (sente) or White (gote).
abbrev pub hand_name : Side → List ℕ
hand_name First = encodes (codes "先手の持駒：")
hand_name Second = encodes (codes "後手の持駒：")

-- The line of a side's hand.
abbrev pub hand_line : Side → Hand → List ℕ
hand_line side hand = hand_name side ++ (hand_text hand ++ codes "\n")

-- The line that says that White is to move; empty if Black is.
abbrev pub turn_line : Side → List ℕ
turn_line First = []
turn_line Second = encodes (codes "後手番\n")

-- The BOD diagram of a position.
unfoldable pub bod_text : ShogiPosition → List ℕ
bod_text p =
    hand_line Second p.hands.second
    ++ (board_text p.board ++ (hand_line First p.hands.first ++ turn_line p.turn))
