-- The written SFEN of a position.
use Rattle.std.specs.Prelude.{ℕ, zero, suc, ◌+◌, List, [], ◌∷◌, ◌++◌, Option, Some, None}
use Rattle.std.specs.Fmt.{decimal}
use Rattle.squares.specs.declared.sides.Side.{Side}
use Rattle.squares.specs.declared.sides.Side.TheVariants.{First, Second}
use Rattle.squares.specs.declared.shogi.piece.HandKind.{HandKind}
use Rattle.squares.specs.declared.shogi.piece.HandKind.TheVariants as in_hand
use Rattle.squares.specs.declared.shogi.piece.SPiece.{SPiece}
use Rattle.squares.specs.declared.shogi.hand.Hand.{Hand}
use Rattle.squares.specs.declared.shogi.hand.Hands.{Hands}
use Rattle.squares.specs.ShogiBoard.{ShogiBoard}
use Rattle.squares.specs.ShogiHands.{count_of}
use Rattle.squares.specs.ShogiPieces.{on_board}
use Rattle.squares.specs.ShogiSets.{ShogiPosition}
use Rattle.sfen.specs.Letters.{letter, piece_text, turn_letter}
use Rattle.sfen.specs.SfenGrammar.{rank_cells}

-- a run of empty squares: its length, or nothing if it is 0
abbrev pub gap_text : ℕ → List ℕ
gap_text zero = []
gap_text (suc n) = (48 + suc n) ∷ []

-- The text of consecutive squares after a run of `gap` empty ones. A run is written before a piece or the end, so no
-- two digits are adjacent.
abbrev pub cells_text : ℕ → List (Option SPiece) → List ℕ
cells_text gap [] = gap_text gap
cells_text gap (None ∷ cells) = cells_text (suc gap) cells
cells_text gap (Some piece ∷ cells) = gap_text gap ++ (piece_text piece ++ cells_text 0 cells)

-- a rank, from file 9 to file 1
unfoldable pub rank_text : ShogiBoard → ℕ → List ℕ
rank_text board rank = cells_text 0 (rank_cells board rank)

-- this many ranks from the given one on, each after a `/`
abbrev pub more_ranks : ShogiBoard → ℕ → ℕ → List ℕ
more_ranks board rank zero = []
more_ranks board rank (suc more) = 47 ∷ (rank_text board rank ++ more_ranks board (suc rank) more)

-- the nine ranks
unfoldable pub board_text : ShogiBoard → List ℕ
board_text board = rank_text board 1 ++ more_ranks board 2 8

-- pieces of a side and a kind in hand: the count if it exceeds 1, and the letter
abbrev pub held_text : Side → HandKind → ℕ → List ℕ
held_text side kind zero = []
held_text side kind (suc zero) = letter side (on_board kind) ∷ []
held_text side kind count = decimal count ++ letter side (on_board kind) ∷ []

-- the pieces of these kinds in a side's hand
abbrev pub kinds_text : Side → Hand → List HandKind → List ℕ
kinds_text side hand [] = []
kinds_text side hand (kind ∷ kinds) = held_text side kind (count_of kind hand) ++ kinds_text side hand kinds

-- the order of kinds in which a hand is written
unfoldable pub hand_kinds : List HandKind
hand_kinds = in_hand.Rook ∷ in_hand.Bishop ∷ in_hand.Gold ∷ in_hand.Silver ∷ in_hand.Knight ∷ in_hand.Lance
    ∷ in_hand.Pawn ∷ []

-- a hyphen for the empty text
abbrev pub or_hyphen : List ℕ → List ℕ
or_hyphen [] = 45 ∷ []
or_hyphen (c ∷ text) = c ∷ text

-- First's hand and Second's hand, or a hyphen if both are empty
unfoldable pub hands_text : Hands → List ℕ
hands_text hands = or_hyphen (kinds_text First hands.first hand_kinds ++ kinds_text Second hands.second hand_kinds)

-- the board, the side to move and the hands, separated by spaces
unfoldable pub position_text : ShogiPosition → List ℕ
position_text p = board_text p.board ++ (32 ∷ turn_letter p.turn ∷ 32 ∷ hands_text p.hands)
