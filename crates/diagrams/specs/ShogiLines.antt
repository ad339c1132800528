-- The lines of a shogi diagram, for any text of a square, a rank, or the pieces of a kind.
use Rattle.std.specs.Prelude.{ℕ, zero, suc, List, [], ◌∷◌, ◌++◌, Option}
use Rattle.std.specs.FinMap as map
use Rattle.squares.specs.declared.shogi.piece.HandKind.{HandKind}
use Rattle.squares.specs.declared.shogi.piece.HandKind.TheVariants as in_hand
use Rattle.squares.specs.declared.shogi.piece.SPiece.{SPiece}
use Rattle.squares.specs.declared.shogi.hand.Hand.{Hand}
use Rattle.squares.specs.ShogiBoard.{ShogiBoard}
use Rattle.squares.specs.ShogiGeometry.{shogi_number}
use Rattle.squares.specs.ShogiHands.{count_of}

-- The squares of a rank from a file down to file 1.
abbrev pub squares_text : (Option SPiece → List ℕ) → ShogiBoard → ℕ → ℕ → List ℕ
squares_text cell board rank zero = []
squares_text cell board rank (suc file) =
    cell (map.get board (shogi_number (suc file) rank)) ++ squares_text cell board rank file

-- Consecutive ranks from a rank on.
abbrev pub ranks_text : (ℕ → List ℕ) → ℕ → ℕ → List ℕ
ranks_text rank_at rank zero = []
ranks_text rank_at rank (suc more) = rank_at rank ++ ranks_text rank_at (suc rank) more

-- The pieces of these kinds in a hand.
abbrev pub kinds_text : (HandKind → ℕ → List ℕ) → Hand → List HandKind → List ℕ
kinds_text held hand [] = []
kinds_text held hand (kind ∷ kinds) = held kind (count_of kind hand) ++ kinds_text held hand kinds

-- The kinds in the order in which hands are written.
unfoldable pub hand_kinds : List HandKind
hand_kinds = in_hand.Rook ∷ in_hand.Bishop ∷ in_hand.Gold ∷ in_hand.Silver ∷ in_hand.Knight ∷ in_hand.Lance
    ∷ in_hand.Pawn ∷ []

-- The given text in place of an empty one.
abbrev pub or_else : List ℕ → List ℕ → List ℕ
or_else nothing [] = nothing
or_else nothing (c ∷ text) = c ∷ text
