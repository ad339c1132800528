-- Properties of the writers: a written text denotes the position or move that it was written for. No promise of the
-- program rests on these definitions.
use Rattle.std.specs.Prelude.{◌≡◌, ◌≤◌, ◌↔◌, ℕ, List, [], ◌∷◌, Some, None}
use Rattle.squares.specs.declared.shogi.moves.SMove.{SMove}
use Rattle.squares.specs.ShogiBoard.{ShogiBoard}
use Rattle.squares.specs.ShogiSets.{ShogiPosition}
use Rattle.squares.specs.internal.ShogiSets.{IsShogiPosition}
use Rattle.sfen.specs.SfenGrammar.{rank_cells}
use Rattle.sfen.specs.internal.SfenGrammar.{RankItem, Gap, Stands, AreRankItems, IsOnSquares, IsSfenText}
use Rattle.sfen.specs.SfenText.{rank_text, position_text}
use Rattle.sfen.specs.internal.SfenText.{sfen_text}
use Rattle.sfen.specs.UsiText.{usi_text}
use Rattle.sfen.specs.internal.UsiText.{IsOnBoard, IsUsiText, IsNoUsi}
use Rattle.sfen.specs.UsiReading.{usi_reading, usi_reach}

-- The text written for a position denotes the position and the move number.
abbrev pub WritesPositions : Type 0
WritesPositions = (p : ShogiPosition) (number : ℕ) → IsShogiPosition p.board p.hands → IsOnSquares p.board → 1 ≤ number
    → number ≤ 9999 → IsSfenText (sfen_text p number) p number

-- The text written without a move number denotes the position with the number 1.
abbrev pub WritesPositionsAlone : Type 0
WritesPositionsAlone =
    (p : ShogiPosition) → IsShogiPosition p.board p.hands → IsOnSquares p.board → IsSfenText (position_text p) p 1

-- no two runs of empty squares are adjacent, so each run is maximal
abbrev pub HasGreatestRuns : List RankItem → Type 0
HasGreatestRuns [] = Unit {0}
HasGreatestRuns (Stands piece ∷ items) = HasGreatestRuns items
HasGreatestRuns (Gap n ∷ []) = Unit {0}
HasGreatestRuns (Gap n ∷ Gap m ∷ items) = ⊥
HasGreatestRuns (Gap n ∷ Stands piece ∷ items) = HasGreatestRuns items

-- A rank is written with maximal runs of empty squares.
abbrev pub WritesGreatestRuns : Type 0
WritesGreatestRuns = (board : ShogiBoard) (rank : ℕ) → (items : List RankItem)
    × AreRankItems items (rank_cells board rank) (rank_text board rank) × HasGreatestRuns items

-- The text written for a move on the board is read as that move.
abbrev pub ReadsMovesBack : Type 0
ReadsMovesBack = (m : SMove) → IsOnBoard m → usi_reading (usi_text m) ≡ Some m

-- A text is read as a move exactly if it is that move's text.
abbrev pub ReadsMoveTexts : Type 0
ReadsMoveTexts = (text : List ℕ) (m : SMove) → (usi_reading text ≡ Some m) ↔ IsUsiText text m

-- A text denotes at most one move.
abbrev pub HasOneMove : Type 0
HasOneMove = (text : List ℕ) (a b : SMove) → IsUsiText text a → IsUsiText text b → a ≡ b

-- A text that denotes no move is refused at exactly one offset.
abbrev pub HasOneOffset : Type 0
HasOneOffset = (text : List ℕ) (bytes : ℕ) → IsNoUsi text bytes ↔ ((usi_reading text ≡ None) × (usi_reach text ≡ bytes))
