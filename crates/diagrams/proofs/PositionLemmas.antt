-- What a diagram of shogi tells, whatever stands for a hand and a board.
use Rattle.std.proofs.Common.{◌≡◌, ℕ, List, ◌∷◌, ◌++◌, drop, ap}
use Rattle.std.proofs.lemmas.List.{append_cancel_left}
use Rattle.squares.specs.declared.shogi.hand.Hand.{Hand}
use Rattle.squares.specs.ShogiBoard.{ShogiBoard}
use Rattle.squares.specs.ShogiSets.{ShogiPosition}
use Rattle.squares.specs.internal.ShogiSets.{IsShogiPosition}
use Rattle.diagrams.specs.internal.Laws.{KeepsToShogiSquares}
use Rattle.diagrams.proofs.HandLemmas.{IsFew, few-first, few-second}

-- The names of the hands, the texts of a hand and of a board, and what stands behind the hands.
module _ (white black : List ℕ) (hand_text : Hand → List ℕ) (board_text : ShogiBoard → List ℕ)
    (last : ShogiPosition → List ℕ) where
  -- the whole text
  abbrev pub joined : ShogiPosition → List ℕ
  joined p =
      white ++ (hand_text p.hands.second
      ++ (10 ∷ (board_text p.board ++ (black ++ (hand_text p.hands.first ++ (10 ∷ last p))))))

  module _ (IsLineEnd : List ℕ → Type 0)
      (hands-apart : (a b : Hand) (r s : List ℕ) → IsFew a → IsFew b → IsLineEnd r → IsLineEnd s
      → hand_text a ++ r ≡ hand_text b ++ s → (a ≡ b) × (r ≡ s))
      (boards-apart : (a b : ShogiBoard) → KeepsToShogiSquares a → KeepsToShogiSquares b → (r s : List ℕ)
      → board_text a ++ r ≡ board_text b ++ s → (a ≡ b) × (r ≡ s))
      (before-board : (board : ShogiBoard) (more : List ℕ) → IsLineEnd (10 ∷ (board_text board ++ more)))
      (at-end : (p : ShogiPosition) → IsLineEnd (10 ∷ last p)) where
    pub positions-apart : (p q : ShogiPosition) → IsShogiPosition p.board p.hands → IsShogiPosition q.board q.hands
        → KeepsToShogiSquares p.board → KeepsToShogiSquares q.board → (last p ≡ last q → p.turn ≡ q.turn)
        → joined p ≡ joined q → p ≡ q
    positions-apart p q sound_p sound_q on_p on_q turns same =
        let second = hands-apart p.hands.second q.hands.second _ _ (few-second p sound_p) (few-second q sound_q)
        (before-board p.board _) (before-board q.board _) (append_cancel_left white _ _ same) in
        let board = boards-apart p.board q.board on_p on_q _ _ (ap (drop 1) second.1) in
        let first = hands-apart p.hands.first q.hands.first _ _ (few-first p sound_p) (few-first q sound_q) (at-end p)
        (at-end q) (append_cancel_left black _ _ board.1) in
        let turn = turns (ap (drop 1) first.1) in
        λ i. record { board = board.0 i; hands = record { first = first.0 i; second = second.0 i }; turn = turn i }
