-- A diagram of shogi that grows by a square, a rank or a kind in the hand.
use Rattle.std.proofs.Common.{◌≡◌, ◌≢◌, ℕ, ◌+◌, ◌-◌, ◌<◌, ◌≤◌, List, [], ◌∷◌, ◌++◌, length, get_or, drop, sym, ap}
use Rattle.std.proofs.Common.{◌∙◌, append_assoc, append-nil, length-append, arith, Option}
use Rattle.std.specs.FinMap as map
use Rattle.std.proofs.lemmas.List.{at_drop_more, drop_all}
use Rattle.squares.specs.declared.shogi.piece.HandKind.{HandKind}
use Rattle.squares.specs.declared.shogi.piece.SPiece.{SPiece}
use Rattle.squares.specs.declared.shogi.hand.Hand.{Hand}
use Rattle.squares.specs.ShogiBoard.{ShogiBoard}
use Rattle.squares.specs.ShogiGeometry.{shogi_number}
use Rattle.squares.specs.ShogiHands.{count_of}
use Rattle.diagrams.specs.ShogiLines.{squares_text, kinds_text, or_else}
use Rattle.diagrams.proofs.Joined.{parts-more}

-- a square more
pub squares-more : (cell : Option SPiece → List ℕ) (board : ShogiBoard) (rank k : ℕ) (whole text new : List ℕ) → k < 9
    → text ++ squares_text cell board rank (9 - k) ≡ whole
    → new ≡ text ++ cell (map.get board (shogi_number (9 - k) rank))
    → new ++ squares_text cell board rank (9 - (k + 1)) ≡ whole
squares-more cell board rank k whole text new =
    parts-more (λ k left. squares_text cell board rank left) 9 k (cell (map.get board (shogi_number (9 - k) rank)))
    whole text new (λ left e. ap (λ n. cell (map.get board (shogi_number n rank)) ++ squares_text cell board rank left)
    (sym e))

-- no rank more
pub ranks-end : (ranks : ℕ → ℕ → List ℕ) (rank : ℕ) (whole text : List ℕ) → text ++ ranks rank (10 - rank) ≡ whole
    → 10 - rank ≡ 0 → ranks rank 0 ≡ [] → text ≡ whole
ranks-end ranks rank whole text before e none =
    sym (append-nil text) ∙ ap (λ t. text ++ t) (sym none) ∙ sym (ap (λ n. text ++ ranks rank n) e) ∙ before

module _ (held : HandKind → ℕ → List ℕ) (hand : Hand) (kinds : List HandKind) (k : ℕ) where
  -- a kind more of a hand
  pub kinds-more : (d : HandKind) (whole text new : List ℕ) → k < length kinds
      → text ++ kinds_text held hand (drop k kinds) ≡ whole
      → new ≡ text ++ held (get_or kinds k d) (count_of (get_or kinds k d) hand)
      → new ++ kinds_text held hand (drop (k + 1) kinds) ≡ whole
  kinds-more d whole text new h before is =
      ap (λ t. t ++ kinds_text held hand (drop (k + 1) kinds)) is
      ∙ append_assoc text _ _
      ∙ sym (ap (λ t. text ++ t) (at_drop_more (kinds_text held hand) kinds k d h))
      ∙ before

  -- no kind more
  pub kinds-end : (whole text : List ℕ) → length kinds ≤ k → text ++ kinds_text held hand (drop k kinds) ≡ whole
      → text ≡ whole
  kinds-end whole text h before =
      sym (append-nil text) ∙ sym (ap (λ ks. text ++ kinds_text held hand ks) (drop_all k kinds h)) ∙ before

-- a hand that is not empty
pub some-hand : (nothing text held new : List ℕ) → new ≡ text ++ held → length new ≢ length text
    → new ≡ text ++ or_else nothing held
some-hand nothing text [] new is more = absurd (more (ap length (is ∙ append-nil text)))
some-hand nothing text (c ∷ held) new is more = is

-- an empty hand
pub no-hand : (nothing text held new last : List ℕ) → new ≡ text ++ held → length new ≡ length text
    → last ≡ new ++ nothing → last ≡ text ++ or_else nothing held
no-hand nothing text [] new last is same ends = ends ∙ ap (λ t. t ++ nothing) (is ∙ append-nil text)
no-hand nothing text (c ∷ held) new last is same ends =
    let many : length new ≡ length text + length (c ∷ held) = ap length is ∙ length-append text (c ∷ held) in
    absurd (omega (arith, many, same))
