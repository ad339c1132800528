-- What the ranks of a diagram of shogi tell, whatever stands for a square and a rank.
use Rattle.std.proofs.Common.{◌≡◌, ℕ, zero, suc, ◌+◌, ◌/◌, ◌%◌, ◌<◌, ◌≤◌, List, ◌++◌, drop, Option, sym, ap}
use Rattle.std.proofs.Common.{◌∙◌, arith, inl, inr, append_assoc}
use Rattle.std.specs.Cmp.{nat_cmp_total}
use Rattle.std.specs.FinMap as map
use Rattle.std.specs.FinMap.{nat_cmp-IsAntisymmetric}
use Rattle.std.proofs.lemmas.Bool.{cases_lt}
use Rattle.std.proofs.lemmas.List.{append_cancel_left}
use Rattle.squares.specs.declared.shogi.piece.SPiece.{SPiece}
use Rattle.squares.specs.ShogiBoard.{ShogiBoard}
use Rattle.squares.specs.ShogiGeometry.{shogi_number}
use Rattle.diagrams.specs.internal.Laws.{KeepsToShogiSquares}
use Rattle.diagrams.specs.ShogiLines.{squares_text, ranks_text}

-- A square's text, from which its piece is read, and a rank's text.
module _ (cell : Option SPiece → List ℕ) (read : List ℕ → Option SPiece) (width : ℕ)
    (reads : (piece : Option SPiece) (r : List ℕ)
    → (read (cell piece ++ r) ≡ piece) × (drop width (cell piece ++ r) ≡ r))
    (rank_text : ShogiBoard → ℕ → List ℕ) (before : List ℕ) (after : ℕ → List ℕ)
    (rank_is : (board : ShogiBoard) (rank : ℕ) (r : List ℕ)
    → rank_text board rank ++ r ≡ before ++ (squares_text cell board rank 9 ++ (after rank ++ r)))
    (a b : ShogiBoard) where
  -- the same stands on the squares of a rank up to that file
  SameTo : ℕ → ℕ → Type 0
  SameTo rank many = (file : ℕ) → file < many
      → map.get a (shogi_number (suc file) rank) ≡ map.get b (shogi_number (suc file) rank)

  squares-apart : (rank many : ℕ) (r s : List ℕ)
      → squares_text cell a rank many ++ r ≡ squares_text cell b rank many ++ s → SameTo rank many × (r ≡ s)
  unfolding SameTo
  squares-apart rank zero r s e = (λ file low. absurd (omega (arith, low)), e)
  squares-apart rank (suc many) r s e =
      let ca : Option SPiece = map.get a (shogi_number (suc many) rank) in
      let cb : Option SPiece = map.get b (shogi_number (suc many) rank) in
      let ra = reads ca (squares_text cell a rank many ++ r) in
      let rb = reads cb (squares_text cell b rank many ++ s) in
      let is = sym (append_assoc (cell ca) _ r) ∙ e ∙ append_assoc (cell cb) _ s in
      let more = squares-apart rank many r s (sym ra.1 ∙ ap (drop width) is ∙ rb.1) in (
        λ file low. elim (cases_lt file many) [
          | inl less ↦ more.0 file less
          | inr past ↦ let at : file ≡ many = omega (arith, low) in rw at (sym ra.0 ∙ ap read is ∙ rb.0)
        ],
        more.1,
      )

  ranks-apart : (rank more : ℕ) (r s : List ℕ)
      → ranks_text (rank_text a) rank more ++ r ≡ ranks_text (rank_text b) rank more ++ s
      → ((k : ℕ) → rank ≤ k → k < rank + more → SameTo k 9) × (r ≡ s)
  ranks-apart rank zero r s e = (λ k low high. absurd (omega (arith, low, high)), e)
  ranks-apart rank (suc more) r s e =
      let ta : List ℕ = ranks_text (rank_text a) (suc rank) more ++ r in
      let tb : List ℕ = ranks_text (rank_text b) (suc rank) more ++ s in
      let is = sym (append_assoc (rank_text a rank) _ r) ∙ e ∙ append_assoc (rank_text b rank) _ s in
      let one = squares-apart rank 9 (after rank ++ ta) (after rank ++ tb)
      (append_cancel_left before _ _ (sym (rank_is a rank ta) ∙ is ∙ rank_is b rank tb)) in
      let others = ranks-apart (suc rank) more r s (append_cancel_left (after rank) ta tb one.1) in (
        λ k low high. elim (cases_lt rank k) [
          | inl less ↦ others.0 k (omega arith) (omega (arith, high))
          | inr past ↦ let at : k ≡ rank = omega (arith, low) in rw at one.0
        ],
        others.1,
      )

  pub boards-apart : KeepsToShogiSquares a → KeepsToShogiSquares b → (r s : List ℕ)
      → ranks_text (rank_text a) 1 9 ++ r ≡ ranks_text (rank_text b) 1 9 ++ s → (a ≡ b) × (r ≡ s)
  unfolding SameTo
  boards-apart on_a on_b r s e =
      let cut = ranks-apart 1 9 r s e in
      let each : (n : ℕ) → map.get a n ≡ map.get b n = λ n. elim (cases_lt n 81) [
        | inl less ↦ let is : shogi_number (suc (n / 9)) (n % 9 + 1) ≡ n = omega arith in
            sym (ap (map.get a) is)
            ∙ cut.0 (n % 9 + 1) (omega arith) (omega arith) (n / 9) (omega (arith, less))
            ∙ ap (map.get b) is
        | inr past ↦ on_a n (omega arith) ∙ sym (on_b n (omega arith))
      ] in
      (map.same_map nat_cmp_total nat_cmp-IsAntisymmetric a b each, cut.1)
