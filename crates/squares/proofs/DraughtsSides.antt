-- The squares of a side's pieces, gathered cell by cell.
use Rattle.std.proofs.Common.{◌≡◌, ℕ, zero, suc, ◌+◌, ◌<◌, ◌≤◌, true, false, ◌||◌, ◌⊎◌, inl, inr, nat_eq, Option, None}
use Rattle.std.proofs.Common.{List, length, get_or, refl, sym, ap, ◌∙◌, arith}
use Rattle.std.specs.FinMap as map
use Rattle.std.specs.FinSet as set
use Rattle.std.specs.Ordering.{nat_cmp}
use Rattle.std.proofs.lemmas.Bool.{cases_eq, cases_lt}
use Rattle.std.proofs.lemmas.List.{get_or_past}
use Rattle.squares.specs.declared.draughts.piece.DPiece.{DPiece}
use Rattle.squares.specs.declared.sides.Side.{Side}
use Rattle.squares.specs.DraughtsBoard.{board_of}
use Rattle.squares.specs.internal.DraughtsBoard.{is_of}
use Rattle.squares.specs.DraughtsSets.{Squares}
use Rattle.squares.specs.internal.DraughtsCells.{get-board_of, get-board_of-zero}
use Rattle.squares.specs.internal.DraughtsMarks.{contains-insert_nat, nat_eq_same, nat_eq_other}

-- of the first i squares, the set has those of the side, and no other
pub record HasFirst (side : Side) (cells : List (Option DPiece)) (i : ℕ) (s : Squares) : Type 0 where
  pub seen : (k : ℕ) → k < i → set.contains s (k + 1) ≡ is_of side (get_or cells k None)
  pub ahead : (n : ℕ) → ((n ≡ 0) ⊎ (i < n)) → set.contains s n ≡ false

module _ (side : Side) (cells : List (Option DPiece)) where
  pub first-none : HasFirst side cells 0 set.empty
  first-none = record { seen = λ k h. absurd (omega arith); ahead = λ n h. set.contains-empty nat_cmp n }

  module _ (i : ℕ) (s : Squares) (h : HasFirst side cells i s) where
    pub first-same : is_of side (get_or cells i None) ≡ false → HasFirst side cells (i + 1) s
    first-same none =
        record {
          seen = λ k less. elim (cases_eq k i) [
            | inl e ↦ h.ahead (k + 1) (inr (omega arith)) ∙ sym (ap (λ j. is_of side (get_or cells j None)) e ∙ none)
            | inr d ↦ h.seen k (omega arith)
          ];
          ahead = λ n far. elim far [ inl e ↦ h.ahead n (inl e) | inr more ↦ h.ahead n (inr (omega arith)) ];
        }

    other : (n q : ℕ) → (nat_eq q n ≡ false) → set.contains (set.insert s n) q ≡ set.contains s q
    other n q e = contains-insert_nat s n q ∙ ap (λ b. b || set.contains s q) e

    pub first-more : (n : ℕ) → n ≡ i + 1 → is_of side (get_or cells i None) ≡ true
        → HasFirst side cells (i + 1) (set.insert s n)
    first-more n is one =
        record {
          seen = λ k less. elim (cases_eq k i) [
            | inl e ↦ contains-insert_nat s n (k + 1)
                ∙ ap (λ b. b || set.contains s (k + 1)) (nat_eq_same (k + 1) n (omega arith))
                ∙ sym (ap (λ j. is_of side (get_or cells j None)) e ∙ one)
            | inr d ↦ other n (k + 1) (nat_eq_other (k + 1) n (λ same. d (omega arith))) ∙ h.seen k (omega arith)
          ];
          ahead = λ q far. elim far [
            | inl e ↦ other n q (nat_eq_other q n (λ same. omega arith)) ∙ h.ahead q (inl e)
            | inr more ↦ other n q (nat_eq_other q n (λ same. omega arith)) ∙ h.ahead q (inr (omega arith))
          ];
        }

  pub first-all : (i : ℕ) (s : Squares) → length cells ≤ i → HasFirst side cells i s → (n : ℕ)
      → set.contains s n ≡ is_of side (map.get (board_of cells) n)
  first-all i s all h zero = h.ahead 0 (inl refl) ∙ sym (ap (is_of side) (get-board_of-zero cells))
  first-all i s all h (suc k) =
      elim (cases_lt k i) [
        | inl less ↦ (let is : suc k ≡ k + 1 = omega arith in ap (set.contains s) is) ∙ h.seen k less
            ∙ sym (ap (is_of side) (get-board_of cells (suc k) k (omega arith)))
        | inr past ↦ h.ahead (suc k) (inr (omega arith))
            ∙ sym
            (ap (is_of side) (get-board_of cells (suc k) k (omega arith) ∙ get_or_past cells k None (omega arith)))
      ]
