-- The bitboards of a position: each side's pieces, and the kings. No promise of the program rests on these definitions.
use Rattle.std.proofs.Common.{◌≡◌, ℕ, zero, suc, Bool, false, cond, Option, Some, None, List, length, sym, ap, ◌∙◌}
use Rattle.std.proofs.Common.{arith, inl, inr}
use Rattle.std.specs.Prelude.{if◌then◌else◌, map as list_map}
use Rattle.std.specs.List.{range_with_len}
use Rattle.std.specs.Cmp.{nat_cmp_total}
use Rattle.std.specs.FinMap as map
use Rattle.std.specs.FinSet as set
use Rattle.std.specs.FinSet.{nat_cmp-IsAntisymmetric}
use Rattle.std.proofs.lemmas.Bool.{cases_lt}
use Rattle.std.proofs.lemmas.List.{get_or_past}
use Rattle.masks.specs.Words.{Numbers, passing}
use Rattle.masks.specs.internal.Words.{passing-below, passing-at, passing-past}
use Rattle.squares.specs.declared.draughts.piece.DPiece.{DPiece}
use Rattle.squares.specs.declared.sides.Side.TheVariants.{First, Second}
use Rattle.squares.specs.DraughtsBoard.{Board, board_of}
use Rattle.squares.specs.internal.DraughtsBoard.{is_of}
use Rattle.squares.specs.internal.DraughtsCells.{get-board_of, get-board_of-zero}

-- Whether the cell holds a king.
abbrev pub is_king : Option DPiece → Bool
is_king None = false
is_king (Some q) = q.king

-- The set holds exactly the squares whose cell passes the test.
abbrev pub Marks : (Option DPiece → Bool) → Numbers → Board → Type 0
Marks test s board = (q : ℕ) → set.contains s q ≡ test (map.get board q)

-- The content of square n, by the sets of each side's pieces and of the kings.
abbrev pub cell_in : Numbers → Numbers → Numbers → ℕ → Option DPiece
cell_in first second kings n = if set.contains first n
    then Some (record { side = First; king = set.contains kings n })
    else if set.contains second n then Some (record { side = Second; king = set.contains kings n }) else None

-- The fifty cells that these sets describe.
unfoldable pub cells_in : Numbers → Numbers → Numbers → List (Option DPiece)
cells_in first second kings = list_map (cell_in first second kings) (range_with_len 1 50)

-- Fifty cells with the squares of each side's pieces and of the kings.
pub record KeepsCells (cells : List (Option DPiece)) (first second kings : Numbers) : Type 0 where
  pub has_cells : length cells ≡ 50
  pub of_first : Marks (is_of First) first (board_of cells)
  pub of_second : Marks (is_of Second) second (board_of cells)
  pub of_kings : Marks is_king kings (board_of cells)

-- Adds the square to the set if `is_in`, otherwise removes it.
abbrev pub noted : Numbers → ℕ → Bool → Numbers
noted s n is_in = cond is_in (set.insert s n) (set.remove s n)

-- The squares whose cell passes the test.
unfoldable pub squares_where : (Option DPiece → Bool) → Board → Numbers
squares_where test board = set.from_list (passing (λ n. test (map.get board n)) 1 50)

-- The set is recovered from the board.
module _ (test : Option DPiece → Bool) (none : test None ≡ false) (cells : List (Option DPiece)) (s : Numbers)
    (many : length cells ≡ 50) (marks : Marks test s (board_of cells)) where
  each : (q : ℕ) → set.contains (squares_where test (board_of cells)) q ≡ test (map.get (board_of cells) q)
  unfolding squares_where
  each zero =
      set.contains-from_list_nat (passing (λ n. test (map.get (board_of cells) n)) 1 50) 0
      ∙ passing-below (λ n. test (map.get (board_of cells) n)) 1 50 0 (omega arith)
      ∙ sym (ap test (get-board_of-zero cells) ∙ none)
  each (suc k) =
      set.contains-from_list_nat (passing (λ n. test (map.get (board_of cells) n)) 1 50) (suc k)
      ∙ elim (cases_lt k 50) [
        | inl less ↦ passing-at (λ n. test (map.get (board_of cells) n)) 1 50 (suc k) (omega arith) (omega arith)
        | inr past ↦
            passing-past (λ n. test (map.get (board_of cells) n)) 1 50 (suc k) (omega arith)
            ∙ sym (ap test (get-board_of cells (suc k) k (omega arith) ∙ get_or_past cells k None (omega arith)) ∙ none)
      ]

  pub where_back : squares_where test (board_of cells) ≡ s
  where_back = set.same_set nat_cmp_total nat_cmp-IsAntisymmetric _ _ (λ q. each q ∙ sym (marks q))
