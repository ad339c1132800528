-- How many squares pass a test is the size of the set of those that do.
use Rattle.std.proofs.Common.{◌≡◌, ℕ, ◌<◌, ◌⊎◌, inl, inr, Bool, false, ◌&&◌, Option, Some, None, refl, sym, ◌∙◌, arith}
use Rattle.std.specs.Prelude.{count_by}
use Rattle.std.specs.List.{range_with_len}
use Rattle.std.specs.FinSet as set
use Rattle.std.proofs.lemmas.Bool.{cases_lt, false≢true}
use Rattle.squares.specs.declared.draughts.piece.DPiece.{DPiece}
use Rattle.squares.specs.declared.sides.Side.{Side}
use Rattle.squares.specs.internal.DraughtsBoard.{is_of}
use Rattle.squares.specs.internal.DraughtsGeometry.{OnBoard}
use Rattle.squares.specs.internal.DraughtsKept.{is_king}
use Rattle.squares.specs.DraughtsSets.{Squares}
use Rattle.draughts_moves.specs.internal.Counting.{count_squares}
use Rattle.draughts_moves.proofs.Proved as moves
use Rattle.draughts_draws.specs.Ends.{is_piece_of, is_king_of}

-- a set of squares of the board that has those that pass a test
pub len-counts : (s : Squares) (test : ℕ → Bool) → ((n : ℕ) → set.contains s n ≡ test n)
    → ((n : ℕ) → (n < 1) ⊎ (50 < n) → test n ≡ false) → set.len s ≡ count_by test (range_with_len 1 50)
unfolding count_squares
len-counts s test is off =
    moves.len-counted s
    (λ n inside. let never : (n < 1) ⊎ (50 < n) → OnBoard n = λ past. absurd (false≢true (sym (off n past) ∙ sym (is n) ∙ inside)) in
    elim (cases_lt n 1) [
      | inl less ↦ never (inl less)
      | inr least ↦
          elim (cases_lt 50 n) [ inl past ↦ never (inr past) | inr most ↦ (omega (arith, least), omega (arith, most)) ]
    ]) ∙ (λ i. count_by (λ n. is n i) (range_with_len 1 50))

pub piece_is : (side : Side) (o : Option DPiece) → is_of side o ≡ is_piece_of side o
piece_is side None = refl
piece_is side (Some piece) = refl

pub king_is : (side : Side) (o : Option DPiece) → (is_of side o && is_king o) ≡ is_king_of side o
king_is side None = refl
king_is side (Some piece) = refl
