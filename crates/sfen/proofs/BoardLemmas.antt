-- Boards that are filled square by square: rank after rank, and in each from file 9 down.
use Rattle.std.proofs.Common.{◌≡◌, ◌≢◌, ℕ, zero, suc, ◌+◌, ◌-◌, ◌*◌, ◌<◌, ◌≤◌, inl, inr, cond, List, ◌∷◌, ◌++◌, Option}
use Rattle.std.proofs.Common.{Some, None, refl, sym, ap, ◌∙◌, arith}
use Rattle.std.proofs.lemmas.Bool.{cases_eq, cases_lt}
use Rattle.std.specs.Ordering.{nat_cmp}
use Rattle.std.specs.Cmp.{nat_cmp_total, unsigned_tied}
use Rattle.std.specs.FinMap as map
use Rattle.std.specs.FinMap.{nat_cmp-IsAntisymmetric}
use Rattle.squares.specs.internal.DraughtsMarks.{nat_eq_same, nat_eq_other}
use Rattle.squares.specs.declared.shogi.piece.SPiece.{SPiece}
use Rattle.squares.specs.ShogiBoard.{ShogiBoard}
use Rattle.squares.specs.ShogiGeometry.{shogi_number, file_of, rank_of}
use Rattle.squares.specs.internal.ShogiGeometry.{OnShogiBoard}
use Rattle.sfen.specs.SfenGrammar.{cells_from}
use Rattle.sfen.specs.internal.SfenGrammar.{IsOnSquares, empty_cells}

-- Where a rank has so many files left, a square is passed or is ahead: squares in their order have rising numbers.
abbrev Passed : ℕ → ℕ → ℕ → ℕ → Type 0
Passed rank left f k = 9 * k + left < 9 * rank + f

abbrev Ahead : ℕ → ℕ → ℕ → ℕ → Type 0
Ahead rank left f k = 9 * rank + f ≤ 9 * k + left

abbrev pub at : ShogiBoard → ℕ → ℕ → Option SPiece
at board file rank = map.get board (shogi_number file rank)

-- on the squares that are passed the whole board holds what the board so far holds
pub record Keeps (rank left : ℕ) (whole board : ShogiBoard) : Type 0 where
  pub same : (f k : ℕ) → OnShogiBoard f k → Passed rank left f k → at whole f k ≡ at board f k

-- on the squares ahead the board so far holds nothing
pub record Fresh (rank left : ℕ) (board : ShogiBoard) : Type 0 where
  pub on_squares : IsOnSquares board
  pub none : (f k : ℕ) → OnShogiBoard f k → Ahead rank left f k → at board f k ≡ None

get-put : (board : ShogiBoard) (n q : ℕ) (piece : SPiece) → q ≡ n → map.get (map.insert board n piece) q ≡ Some piece
get-put board n q piece e =
    map.get-insert nat_cmp_total board n piece q
    ∙ ap (λ b. cond b (Some piece) (map.get board q)) (unsigned_tied q n ∙ nat_eq_same q n e)

get-other : (board : ShogiBoard) (n q : ℕ) (piece : SPiece) → q ≢ n
    → map.get (map.insert board n piece) q ≡ map.get board q
get-other board n q piece e =
    map.get-insert nat_cmp_total board n piece q
    ∙ ap (λ b. cond b (Some piece) (map.get board q)) (unsigned_tied q n ∙ nat_eq_other q n e)

-- A piece put on the next square, where the rank has one file less then.
module _ (rank left : ℕ) (piece : SPiece) (board : ShogiBoard) (on : OnShogiBoard left rank) where
  other : (f k : ℕ) → shogi_number f k ≢ shogi_number left rank
      → at (map.insert board (shogi_number left rank) piece) f k ≡ at board f k
  other f k differs = get-other board (shogi_number left rank) (shogi_number f k) piece differs

  pub fresh-put : Fresh rank left board → Fresh rank (left - 1) (map.insert board (shogi_number left rank) piece)
  fresh-put h =
      record {
        on_squares = λ n off. get-other board (shogi_number left rank) n piece
            (λ e. absurd (omega (arith, off, on.0.1, on.1.1, e))) ∙ h.on_squares n off;
        none = λ f k here ahead. other f k (λ e. absurd (omega (arith, here, on))) ∙ h.none f k here (omega arith);
      }

  module _ (whole : ShogiBoard) where
    pub keeps-unput : Keeps rank (left - 1) whole (map.insert board (shogi_number left rank) piece)
        → Keeps rank left whole board
    keeps-unput h =
        record {
          same = λ f k here passed. h.same f k here (omega arith) ∙ other f k (λ e. absurd (omega (arith, here, on)));
        }

    pub stands-put : Keeps rank (left - 1) whole (map.insert board (shogi_number left rank) piece)
        → at whole left rank ≡ Some piece
    stands-put h = h.same left rank on (omega (arith, on.0.0))
        ∙ get-put board (shogi_number left rank) (shogi_number left rank) piece refl

    pub keeps-put : Keeps rank left whole board → at whole left rank ≡ Some piece
        → Keeps rank (left - 1) whole (map.insert board (shogi_number left rank) piece)
    keeps-put h stands =
        record {
          same = λ f k here passed. elim (cases_eq (shogi_number f k) (shogi_number left rank)) [
            | inl square ↦ ap (map.get whole) square ∙ stands ∙ sym
                (get-put board (shogi_number left rank) (shogi_number f k) piece square)
            | inr differs ↦ h.same f k here (omega (arith, here, on)) ∙ sym (other f k differs)
          ];
        }

-- What holds of squares holds of fewer.
module _ (rank left other_rank other_left : ℕ) (board : ShogiBoard) where
  pub fresh-on : Fresh rank left board → 9 * rank + other_left ≤ 9 * other_rank + left
      → Fresh other_rank other_left board
  fresh-on h less = record { on_squares = h.on_squares; none = λ f k here ahead. h.none f k here (omega arith) }

  pub keeps-on : (whole : ShogiBoard) → Keeps rank left whole board → 9 * other_rank + left ≤ 9 * rank + other_left
      → Keeps other_rank other_left whole board
  keeps-on whole h less = record { same = λ f k here passed. h.same f k here (omega arith) }

-- So many empty squares passed.
module _ (rank left n : ℕ) (board : ShogiBoard) (within : n ≤ left) where
  module _ (whole : ShogiBoard) where
    -- they are empty on the whole board too
    pub none-gap : Keeps rank (left - n) whole board → Fresh rank left board → (1 ≤ rank) → rank ≤ 9 → left ≤ 9
        → (f : ℕ) → left - n < f → f ≤ left → at whole f rank ≡ None
    none-gap h fresh low high most f above below =
        let on : OnShogiBoard f rank = ((omega arith, omega arith), (low, high)) in
        h.same f rank on (omega arith) ∙ fresh.none f rank on (omega arith)

    pub keeps-gap : left ≤ 9 → Keeps rank left whole board → Fresh rank left board
        → ((f : ℕ) → left - n < f → f ≤ left → at whole f rank ≡ None) → Keeps rank (left - n) whole board
    keeps-gap most h fresh none =
        record {
          same = λ f k here passed. elim (cases_lt (9 * k + left) (9 * rank + f)) [
            | inl before ↦ h.same f k here before
            | inr ahead ↦
                let this : k ≡ rank = omega (arith, here) in
                ap (at whole f) this ∙ none f (omega arith) (omega arith) ∙ sym (fresh.none f k here ahead)
          ];
        }

pub fresh-nothing : (rank left : ℕ) → Fresh rank left map.empty
fresh-nothing rank left = record {
  on_squares = λ n off. map.get-empty nat_cmp n;
  none = λ f k here ahead. map.get-empty nat_cmp (shogi_number f k);
}

pub keeps-empty : (whole : ShogiBoard) → Keeps 1 9 whole map.empty
keeps-empty whole = record { same = λ f k here passed. absurd (omega (arith, here)) }

pub keeps-itself : (rank left : ℕ) (whole board : ShogiBoard) → whole ≡ board → Keeps rank left whole board
keeps-itself rank left whole board e = record { same = λ f k here passed. ap (λ b. at b f k) e }

-- a board of which all squares are passed is the whole board
pub keeps-whole : (whole board : ShogiBoard) → Keeps 9 0 whole board → IsOnSquares whole → IsOnSquares board
    → whole ≡ board
keeps-whole whole board h on_whole on_board =
    map.same_map nat_cmp_total nat_cmp-IsAntisymmetric _ _ (λ q. elim (cases_lt q 81) [
      | inl below ↦
          let here : OnShogiBoard (file_of q) (rank_of q) = ((omega arith, omega arith), (omega arith, omega arith)) in
          let number : shogi_number (file_of q) (rank_of q) ≡ q = omega arith in
          ap (map.get whole) (sym number) ∙ h.same (file_of q) (rank_of q) here (omega arith)
          ∙ ap (map.get board) number
      | inr off ↦ on_whole q off ∙ sym (on_board q off)
    ])

-- the cells of a rank that begins with empty squares
pub cells-gap : (board : ShogiBoard) (rank n left rest : ℕ) → left ≡ n + rest
    → ((f : ℕ) → rest < f → f ≤ left → at board f rank ≡ None)
    → cells_from board rank left ≡ empty_cells n ++ cells_from board rank rest
cells-gap board rank zero left rest e none = ap (cells_from board rank) (omega (arith, e))
cells-gap board rank (suc n) zero rest e none = absurd (omega (arith, e))
cells-gap board rank (suc n) (suc left) rest e none =
    λ i. none (suc left) (omega (arith, e)) (omega arith) i ∷ cells-gap board rank n left rest (omega (arith, e))
    (λ f a b. none f a (omega (arith, b))) i

-- and such cells mean empty squares
pub record GapCells (board : ShogiBoard) (rank n left : ℕ) (more : List (Option SPiece)) : Type 0 where
  pub within : n ≤ left
  pub more_is : more ≡ cells_from board rank (left - n)
  pub none : (f : ℕ) → left - n < f → f ≤ left → at board f rank ≡ None

head-is : (x y : Option SPiece) (xs ys : List (Option SPiece)) → ◌≡◌ {A = List (Option SPiece)} (x ∷ xs) (y ∷ ys)
    → (x ≡ y) × (xs ≡ ys)
head-is x y xs ys e = (cc, cc)

pub gap-cells : (board : ShogiBoard) (rank n left : ℕ) (more : List (Option SPiece))
    → cells_from board rank left ≡ empty_cells n ++ more → GapCells board rank n left more
gap-cells board rank zero left more e =
    record {
      within = omega arith;
      more_is = sym e ∙ ap (cells_from board rank) (omega arith);
      none =
          λ f above below. absurd (omega arith);
    }
gap-cells board rank (suc n) zero more e = cc
gap-cells board rank (suc n) (suc left) more e =
    let parts = head-is (at board (suc left) rank) None (cells_from board rank left) (empty_cells n ++ more) e in
    let h = gap-cells board rank n left more parts.1 in
    record {
      within = omega (arith, h.within);
      more_is = h.more_is ∙ ap (cells_from board rank) (omega (arith, h.within));
      none = λ f above below. elim (cases_eq f (suc left)) [
        | inl same ↦ ap (λ x. at board x rank) same ∙ parts.0
        | inr differs ↦ h.none f (omega (arith, above)) (omega arith)
      ];
    }

-- and a piece before others is that of the next square
pub piece-cells : (board : ShogiBoard) (rank left : ℕ) (piece : SPiece) (more : List (Option SPiece))
    → cells_from board rank left ≡ Some piece ∷ more → (1 ≤ left)
    × ((at board left rank ≡ Some piece) × (more ≡ cells_from board rank (left - 1)))
piece-cells board rank zero piece more e = cc
piece-cells board rank (suc left) piece more e =
    let parts = head-is (at board (suc left) rank) (Some piece) (cells_from board rank left) more e in
    (omega arith, (parts.0, sym parts.1 ∙ ap (cells_from board rank) (omega arith)))

pub cells-piece : (board : ShogiBoard) (rank left : ℕ) (piece : SPiece) → 1 ≤ left → at board left rank ≡ Some piece
    → cells_from board rank left ≡ Some piece ∷ cells_from board rank (left - 1)
cells-piece board rank zero piece h e = absurd (omega arith)
cells-piece board rank (suc left) piece h e = λ i.
    e i ∷ (let same : left ≡ suc left - 1 = omega arith in cells_from board rank (same i))
