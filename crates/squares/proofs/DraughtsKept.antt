-- The cells and the sets of squares are kept together.
use Rattle.std.proofs.Common.{◌≡◌, ℕ, zero, suc, ◌+◌, ◌-◌, ◌<◌, ◌≤◌, Bool, true, false, not, ◌&&◌, ◌||◌, cond, nat_le, Option}
use Rattle.std.proofs.Common.{Some, None, List, length, get_or, inl, inr, refl, sym, ap, ◌∙◌, subst, arith, replicate}
use Rattle.std.specs.Ordering.{nat_cmp, eq_by_cmp}
use Rattle.std.specs.Cmp.{nat_cmp_total, unsigned_tied}
use Rattle.std.specs.FinMap as map
use Rattle.std.specs.FinMap.{nat_cmp-IsAntisymmetric}
use Rattle.std.specs.FinSet as set
use Rattle.std.proofs.Math.ListN.{set as list_set}
use Rattle.std.proofs.lemmas.Bool.{cases_lt}
use Rattle.std.proofs.lemmas.List.{ext_get_or, length-map, length-set, get_or_past}
use Rattle.std.proofs.lemmas.List.FromFn.{get_or-map-range_with_len}
use Rattle.masks.specs.Words.{Numbers}
use Rattle.squares.specs.declared.draughts.piece.DPiece.{DPiece}
use Rattle.squares.specs.declared.sides.Side.{Side}
use Rattle.squares.specs.declared.sides.Side.TheVariants.{First, Second}
use Rattle.squares.specs.Sides.{same_side}
use Rattle.std.specs.Prelude.{is_none}
use Rattle.squares.specs.DraughtsBoard.{Board, board_of}
use Rattle.squares.specs.internal.DraughtsBoard.{is_of}
use Rattle.squares.specs.internal.DraughtsCells.{get-board_of, get-board_of-zero, board_of-put, board_of-clear}
use Rattle.squares.specs.internal.DraughtsMarks.{nat_eq-same}
use Rattle.squares.specs.DraughtsOpening.{opening_piece}
use Rattle.squares.specs.internal.DraughtsKept.{is_king, Marks, KeepsCells, noted, cell_in, cells_in, squares_where}
use Rattle.squares.specs.internal.DraughtsKept.{where_back}

module _ (test : Option DPiece → Bool) (s : Numbers) (board : Board) (n : ℕ) (marks : Marks test s board) where
  put_noted : (p : DPiece) → Marks test (noted s n (test (Some p))) (map.insert board n p)
  put_noted p q =
      elim (test (Some p)) as (λ b. test (Some p) ≡ b
      → set.contains (noted s n b) q ≡ test (cond (eq_by_cmp nat_cmp q n) (Some p) (map.get board q))) [
        | true ↦ λ is.
            set.contains-insert nat_cmp_total s n q
            ∙ elim (eq_by_cmp nat_cmp q n) as (λ e. (e || set.contains s q) ≡ test (cond e (Some p) (map.get board q)))
            [ true ↦ sym is | false ↦ marks q ]
        | false ↦ λ is.
            set.contains-remove nat_cmp_total s n q
            ∙ elim (eq_by_cmp nat_cmp q n) as (λ e. (not e && set.contains s q)
            ≡ test (cond e (Some p) (map.get board q))) [ true ↦ sym is | false ↦ marks q ]
      ] refl
      ∙ sym (ap test (map.get-insert nat_cmp_total board n p q))

  taken_off : test None ≡ false → Marks test (set.remove s n) (map.remove board n)
  taken_off none q =
      set.contains-remove nat_cmp_total s n q
      ∙ elim (eq_by_cmp nat_cmp q n) as (λ e. (not e && set.contains s q) ≡ test (cond e None (map.get board q)))
      [ true ↦ sym none | false ↦ marks q ]
      ∙ sym (ap test (map.get-remove nat_cmp_total board n q))

module _ (cells : List (Option DPiece)) (first second kings : Numbers) (kept : KeepsCells cells first second kings)
    (k n : ℕ) (is : n ≡ k + 1) (within : k < 50) where
  in_cells : k < length cells
  in_cells = omega (arith, kept.has_cells)

  pub kept_with : (p : DPiece) (f s r : Numbers) → f ≡ noted first n (is_of First (Some p))
      → s ≡ noted second n (is_of Second (Some p)) → r ≡ noted kings n p.king
      → KeepsCells (list_set cells k (Some p)) f s r
  kept_with p f s r ef es er =
      let board : map.insert (board_of cells) n p ≡ board_of (list_set cells k (Some p)) =
      sym (board_of-put cells k n p is in_cells) in
      record {
        has_cells = length-set cells k (Some p) ∙ kept.has_cells;
        of_first = subst (λ t. Marks (is_of First) t (board_of (list_set cells k (Some p)))) (sym ef)
            (subst (Marks (is_of First) _) board (put_noted (is_of First) first (board_of cells) n kept.of_first p));
        of_second = subst (λ t. Marks (is_of Second) t (board_of (list_set cells k (Some p)))) (sym es)
            (subst (Marks (is_of Second) _) board
            (put_noted (is_of Second) second (board_of cells) n kept.of_second p));
        of_kings = subst (λ t. Marks is_king t (board_of (list_set cells k (Some p)))) (sym er)
            (subst (Marks is_king _) board (put_noted is_king kings (board_of cells) n kept.of_kings p));
      }

  pub kept_without : (f s r : Numbers) → f ≡ set.remove first n → s ≡ set.remove second n → r ≡ set.remove kings n
      → KeepsCells (list_set cells k None) f s r
  kept_without f s r ef es er =
      let board : map.remove (board_of cells) n ≡ board_of (list_set cells k None) =
      sym (board_of-clear cells k n is in_cells) in
      record {
        has_cells = length-set cells k None ∙ kept.has_cells;
        of_first = subst (λ t. Marks (is_of First) t (board_of (list_set cells k None))) (sym ef)
            (subst (Marks (is_of First) _) board (taken_off (is_of First) first (board_of cells) n kept.of_first refl));
        of_second = subst (λ t. Marks (is_of Second) t (board_of (list_set cells k None))) (sym es)
            (subst (Marks (is_of Second) _) board
            (taken_off (is_of Second) second (board_of cells) n kept.of_second refl));
        of_kings = subst (λ t. Marks is_king t (board_of (list_set cells k None))) (sym er)
            (subst (Marks is_king _) board (taken_off is_king kings (board_of cells) n kept.of_kings refl));
      }

-- the empty board
pub kept_empty : (f s r : Numbers) → f ≡ set.empty → s ≡ set.empty → r ≡ set.empty
    → KeepsCells (replicate 50 None) f s r
unfolding board_of
kept_empty f s r ef es er =
    let none : (a : Numbers) → a ≡ set.empty → (q : ℕ)
    → set.contains a q ≡ false = λ a is q. ap (λ b. set.contains b q) is ∙ set.contains-empty nat_cmp q in
    let cell : (q : ℕ) → map.get (board_of (replicate 50 None)) q ≡ None = λ q. map.get-empty nat_cmp q in
    record {
      has_cells = refl;
      of_first = λ q. none f ef q ∙ ap (is_of First) (sym (cell q));
      of_second = λ q. none s es q ∙ ap (is_of Second) (sym (cell q));
      of_kings = λ q. none r er q ∙ ap is_king (sym (cell q));
    }

no_king : (n : ℕ) → is_king (opening_piece n) ≡ false
no_king n =
    elim (nat_le n 20) as (λ b.
    is_king
    (cond b (Some (record { side = Second; king = false }))
    (cond (nat_le n 30) None (Some (record { side = First; king = false })))) ≡ false) [
      | true ↦ refl
      | false ↦
          elim (nat_le n 30) as (λ b. is_king (cond b None (Some (record { side = First; king = false }))) ≡ false)
          [ true ↦ refl | false ↦ refl ]
    ]

-- the opening has no king
pub no_kings : (cells : List (Option DPiece)) (r : Numbers) → r ≡ set.empty → length cells ≡ 50
    → ((k : ℕ) → k < 50 → get_or cells k None ≡ opening_piece (k + 1)) → Marks is_king r (board_of cells)
no_kings cells r none many filled zero = ap (λ a. set.contains a 0) none ∙ set.contains-empty nat_cmp 0
    ∙ sym (ap is_king (get-board_of-zero cells))
no_kings cells r none many filled (suc k) =
    ap (λ a. set.contains a (suc k)) none ∙ set.contains-empty nat_cmp (suc k)
    ∙ sym (ap is_king (get-board_of cells (suc k) k (omega arith))
    ∙ elim (cases_lt k 50) [
      | inl less ↦ ap is_king (filled k less) ∙ no_king (k + 1)
      | inr past ↦ ap is_king (get_or_past cells k None (omega arith))
    ])

-- A loop that takes the least square out of a set and clears it: what is kept of the board in the end stays the same.
abbrev pub cleared_of : Numbers → Board → Board
cleared_of s board = map.retain_keys board (λ n. not (set.contains s n))

at_cleared : (s : Numbers) (board : Board) (q : ℕ)
    → map.get (cleared_of s board) q ≡ cond (not (set.contains s q)) (map.get board q) None
at_cleared s board q = map.get-retain_keys board (λ n. not (set.contains s n)) q
    (λ x e. ap (λ n. not (set.contains s n)) (sym (nat_cmp-IsAntisymmetric q x e)))

pub cleared_next : (before after : Numbers) (board new : Board) (n : ℕ) → after ≡ set.remove before n
    → set.contains before n ≡ true → new ≡ map.remove board n → cleared_of after new ≡ cleared_of before board
cleared_next before after board new n less has step =
    (λ i. cleared_of (less i) (step i))
    ∙ map.same_map nat_cmp_total nat_cmp-IsAntisymmetric _ _
    (λ q. at_cleared (set.remove before n) (map.remove board n) q
    ∙ (λ i. cond (not (set.contains-remove nat_cmp_total before n q i)) (map.get-remove nat_cmp_total board n q i) None)
    ∙ elim (eq_by_cmp nat_cmp q n) as (λ e. eq_by_cmp nat_cmp q n ≡ e
    → cond (not (not e && set.contains before q)) (cond e None (map.get board q)) None
    ≡ cond (not (set.contains before q)) (map.get board q) None) [
      | true ↦ λ e.
          let here : set.contains before q ≡ true =
          ap (set.contains before) (nat_eq-same q n (sym (unsigned_tied q n) ∙ e)) ∙ has in
          sym (ap (λ b. cond (not b) (map.get board q) None) here)
      | false ↦ λ _. refl
    ] refl
    ∙ sym (at_cleared before board q))

pub cleared_none : (s : Numbers) (board : Board) → s ≡ set.empty → cleared_of s board ≡ board
cleared_none s board none =
    map.same_map nat_cmp_total nat_cmp-IsAntisymmetric _ _
    (λ q. at_cleared s board q ∙ ap (λ b. cond (not b) (map.get board q) None)
    (ap (λ a. set.contains a q) none ∙ set.contains-empty nat_cmp q))

same_or_other : (side : Side) → not (same_side side First || same_side side Second) ≡ false
same_or_other First = refl
same_or_other Second = refl

-- a square is empty where neither side has a piece
pub neither_side : (cell : Option DPiece) → not (is_of First cell || is_of Second cell) ≡ is_none cell
neither_side None = refl
neither_side (Some q) = same_or_other q.side

-- ---- The sets determine the cells

abbrev made : Bool → Bool → Bool → Option DPiece
made f s r = cond f (Some (record { side = First; king = r })) (cond s (Some (record { side = Second; king = r })) None)

cell_some : (side : Side) (king f s r : Bool) → f ≡ same_side side First → s ≡ same_side side Second → r ≡ king
    → made f s r ≡ Some (record { side = side; king = king })
cell_some First king f s r fe se re = λ i. made (fe i) (se i) (re i)
cell_some Second king f s r fe se re = λ i. made (fe i) (se i) (re i)

cell_from : (cell : Option DPiece) (f s r : Bool) → f ≡ is_of First cell → s ≡ is_of Second cell → r ≡ is_king cell
    → made f s r ≡ cell
cell_from None f s r fe se re = λ i. made (fe i) (se i) r
cell_from (Some q) f s r fe se re = cell_some q.side q.king f s r fe se re

pub cells_from : (cells : List (Option DPiece)) (f s r : Numbers) → KeepsCells cells f s r → cells_in f s r ≡ cells
unfolding cells_in
cells_from cells f s r kept =
    ext_get_or None _ _ (simp length-map (sym kept.has_cells))
    (λ k below. let b : k < 50 = simp length-map at below in
    let there = get-board_of cells (k + 1) k refl in
    get_or-map-range_with_len (cell_in f s r) 1 50 k (k + 1) None b (omega arith)
    ∙ cell_from (get_or cells k None) (set.contains f (k + 1)) (set.contains s (k + 1)) (set.contains r (k + 1))
    (kept.of_first (k + 1) ∙ ap (is_of First) there) (kept.of_second (k + 1) ∙ ap (is_of Second) there)
    (kept.of_kings (k + 1) ∙ ap is_king there))

pub kept_from : (cells : List (Option DPiece)) (f s r : Numbers) → KeepsCells cells f s r
    → KeepsCells (cells_in f s r) f s r
kept_from cells f s r kept = subst (λ cs. KeepsCells cs f s r) (sym (cells_from cells f s r kept)) kept

pub cell_read : (f s r : Numbers) (n k : ℕ) → n ≡ k + 1 → k < 50
    → map.get (board_of (cells_in f s r)) n ≡ cell_in f s r n
unfolding cells_in
cell_read f s r n k is below = get-board_of (cells_in f s r) n k is
    ∙ get_or-map-range_with_len (cell_in f s r) 1 50 k n None below (omega arith)

module _ (first second kings : Numbers) (kept : KeepsCells (cells_in first second kings) first second kings) (n : ℕ)
    (from : 1 ≤ n) (to : n ≤ 50) (f s r : Numbers) where
  abbrev before : List (Option DPiece)
  before = cells_in first second kings

  module _ (p : DPiece) (ef : f ≡ noted first n (is_of First (Some p))) (es : s ≡ noted second n (is_of Second (Some p)))
      (er : r ≡ noted kings n p.king) where
    put_kept : KeepsCells (list_set before (n - 1) (Some p)) f s r
    put_kept = kept_with before first second kings kept (n - 1) n (omega arith) (omega arith) p f s r ef es er

    pub kept_put : KeepsCells (cells_in f s r) f s r
    kept_put = kept_from (list_set before (n - 1) (Some p)) f s r put_kept

    pub board_put : board_of (cells_in f s r) ≡ map.insert (board_of before) n p
    board_put = ap board_of (cells_from (list_set before (n - 1) (Some p)) f s r put_kept)
        ∙ board_of-put before (n - 1) n p (omega arith) (omega (arith, kept.has_cells))

  module _ (ef : f ≡ set.remove first n) (es : s ≡ set.remove second n) (er : r ≡ set.remove kings n) where
    clear_kept : KeepsCells (list_set before (n - 1) None) f s r
    clear_kept = kept_without before first second kings kept (n - 1) n (omega arith) (omega arith) f s r ef es er

    pub kept_clear : KeepsCells (cells_in f s r) f s r
    kept_clear = kept_from (list_set before (n - 1) None) f s r clear_kept

    pub board_clear : board_of (cells_in f s r) ≡ map.remove (board_of before) n
    board_clear = ap board_of (cells_from (list_set before (n - 1) None) f s r clear_kept)
        ∙ board_of-clear before (n - 1) n (omega arith) (omega (arith, kept.has_cells))

-- equal boards have equal sets
module _ (f s r g t u : Numbers) (mine : KeepsCells (cells_in f s r) f s r) (theirs : KeepsCells (cells_in g t u) g t u)
    (boards : board_of (cells_in f s r) ≡ board_of (cells_in g t u)) where
  pub same_first : f ≡ g
  same_first = sym (where_back (is_of First) refl (cells_in f s r) f mine.has_cells mine.of_first)
      ∙ ap (squares_where (is_of First)) boards
      ∙ where_back (is_of First) refl (cells_in g t u) g theirs.has_cells theirs.of_first

  pub same_second : s ≡ t
  same_second = sym (where_back (is_of Second) refl (cells_in f s r) s mine.has_cells mine.of_second)
      ∙ ap (squares_where (is_of Second)) boards
      ∙ where_back (is_of Second) refl (cells_in g t u) t theirs.has_cells theirs.of_second

  pub same_kings : r ≡ u
  same_kings = sym (where_back is_king refl (cells_in f s r) r mine.has_cells mine.of_kings)
      ∙ ap (squares_where is_king) boards
      ∙ where_back is_king refl (cells_in g t u) u theirs.has_cells theirs.of_kings
