-- Lemmas about the list of 50 cells and its board. No promise of the program rests on these definitions.
use Rattle.std.proofs.Common.{◌≡◌, ℕ, zero, suc, ◌+◌, ◌<◌, true, false, cond, List, [], ◌∷◌, length, get_or, ◌≢◌, ◌⊎◌}
use Rattle.std.proofs.Common.{inl, inr, refl, sym, ap, ◌∙◌, arith, Option, Some, None}
use Rattle.std.specs.Prelude.{map as list_map}
use Rattle.std.specs.List.{range_with_len}
use Rattle.std.specs.Ordering.{nat_cmp, eq_by_cmp}
use Rattle.std.specs.Cmp.{nat_cmp_total, unsigned_tied}
use Rattle.std.specs.FinMap as map
use Rattle.std.specs.FinMap.{nat_cmp-IsAntisymmetric}
use Rattle.std.proofs.Math.ListN.{set as list_set}
use Rattle.std.proofs.lemmas.Bool.{cases_eq}
use Rattle.std.proofs.lemmas.List.{ext_get_or, length-map, get_or-set_same, get_or-set_other}
use Rattle.std.proofs.lemmas.List.FromFn.{get_or-map-range_with_len}
use Rattle.squares.specs.declared.draughts.piece.DPiece.{DPiece}
use Rattle.squares.specs.DraughtsBoard.{occupied, board_of}
use Rattle.squares.specs.internal.DraughtsMarks.{nat_eq_same, nat_eq_other}

tied_same : (q n : ℕ) → q ≡ n → eq_by_cmp nat_cmp q n ≡ true
tied_same q n e = unsigned_tied q n ∙ nat_eq_same q n e

tied_other : (q n : ℕ) → q ≢ n → eq_by_cmp nat_cmp q n ≡ false
tied_other q n e = unsigned_tied q n ∙ nat_eq_other q n e

below : (cells : List (Option DPiece)) (n q : ℕ) → q < n → map.find nat_cmp q (occupied n cells) ≡ None
below [] n q h = refl
below (None ∷ cells) n q h = below cells (suc n) q (omega arith)
below (Some p ∷ cells) n q h = ap (λ b. cond b (Some p) (map.find nat_cmp q (occupied (suc n) cells)))
    (tied_other q n (omega arith)) ∙ below cells (suc n) q (omega arith)

at : (cells : List (Option DPiece)) (n q k : ℕ) → q ≡ n + k
    → map.find nat_cmp q (occupied n cells) ≡ get_or cells k None
at [] n q k e = refl
at (None ∷ cells) n q zero e = below cells (suc n) q (omega arith)
at (Some p ∷ cells) n q zero e = ap (λ b. cond b (Some p) (map.find nat_cmp q (occupied (suc n) cells)))
    (tied_same q n (omega arith))
at (None ∷ cells) n q (suc k) e = at cells (suc n) q k (omega arith)
at (Some p ∷ cells) n q (suc k) e =
    ap (λ b. cond b (Some p) (map.find nat_cmp q (occupied (suc n) cells))) (tied_other q n (omega arith))
    ∙ at cells (suc n) q k (omega arith)

pub get-board_of : (cells : List (Option DPiece)) (q k : ℕ) → q ≡ k + 1
    → map.get (board_of cells) q ≡ get_or cells k None
unfolding board_of
get-board_of cells q k e = map.get-from_entries nat_cmp_total (occupied 1 cells) q ∙ at cells 1 q k (omega arith)

pub get-board_of-zero : (cells : List (Option DPiece)) → map.get (board_of cells) 0 ≡ None
unfolding board_of
get-board_of-zero cells = map.get-from_entries nat_cmp_total (occupied 1 cells) 0 ∙ below cells 1 0 (omega arith)

module _ (cells : List (Option DPiece)) (k : ℕ) (o : Option DPiece) (h : k < length cells) where
  set_cell : (j : ℕ) → ((j ≡ k) ⊎ (j ≢ k))
      → get_or (list_set cells k o) j None ≡ cond (eq_by_cmp nat_cmp (suc j) (k + 1)) o (get_or cells j None)
  set_cell j (inl same) =
      (rw same (get_or-set_same cells k o None h))
      ∙ sym (ap (λ b. cond b o (get_or cells j None)) (tied_same (suc j) (k + 1) (omega arith)))
  set_cell j (inr differs) =
      get_or-set_other cells k j o None differs
      ∙ sym (ap (λ b. cond b o (get_or cells j None)) (tied_other (suc j) (k + 1) (λ e. differs (omega arith))))

  pub get-board_of-set : (q : ℕ) → map.get (board_of (list_set cells k o)) q
      ≡ cond (eq_by_cmp nat_cmp q (k + 1)) o (map.get (board_of cells) q)
  get-board_of-set zero =
      get-board_of-zero (list_set cells k o) ∙ sym
      (ap (λ b. cond b o (map.get (board_of cells) 0)) (tied_other 0 (k + 1) (omega arith))
      ∙ get-board_of-zero cells)
  get-board_of-set (suc j) =
      get-board_of (list_set cells k o) (suc j) j (omega arith) ∙ set_cell j (cases_eq j k)
      ∙ sym (ap (λ r. cond (eq_by_cmp nat_cmp (suc j) (k + 1)) o r) (get-board_of cells (suc j) j (omega arith)))

pub board_of-put : (cells : List (Option DPiece)) (k n : ℕ) (p : DPiece) → n ≡ k + 1 → k < length cells
    → board_of (list_set cells k (Some p)) ≡ map.insert (board_of cells) n p
board_of-put cells k n p e h =
    rw e
    (map.same_map nat_cmp_total nat_cmp-IsAntisymmetric _ _
    (λ q. get-board_of-set cells k (Some p) h q ∙ sym (map.get-insert nat_cmp_total (board_of cells) (k + 1) p q)))

pub board_of-clear : (cells : List (Option DPiece)) (k n : ℕ) → n ≡ k + 1 → k < length cells
    → board_of (list_set cells k None) ≡ map.remove (board_of cells) n
board_of-clear cells k n e h =
    rw e
    (map.same_map nat_cmp_total nat_cmp-IsAntisymmetric _ _
    (λ q. get-board_of-set cells k None h q ∙ sym (map.get-remove nat_cmp_total (board_of cells) (k + 1) q)))

-- The cells are recovered from their board.
pub cells_back : (cells : List (Option DPiece)) → length cells ≡ 50
    → list_map (λ n. map.get (board_of cells) n) (range_with_len 1 50) ≡ cells
cells_back cells h =
    ext_get_or None _ _ (simp length-map (sym h))
    (λ k below. let b : k < 50 = simp length-map at below in
    get_or-map-range_with_len (λ n. map.get (board_of cells) n) 1 50 k (k + 1) None b (omega arith)
    ∙ get-board_of cells (k + 1) k refl)
