-- What eighty-one cells say of the board that they keep.
use Rattle.std.proofs.Common.{◌≡◌, ℕ, zero, suc, ◌+◌, ◌<◌, true, false, cond, List, [], ◌∷◌, length, get_or, ◌≢◌, ◌⊎◌}
use Rattle.std.proofs.Common.{inl, inr, refl, sym, ap, ◌∙◌, arith, Option, Some, None, nat_eq}
use Rattle.std.specs.Ordering.{nat_cmp, eq_by_cmp}
use Rattle.std.specs.Cmp.{nat_cmp_total, unsigned_tied}
use Rattle.std.specs.FinMap as map
use Rattle.std.specs.FinMap.{nat_cmp-IsAntisymmetric}
use Rattle.std.proofs.Math.ListN.{set as list_set}
use Rattle.std.proofs.lemmas.Grind.{common_steps}
use Rattle.std.proofs.lemmas.Bool.{cases_eq}
use Rattle.std.proofs.lemmas.List.{get_or-set_same, get_or-set_other}
use Rattle.squares.specs.declared.shogi.piece.SPiece.{SPiece}
use Rattle.squares.specs.ShogiBoard.{occupied_cells, shogi_board_of}

eq_same : (n q : ℕ) → n ≡ q → nat_eq n q ≡ true
eq_same n q h = grind (arith, common_steps)

eq_other : (n q : ℕ) → n ≢ q → nat_eq n q ≡ false
eq_other n q h = grind (arith, common_steps)

tied_same : (q n : ℕ) → q ≡ n → eq_by_cmp nat_cmp q n ≡ true
tied_same q n e = unsigned_tied q n ∙ eq_same q n e

tied_other : (q n : ℕ) → q ≢ n → eq_by_cmp nat_cmp q n ≡ false
tied_other q n e = unsigned_tied q n ∙ eq_other q n e

below : (cells : List (Option SPiece)) (n q : ℕ) → q < n → map.find nat_cmp q (occupied_cells n cells) ≡ None
below [] n q h = refl
below (None ∷ cells) n q h = below cells (suc n) q (omega arith)
below (Some p ∷ cells) n q h = ap (λ b. cond b (Some p) (map.find nat_cmp q (occupied_cells (suc n) cells)))
    (tied_other q n (omega arith)) ∙ below cells (suc n) q (omega arith)

at : (cells : List (Option SPiece)) (n q k : ℕ) → q ≡ n + k
    → map.find nat_cmp q (occupied_cells n cells) ≡ get_or cells k None
at [] n q k e = refl
at (None ∷ cells) n q zero e = below cells (suc n) q (omega arith)
at (Some p ∷ cells) n q zero e = ap (λ b. cond b (Some p) (map.find nat_cmp q (occupied_cells (suc n) cells)))
    (tied_same q n (omega arith))
at (None ∷ cells) n q (suc k) e = at cells (suc n) q k (omega arith)
at (Some p ∷ cells) n q (suc k) e =
    ap (λ b. cond b (Some p) (map.find nat_cmp q (occupied_cells (suc n) cells))) (tied_other q n (omega arith))
    ∙ at cells (suc n) q k (omega arith)

pub get-shogi_board_of : (cells : List (Option SPiece)) (q : ℕ) → map.get (shogi_board_of cells) q ≡ get_or cells q None
unfolding shogi_board_of
get-shogi_board_of cells q = map.get-from_entries nat_cmp_total (occupied_cells 0 cells) q
    ∙ at cells 0 q q (omega arith)

module _ (cells : List (Option SPiece)) (k : ℕ) (o : Option SPiece) (h : k < length cells) where
  set_cell : (j : ℕ) → ((j ≡ k) ⊎ (j ≢ k))
      → get_or (list_set cells k o) j None ≡ cond (eq_by_cmp nat_cmp j k) o (get_or cells j None)
  set_cell j (inl same) =
      (rw same (get_or-set_same cells k o None h)) ∙ sym (ap (λ b. cond b o (get_or cells j None)) (tied_same j k same))
  set_cell j (inr differs) =
      get_or-set_other cells k j o None differs
      ∙ sym (ap (λ b. cond b o (get_or cells j None)) (tied_other j k differs))

  pub get-shogi_board_of-set : (q : ℕ) → map.get (shogi_board_of (list_set cells k o)) q
      ≡ cond (eq_by_cmp nat_cmp q k) o (map.get (shogi_board_of cells) q)
  get-shogi_board_of-set q =
      get-shogi_board_of (list_set cells k o) q ∙ set_cell q (cases_eq q k)
      ∙ sym (ap (λ r. cond (eq_by_cmp nat_cmp q k) o r) (get-shogi_board_of cells q))

pub shogi_board_of-put : (cells : List (Option SPiece)) (k : ℕ) (p : SPiece) → k < length cells
    → shogi_board_of (list_set cells k (Some p)) ≡ map.insert (shogi_board_of cells) k p
shogi_board_of-put cells k p h =
    map.same_map nat_cmp_total nat_cmp-IsAntisymmetric _ _
    (λ q. get-shogi_board_of-set cells k (Some p) h q
    ∙ sym (map.get-insert nat_cmp_total (shogi_board_of cells) k p q))

pub shogi_board_of-clear : (cells : List (Option SPiece)) (k : ℕ) → k < length cells
    → shogi_board_of (list_set cells k None) ≡ map.remove (shogi_board_of cells) k
shogi_board_of-clear cells k h =
    map.same_map nat_cmp_total nat_cmp-IsAntisymmetric _ _
    (λ q. get-shogi_board_of-set cells k None h q ∙ sym (map.get-remove nat_cmp_total (shogi_board_of cells) k q))
