-- Each jump leaves less prey.
use Rattle.std.proofs.Common.{◌≡◌, ℕ, zero, suc, ◌+◌, ◌≤◌, ◌<◌, inl, inr, Bool, true, false, cond, not, ◌&&◌, ◌||◌}
use Rattle.std.proofs.Common.{nat_eq, List, [], ◌∷◌, ◌++◌, count_by, refl, subst, arith}
use Rattle.std.specs.List.{range_with_len}
use Rattle.std.specs.FinSet as set
use Rattle.std.proofs.Math.Bool.{and-false}
use Rattle.std.proofs.lemmas.List.Sums.{sum_by-cons, count_by-le-length}
use Rattle.std.proofs.lemmas.Bool.{cases_eq, cases_Bool}
use Rattle.squares.specs.declared.draughts.piece.DPiece.{DPiece}
use Rattle.squares.specs.DraughtsSets.{Squares}
use Rattle.squares.specs.internal.DraughtsMarks.{contains-insert_nat, nat_eq_same}
use Rattle.squares.specs.internal.DraughtsGeometry.{OnBoard}
use Rattle.squares.specs.internal.DraughtsOnBoard.{AllOnBoard, ray-on_board}
use Rattle.draughts_moves.specs.Capture.{Cells, is_enemy, Jump}
use Rattle.draughts_moves.specs.Search.{is_prey, prey_left}
use Rattle.squares.specs.internal.In.{In}

-- a test that passes less counts less
module _ (p q : ℕ → Bool) (less : (n : ℕ) → q n ≡ true → p n ≡ true) where
  abbrev one : (ℕ → Bool) → ℕ → ℕ
  one test n = cond (test n) 1 0

  one_le : (n : ℕ) → one q n ≤ one p n
  one_le n = elim (cases_Bool (q n)) [ inl e ↦ rw (e, less n e) (omega arith) | inr e ↦ rw e (omega arith) ]

  count-le : (xs : List ℕ) → count_by q xs ≤ count_by p xs
  count-le [] = omega arith
  count-le (x ∷ xs) = omega (arith, sum_by-cons (one q) x xs, sum_by-cons (one p) x xs, one_le x, count-le xs)

  count-less : (v : ℕ) (xs : List ℕ) → In v xs → p v ≡ true → q v ≡ false → count_by q xs < count_by p xs
  count-less v [] h pv qv = absurd h
  count-less v (x ∷ xs) (inl e) pv qv =
      let here : one q x < one p x = rw (e, pv, qv) (omega arith) in
      omega (arith, sum_by-cons (one q) x xs, sum_by-cons (one p) x xs, here, count-le xs)
  count-less v (x ∷ xs) (inr h) pv qv = omega
      (arith, sum_by-cons (one q) x xs, sum_by-cons (one p) x xs, one_le x, count-less v xs h pv qv)

still : (e same has : Bool) → (e && not (same || has)) ≡ true → (e && not has) ≡ true
still true true has h = cc
still true false has h = h
still false same has h = cc

pub In-range : (a n v : ℕ) → a ≤ v → v < a + n → In v (range_with_len a n)
In-range a zero v low high = absurd (omega arith)
In-range a (suc n) v low high = elim (cases_eq a v)
    [ inl e ↦ inl e | inr k ↦ inr (In-range (a + 1) n v (omega arith) (omega arith)) ]

pub In-board : (v : ℕ) → OnBoard v → In v (range_with_len 1 50)
In-board v on = In-range 1 50 v on.0 (omega (arith, on.1))

pub at_along : (before rest : List ℕ) (v : ℕ) → AllOnBoard (before ++ v ∷ rest) → OnBoard v
at_along [] rest v h = h.0
at_along (n ∷ before) rest v h = at_along before rest v h.1

module _ (b : Cells) (p : DPiece) (t : Squares) (s v l : ℕ) (j : Jump b p t s v l) where
  pub Jump-over_on : OnBoard v
  Jump-over_on = at_along j.1.before _ v (subst AllOnBoard j.1.along (ray-on_board j.0 s))

  still_prey : (n : ℕ) → is_prey b p (set.insert t v) n ≡ true → is_prey b p t n ≡ true
  still_prey n e = still (is_enemy p (b n)) (nat_eq n v) (set.contains t n) (rw contains-insert_nat at e)

  taken_now : is_prey b p (set.insert t v) v ≡ false
  taken_now = rw (contains-insert_nat t v v, nat_eq_same v v refl) (and-false (is_enemy p (b v)))

  pub prey_left-falls : prey_left b p (set.insert t v) < prey_left b p t
  unfolding prey_left
  prey_left-falls =
      count-less (is_prey b p t) (is_prey b p (set.insert t v)) still_prey v (range_with_len 1 50)
      (In-board v Jump-over_on) (λ i. j.1.enemy i && not (j.1.fresh i)) taken_now

pub prey_left-fits : (b : Cells) (p : DPiece) (t : Squares) → prey_left b p t ≤ 50
unfolding prey_left
prey_left-fits b p t = count_by-le-length (is_prey b p t) (range_with_len 1 50)
