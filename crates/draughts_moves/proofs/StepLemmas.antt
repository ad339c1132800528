-- The computed steps are the quiet moves.
use Rattle.std.proofs.Common.{◌≡◌, ℕ, zero, suc, ◌<◌, ◌≤◌, true, false, nat_eq, Some, None, List, [], ◌∷◌, ◌++◌, length}
use Rattle.std.proofs.Common.{take, drop, inl, inr, refl, sym, ap, ◌∙◌, arith, append_assoc, length-append, length-take}
use Rattle.std.specs.List.{list_any}
use Rattle.std.specs.FinMap as map
use Rattle.std.specs.FinSet as set
use Rattle.std.specs.Ordering.{nat_cmp}
use Rattle.std.proofs.lemmas.Bool.{cases_Bool, false≢true}
use Rattle.std.proofs.lemmas.List.{take-append-drop}
use Rattle.squares.specs.declared.draughts.direction.Direction.{Direction}
use Rattle.squares.specs.declared.draughts.piece.DPiece.{DPiece}
use Rattle.squares.specs.DraughtsBoard.{Position}
use Rattle.squares.specs.DraughtsGeometry.{step, line, ray}
use Rattle.squares.specs.internal.DraughtsGeometry.{OnBoard}
use Rattle.squares.specs.internal.DraughtsMarks.{nat_eq_same, nat_eq-same}
use Rattle.squares.specs.internal.DraughtsOnBoard.{ray-off}
use Rattle.draughts_moves.specs.Capture.{Cells, AllClear}
use Rattle.draughts_moves.specs.Legal.{is_forward, QuietMove}
use Rattle.draughts_moves.specs.Search.{clear_front, reach, steps_along, steps, own_at}
use Rattle.draughts_moves.specs.internal.Search.{is_step}
use Rattle.squares.specs.internal.In.{In, list_any-found, list_any-finds}
use Rattle.draughts_moves.proofs.Basics.{option_cases, In-four, In-from_four}
use Rattle.draughts_moves.proofs.JumpLemmas.{clear_front-sound}
use Rattle.draughts_moves.proofs.MostLemmas.{own_at-own, own_at-is, not_empty}

length-line : (k : ℕ) (d : Direction) (n : ℕ) → length (line k d n) ≤ k
unfolding line
length-line zero d n = omega arith
length-line (suc k) d n = elim (option_cases (step d n))
    [ inl e ↦ rw e (omega arith) | inr w ↦ rw w.1 (omega (arith, length-line k d w.0)) ]

length-ray : (d : Direction) (n : ℕ) → length (ray d n) ≤ 9
unfolding ray
length-ray d n = length-line 9 d n

no_squares : (xs : List ℕ) → length xs < 1 → xs ≡ []
no_squares [] h = refl
no_squares (x ∷ xs) h = absurd (omega arith)

-- what is before a square within reach: for a man nothing, and the square is ahead
module _ (q : DPiece) (d : Direction) (x y : ℕ) (before : List ℕ) where
  man_goes : length before < reach q d → q.king ≡ false → (before ≡ []) × (is_forward q.side d ≡ true)
  man_goes near man = elim (cases_Bool (is_forward q.side d)) [
    | inl e ↦ (no_squares before (rw (man, e) at near), e)
    | inr e ↦ absurd (let never : length before < 0 = rw (man, e) at near in omega arith)
  ]

  goes_near : (after : List ℕ) → ray d x ≡ before ++ y ∷ after
      → (q.king ≡ false → (before ≡ []) × (is_forward q.side d ≡ true)) → length before < reach q d
  goes_near after along man = elim (cases_Bool q.king) [
    | inl e ↦ rw e (omega (arith, length-ray d x, ap length along, length-append before (y ∷ after)))
    | inr e ↦ let w = man e in rw (e, w.1, w.0) (omega arith)
  ]

-- a square of the front of a list
module _ (r y : ℕ) (xs before after : List ℕ) (along : take r xs ≡ before ++ y ∷ after) where
  whole : xs ≡ before ++ y ∷ (after ++ drop r xs)
  whole = sym (take-append-drop r xs) ∙ ap (λ front. front ++ drop r xs) along
      ∙ append_assoc before (y ∷ after) (drop r xs)

  within : length before < r
  within = omega (arith, ap length along, length-take r xs, length-append before (y ∷ after))

front-complete : (b : Cells) (r y : ℕ) (before after : List ℕ) → length before < r → AllClear b before → b y ≡ None
    → In y (clear_front b (take r (before ++ y ∷ after)))
front-complete b zero y before after near clear lands = absurd (omega arith)
front-complete b (suc r) y [] after near clear lands = rw lands (inl refl)
front-complete b (suc r) y (n ∷ before) after near clear lands =
    rw clear.0 (inr (front-complete b r y before after (omega arith) clear.1 lands))

module _ (p : Position) (x y : ℕ) where
  -- the squares of the steps are those of the quiet moves
  pub quiet-from_steps : (q : DPiece) → own_at p x ≡ Some q → In y (steps (map.get p.board) q x) → QuietMove p x y
  unfolding steps steps_along
  quiet-from_steps q own h =
      let b = map.get p.board in
      let is = own_at-is p x q own in
      let w = In-from_four y (λ d. clear_front b (take (reach q d) (ray d x))) h in
      let d = w.0 in
      let f = clear_front-sound b q (set.empty {R = nat_cmp}) y (take (reach q d) (ray d x)) w.1 in
      record {
        piece = q;
        stands = is.0;
        own = is.1;
        toward = d;
        before = f.0;
        after = f.1 ++ drop (reach q d) (ray d x);
        along = whole (reach q d) y (ray d x) f.0 f.1 f.2;
        clear_before = f.3;
        lands = f.4;
        man = man_goes q d x y f.0 (within (reach q d) y (ray d x) f.0 f.1 f.2);
      }

  pub quiet-own : (m : QuietMove p x y) → own_at p x ≡ Some m.piece
  quiet-own m = own_at-own p x m.piece m.stands m.own

  pub quiet-in_steps : (m : QuietMove p x y) → In y (steps (map.get p.board) m.piece x)
  unfolding steps steps_along
  quiet-in_steps m =
      let q = m.piece in
      let near = goes_near q m.toward x y m.before m.after m.along m.man in
      In-four y (λ d. clear_front (map.get p.board) (take (reach q d) (ray d x))) m.toward
      (rw m.along (front-complete (map.get p.board) (reach q m.toward) y m.before m.after near m.clear_before m.lands))

  pub quiet-from_on : QuietMove p x y → OnBoard x
  quiet-from_on m = elim (ray-off m.toward x)
      [ inl on ↦ on | inr none ↦ absurd (not_empty m.before m.after y (sym m.along ∙ none)) ]

  pub is_step-own : (q : DPiece) → own_at p x ≡ Some q
      → is_step p x y ≡ list_any (λ z. nat_eq z y) (steps (map.get p.board) q x)
  unfolding is_step
  is_step-own q own = rw own

  pub is_step-none : own_at p x ≡ None → is_step p x y ≡ false
  unfolding is_step
  is_step-none none = rw none

  pub is_step-sound : is_step p x y ≡ true → QuietMove p x y
  is_step-sound e = elim (option_cases (own_at p x)) [
    | inl none ↦ absurd (false≢true (sym (is_step-none none) ∙ e))
    | inr w ↦
        let f = list_any-found (λ z. nat_eq z y) (steps (map.get p.board) w.0 x) (sym (is_step-own w.0 w.1) ∙ e) in
        quiet-from_steps w.0 w.1 (rw (nat_eq-same f.0 y f.2) at f.1)
  ]

  pub is_step-complete : QuietMove p x y → is_step p x y ≡ true
  is_step-complete m =
      is_step-own m.piece (quiet-own m)
      ∙ list_any-finds (λ z. nat_eq z y) (steps (map.get p.board) m.piece x) y (quiet-in_steps m) (nat_eq_same y y refl)
