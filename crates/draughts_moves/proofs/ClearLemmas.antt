-- The squares that a piece goes to without taking, by sets of squares.
use Rattle.std.proofs.Common.{◌≡◌, ℕ, zero, suc, ◌≤◌, Bool, true, false, cond, not, ◌&&◌, ◌||◌, nat_eq, inl, inr, Some}
use Rattle.std.proofs.Common.{None, List, [], ◌∷◌, ◌++◌, refl, sym, ap, ◌∙◌, arith, take}
use Rattle.std.specs.Prelude.{is_none, is_some}
use Rattle.std.specs.Option.{option_map_or}
use Rattle.std.specs.FinMap as map
use Rattle.std.specs.FinSet as set
use Rattle.std.proofs.Math.Bool.{and-false, and-true, or-false}
use Rattle.std.proofs.lemmas.Bool.{cases_eq, cases_Bool, and_parts}
use Rattle.std.proofs.lemmas.List.{append-nil}
use Rattle.std.proofs.lemmas.List.Folds.{list_any-append}
use Rattle.squares.specs.declared.draughts.direction.Direction.{Direction}
use Rattle.squares.specs.declared.draughts.direction.Direction.TheVariants.{UpLeft, UpRight, DownLeft, DownRight}
use Rattle.squares.specs.declared.draughts.piece.DPiece.{DPiece}
use Rattle.squares.specs.declared.sides.Side.{Side}
use Rattle.squares.specs.declared.sides.Side.TheVariants.{First, Second}
use Rattle.squares.specs.DraughtsBoard.{Position}
use Rattle.squares.specs.internal.DraughtsMarks.{nat_eq_other}
use Rattle.squares.specs.DraughtsSets.{Squares}
use Rattle.squares.specs.DraughtsGeometry.{step, line, ray}
use Rattle.squares.specs.internal.DraughtsGeometry.{OnBoard, line-step, line-edge}
use Rattle.squares.specs.internal.DraughtsOnBoard.{ray-off, step-on_board}
use Rattle.draughts_moves.specs.Capture.{Cells}
use Rattle.draughts_moves.specs.Legal.{is_forward}
use Rattle.draughts_moves.specs.Search.{clear_front, steps_along, steps}
use Rattle.draughts_moves.specs.internal.Search.{next_in}
use Rattle.draughts_moves.proofs.Basics.{option_cases, four, one_of, list_any-four}
use Rattle.draughts_moves.proofs.LineLemmas.{is_in, distinct, ray-distinct, not_in_both, turned, first_on, line-split}
use Rattle.draughts_moves.proofs.LineLemmas.{first-stands, front-clear}
use Rattle.draughts_moves.proofs.MostLemmas.{not_empty}

-- what is left of a line where all from a square on it is taken out
left_over : (before v rest : Bool) → (before ≡ true → (v || rest) ≡ false)
    → (not v && ((before || (v || rest)) && not rest)) ≡ before
left_over true true rest apart = let f = apart refl in cc
left_over true false true apart = let f = apart refl in cc
left_over true false false apart = refl
left_over false true rest apart = refl
left_over false false true apart = refl
left_over false false false apart = refl

module _ (b : Cells) (d : Direction) (of : Squares) (are : (n : ℕ) → set.contains of n ≡ is_some (b n)) (n m : ℕ) where
  -- where nothing stands on it, a line is clear
  pub clear-all : first_on b d of are m ≡ None → is_in n (ray d m) ≡ is_in n (clear_front b (ray d m))
  clear-all none =
      let s = line-split b d of are m in
      let whole : ray d m ≡ s.0 ++ [] = rw none at s.2 in
      ap (is_in n) (whole ∙ sym (ap (clear_front b) whole ∙ front-clear b d of are s.0 [] s.1))

  -- up to the first piece on it a line is what is left without the piece and the line behind it
  pub clear-part : (v : ℕ) → first_on b d of are m ≡ Some v
      → (not (nat_eq n v) && (is_in n (ray d m) && not (is_in n (ray d v)))) ≡ is_in n (clear_front b (ray d m))
  clear-part v first =
      let s = line-split b d of are m in
      let whole : ray d m ≡ s.0 ++ v ∷ ray d v = rw first at s.2 in
      let front : clear_front b (ray d m) ≡ s.0 = ap (clear_front b) whole
      ∙ front-clear b d of are s.0 (v ∷ ray d v) s.1
      ∙ rw (first-stands b d of are m v first) (append-nil s.0) in
      let on : OnBoard m = elim (ray-off d m)
      [ inl on ↦ on | inr none ↦ absurd (not_empty s.0 (ray d v) v (sym whole ∙ none)) ] in
      let apart : distinct (s.0 ++ v ∷ ray d v) ≡ true = rw whole at
      (and_parts (not (is_in m (ray d m))) (distinct (ray d m)) (ray-distinct d m on)).1 in
      rw (front, whole, turned n v, list_any-append (λ k. nat_eq k n) s.0 (v ∷ ray d v))
      (left_over (is_in n s.0) (nat_eq v n) (is_in n (ray d v)) (not_in_both n s.0 (v ∷ ray d v) apart))

-- a line of fewer squares is the front of a longer one
take-line : (r k : ℕ) (d : Direction) (n : ℕ) → r ≤ k → take r (line k d n) ≡ line r d n
unfolding line
take-line zero k d n h = refl
take-line (suc r) zero d n h = absurd (omega arith)
take-line (suc r) (suc k) d n h = elim (option_cases (step d n))
    [ inl e ↦ rw e | inr w ↦ rw w.1 (ap (λ ms. w.0 ∷ ms) (take-line r k d w.0 (omega arith))) ]

-- the next square in a direction, if it is empty
module _ (b : Cells) (x : ℕ) (d : Direction) where
  abbrev pub ahead : List ℕ
  ahead = clear_front b (take 1 (ray d x))

  pub ahead-is : ahead ≡ option_map_or (λ m. cond (is_none (b m)) (m ∷ []) []) (step d x) []
  unfolding ray
  ahead-is = elim (option_cases (step d x))
      [ inl e ↦ rw (line-edge 9 d x e, e) | inr w ↦ rw (line-step 9 8 d x w.0 w.1 refl, w.1) ]

-- where a piece goes, by what it goes along each of the four lines
module _ (b : Cells) (q : DPiece) (x : ℕ) where
  pub steps-by : (f : Direction → List ℕ) → ((d : Direction) → f d ≡ steps_along b q d x) → (n : ℕ)
      → one_of (λ d. is_in n (f d)) ≡ is_in n (steps b q x)
  unfolding steps
  steps-by f along n = sym (list_any-four (λ m. nat_eq m n) f) ∙ (λ i. is_in n (four (λ d. along d i)))

  -- a king goes along the four lines
  pub king_along : q.king ≡ true → (d : Direction) → clear_front b (ray d x) ≡ steps_along b q d x
  unfolding steps_along ray
  king_along king d = rw (king, take-line 9 9 d x (omega arith))

  -- a man goes to the next square, if it is empty, in the directions that are forward
  pub man_along : (s : Side) → q.side ≡ s → q.king ≡ false → (d : Direction)
      → clear_front b (take (cond (is_forward s d) 1 0) (ray d x)) ≡ steps_along b q d x
  unfolding steps_along
  man_along s side man d = rw (man, side)

  pub steps-first : q.king ≡ false → q.side ≡ First → (n : ℕ)
      → (is_in n (ahead b x UpLeft) || is_in n (ahead b x UpRight)) ≡ is_in n (steps b q x)
  steps-first man side n = ap (λ c. is_in n (ahead b x UpLeft) || c) (sym (or-false (is_in n (ahead b x UpRight))))
      ∙ steps-by (λ d. clear_front b (take (cond (is_forward First d) 1 0) (ray d x))) (man_along First side man) n

  pub steps-second : q.king ≡ false → q.side ≡ Second → (n : ℕ)
      → (is_in n (ahead b x DownLeft) || is_in n (ahead b x DownRight)) ≡ is_in n (steps b q x)
  steps-second man side n =
      steps-by (λ d. clear_front b (take (cond (is_forward Second d) 1 0) (ray d x))) (man_along Second side man) n

-- the set has the empty squares of the board
abbrev pub AreEmpty : Position → Squares → Type 0
AreEmpty p empty = (n : ℕ) → OnBoard n → set.contains empty n ≡ is_none (map.get p.board n)

module _ (p : Position) (empty : Squares) (free : AreEmpty p empty) (d : Direction) (x : ℕ) where
  -- what the set has of the next square
  pub ahead-in : (n : ℕ) → (option_map_or (λ m. nat_eq m n) (step d x) false && set.contains empty n)
      ≡ is_in n (ahead (map.get p.board) x d)
  ahead-in n = rw (ahead-is (map.get p.board) x d) (elim (option_cases (step d x)) [
    | inl e ↦ rw e
    | inr w ↦ rw w.1 (elim (cases_eq w.0 n) [
      | inl same ↦ rw (← same, free w.0 (step-on_board d x w.0 w.1)) (elim (cases_Bool (is_none (map.get p.board w.0)))
          [ inl e ↦ rw e (and-true _ ∙ sym (or-false _)) | inr e ↦ rw e (and-false _) ])
      | inr other ↦ rw (nat_eq_other w.0 n other) (elim (cases_Bool (is_none (map.get p.board w.0)))
          [ inl e ↦ rw (e, nat_eq_other w.0 n other) | inr e ↦ rw e ])
    ])
  ])

  pub ahead-none : next_in empty d x ≡ false → ahead (map.get p.board) x d ≡ []
  ahead-none none = rw (ahead-is (map.get p.board) x d) (elim (option_cases (step d x)) [
    | inl e ↦ rw e
    | inr w ↦ rw (w.1, sym (free w.0 (step-on_board d x w.0 w.1)) ∙ rw w.1 at none)
  ])
