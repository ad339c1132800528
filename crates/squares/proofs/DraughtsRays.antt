-- Lines by steps are lines by coordinates.
use Rattle.std.proofs.Common.{◌≡◌, ℕ, zero, suc, ◌+◌, ◌-◌, ◌%◌, ◌<◌, ◌≤◌, Bool, true, false, cond, ◌||◌, Some, None}
use Rattle.std.proofs.Common.{List, [], ◌∷◌, length, get_or, nat_eq, refl, sym, ap, ◌∙◌, subst, arith}
use Rattle.std.specs.Option.{option_map_or}
use Rattle.squares.specs.declared.draughts.direction.Direction.{Direction}
use Rattle.squares.specs.declared.draughts.direction.Direction.TheVariants.{UpLeft, UpRight, DownLeft, DownRight}
use Rattle.squares.specs.DraughtsGeometry.{row_of, column_of, number_at, neighbor, step, line, ray}
use Rattle.squares.specs.internal.DraughtsGeometry.{OnBoard, IsMoved}
use Rattle.squares.specs.internal.DraughtsMarks.{nat_eq_other}
use Rattle.squares.specs.internal.DraughtsOnBoard.{nat_eq-differs, step-neighbor, step-on_board, row_of-number_at}

or_false : (a b : Bool) → (a || b) ≡ false → (a ≡ false) × (b ≡ false)
or_false true b e = cc
or_false false b e = (refl, e)

-- a step that is made leads to the square that it names
step_place : (a b : Bool) (n m r c : ℕ) → cond (a || b) None (Some (number_at r c)) ≡ Some m → (a ≡ false) × (b ≡ false)
    × (number_at r c ≡ m)
step_place true b n m r c e = cc
step_place false true n m r c e = cc
step_place false false n m r c e = let is : number_at r c ≡ m = cc in (refl, refl, is)

place : (r c m : ℕ) → number_at r c ≡ m → r ≤ 9 → c ≤ 9 → (r + c) % 2 ≡ 1 → (row_of m ≡ r) × (column_of m ≡ c)
place r c m e hr hc odd = let w = row_of-number_at r c hr hc odd in
    (ap row_of (sym e) ∙ w.0, ap column_of (sym e) ∙ w.1)

neighbor-moved : (d : Direction) (n m : ℕ) → OnBoard n → neighbor d n ≡ Some m → IsMoved d 1 n m
unfolding neighbor
neighbor-moved UpLeft n m on e =
    let w = step_place (nat_eq (row_of n) 0) (nat_eq (column_of n) 0) n m _ _ e in
    let row = nat_eq-differs (row_of n) 0 w.0 in
    let column = nat_eq-differs (column_of n) 0 w.1 in
    let v = place (row_of n - 1) (column_of n - 1) m w.2 (omega arith) (omega arith) (omega arith) in
    (omega (arith, v.0), omega (arith, v.1))
neighbor-moved UpRight n m on e =
    let w = step_place (nat_eq (row_of n) 0) (nat_eq (column_of n) 9) n m _ _ e in
    let row = nat_eq-differs (row_of n) 0 w.0 in
    let column = nat_eq-differs (column_of n) 9 w.1 in
    let v = place (row_of n - 1) (column_of n + 1) m w.2 (omega arith) (omega arith) (omega arith) in
    (omega (arith, v.0), omega (arith, v.1))
neighbor-moved DownLeft n m on e =
    let w = step_place (nat_eq (row_of n) 9) (nat_eq (column_of n) 0) n m _ _ e in
    let row = nat_eq-differs (row_of n) 9 w.0 in
    let column = nat_eq-differs (column_of n) 0 w.1 in
    let v = place (row_of n + 1) (column_of n - 1) m w.2 (omega arith) (omega arith) (omega arith) in
    (omega (arith, v.0), omega (arith, v.1))
neighbor-moved DownRight n m on e =
    let w = step_place (nat_eq (row_of n) 9) (nat_eq (column_of n) 9) n m _ _ e in
    let row = nat_eq-differs (row_of n) 9 w.0 in
    let column = nat_eq-differs (column_of n) 9 w.1 in
    let v = place (row_of n + 1) (column_of n + 1) m w.2 (omega arith) (omega arith) (omega arith) in
    (omega (arith, v.0), omega (arith, v.1))

step-moved : (d : Direction) (n m : ℕ) → OnBoard n → step d n ≡ Some m → IsMoved d 1 n m
step-moved d n m on e = neighbor-moved d n m on (sym (step-neighbor d n on) ∙ e)

-- a step is made where the place is on the board
make_step : (a b : Bool) (m r c : ℕ) → a ≡ false → b ≡ false → number_at r c ≡ m
    → cond (a || b) None (Some (number_at r c)) ≡ Some m
make_step a b m r c ha hb e = (λ i. cond (ha i || hb i) None (Some (e i)))

moved-neighbor : (d : Direction) (n m : ℕ) → OnBoard n → OnBoard m → IsMoved d 1 n m → neighbor d n ≡ Some m
unfolding neighbor
moved-neighbor UpLeft n m on om w =
    make_step (nat_eq (row_of n) 0) (nat_eq (column_of n) 0) m (row_of n - 1) (column_of n - 1)
    (nat_eq_other _ _ (λ e. omega (arith, w.0))) (nat_eq_other _ _ (λ e. omega (arith, w.1)))
    (omega (arith, w.0, w.1))
moved-neighbor UpRight n m on om w =
    make_step (nat_eq (row_of n) 0) (nat_eq (column_of n) 9) m (row_of n - 1) (column_of n + 1)
    (nat_eq_other _ _ (λ e. omega (arith, w.0))) (nat_eq_other _ _ (λ e. omega (arith, w.1)))
    (omega (arith, w.0, w.1))
moved-neighbor DownLeft n m on om w =
    make_step (nat_eq (row_of n) 9) (nat_eq (column_of n) 0) m (row_of n + 1) (column_of n - 1)
    (nat_eq_other _ _ (λ e. omega (arith, w.0))) (nat_eq_other _ _ (λ e. omega (arith, w.1)))
    (omega (arith, w.0, w.1))
moved-neighbor DownRight n m on om w =
    make_step (nat_eq (row_of n) 9) (nat_eq (column_of n) 9) m (row_of n + 1) (column_of n + 1)
    (nat_eq_other _ _ (λ e. omega (arith, w.0))) (nat_eq_other _ _ (λ e. omega (arith, w.1)))
    (omega (arith, w.0, w.1))

moved-step : (d : Direction) (n m : ℕ) → OnBoard n → OnBoard m → IsMoved d 1 n m → step d n ≡ Some m
moved-step d n m on om w = step-neighbor d n on ∙ moved-neighbor d n m on om w

moved-more : (d : Direction) (k n m l : ℕ) → IsMoved d 1 n m → IsMoved d (k + 1) m l → IsMoved d (suc k + 1) n l
moved-more UpLeft k n m l a b = (omega (arith, a.0, b.0), omega (arith, a.1, b.1))
moved-more UpRight k n m l a b = (omega (arith, a.0, b.0), omega (arith, a.1, b.1))
moved-more DownLeft k n m l a b = (omega (arith, a.0, b.0), omega (arith, a.1, b.1))
moved-more DownRight k n m l a b = (omega (arith, a.0, b.0), omega (arith, a.1, b.1))

-- the square of a place of the board
at_place : (r c : ℕ) → r ≤ 9 → c ≤ 9 → (r + c) % 2 ≡ 1 → (m : ℕ) × OnBoard m × (row_of m ≡ r) × (column_of m ≡ c)
at_place r c hr hc odd = let w = row_of-number_at r c hr hc odd in (number_at r c, (omega arith, omega arith), w.0, w.1)

moved-first : (d : Direction) (k n l : ℕ) → OnBoard n → OnBoard l → IsMoved d (suc k + 1) n l → (m : ℕ) × OnBoard m
    × IsMoved d 1 n m × IsMoved d (k + 1) m l
moved-first UpLeft k n l on ol w =
    let v = at_place (row_of n - 1) (column_of n - 1) (omega arith) (omega (arith, w.1)) (omega (arith, w.0, w.1)) in
    (v.0, v.1, (omega (arith, v.2, w.0), omega (arith, v.3, w.1)), (omega (arith, v.2, w.0), omega (arith, v.3, w.1)))
moved-first UpRight k n l on ol w =
    let v = at_place (row_of n - 1) (column_of n + 1) (omega arith) (omega (arith, w.1)) (omega (arith, w.0, w.1)) in
    (v.0, v.1, (omega (arith, v.2, w.0), omega (arith, v.3, w.1)), (omega (arith, v.2, w.0), omega (arith, v.3, w.1)))
moved-first DownLeft k n l on ol w =
    let v = at_place (row_of n + 1) (column_of n - 1) (omega (arith, w.0)) (omega (arith, w.1))
    (omega (arith, w.0, w.1)) in
    (v.0, v.1, (omega (arith, v.2, w.0), omega (arith, v.3, w.1)), (omega (arith, v.2, w.0), omega (arith, v.3, w.1)))
moved-first DownRight k n l on ol w =
    let v = at_place (row_of n + 1) (column_of n + 1) (omega (arith, w.0)) (omega (arith, w.1))
    (omega (arith, w.0, w.1)) in
    (v.0, v.1, (omega (arith, v.2, w.0), omega (arith, v.3, w.1)), (omega (arith, v.2, w.0), omega (arith, v.3, w.1)))

moved_few : (d : Direction) (k n m : ℕ) → OnBoard n → OnBoard m → IsMoved d (k + 1) n m → k < 9
moved_few UpLeft k n m on om w = omega (arith, w.0)
moved_few UpRight k n m on om w = omega (arith, w.0)
moved_few DownLeft k n m on om w = omega (arith, w.0)
moved_few DownRight k n m on om w = omega (arith, w.0)

-- a line with its first square
line_first : (j : ℕ) (d : Direction) (n m : ℕ) → step d n ≡ Some m → line (suc j) d n ≡ m ∷ line j d m
unfolding line
line_first j d n m e = ap (λ o. option_map_or (λ m. m ∷ line j d m) o []) e

abbrev HasAt : List ℕ → ℕ → ℕ → Type 0
HasAt xs k m = (k < length xs) × (get_or xs k 0 ≡ m)

line-moved : (j : ℕ) (d : Direction) (n k m : ℕ) → OnBoard n → HasAt (line j d n) k m → OnBoard m
    × IsMoved d (k + 1) n m
unfolding line
line-moved zero d n k m on h = absurd (omega (arith, h.0))
line-moved (suc j) d n zero m on h =
    elim (step d n) as (λ o. step d n ≡ o → HasAt (option_map_or (λ m. m ∷ line j d m) o []) 0 m → OnBoard m
    × IsMoved d 1 n m) [
      | None ↦ λ e h. absurd (omega (arith, h.0))
      | Some s ↦ λ e h. (subst OnBoard h.1 (step-on_board d n s e), subst (IsMoved d 1 n) h.1 (step-moved d n s on e))
    ] refl h
line-moved (suc j) d n (suc k) m on h =
    elim (step d n) as (λ o. step d n ≡ o → HasAt (option_map_or (λ m. m ∷ line j d m) o []) (suc k) m → OnBoard m
    × IsMoved d (suc k + 1) n m) [
      | None ↦ λ e h. absurd (omega (arith, h.0))
      | Some s ↦ λ e h.
          let w = line-moved j d s k m (step-on_board d n s e) (omega (arith, h.0), h.1) in
          (w.0, moved-more d k n s m (step-moved d n s on e) w.1)
    ] refl h

moved-line : (j : ℕ) (d : Direction) (n k m : ℕ) → OnBoard n → OnBoard m → k < j → IsMoved d (k + 1) n m
    → HasAt (line j d n) k m
moved-line zero d n k m on om h w = absurd (omega arith)
moved-line (suc j) d n zero m on om h w =
    subst (λ xs. HasAt xs 0 m) (sym (line_first j d n m (moved-step d n m on om w))) (omega arith, refl)
moved-line (suc j) d n (suc k) m on om h w =
    let v = moved-first d k n m on om w in
    let rest = moved-line j d v.0 k m v.1 om (omega arith) v.3 in
    subst (λ xs. HasAt xs (suc k) m) (sym (line_first j d n v.0 (moved-step d n v.0 on v.1 v.2)))
    (omega (arith, rest.0), rest.1)

pub ray-moved : (d : Direction) (n k m : ℕ) → OnBoard n → (k < length (ray d n)) × (get_or (ray d n) k 0 ≡ m)
    → OnBoard m × IsMoved d (k + 1) n m
unfolding ray
ray-moved d n k m on h = line-moved 9 d n k m on h

pub moved-ray : (d : Direction) (n k m : ℕ) → OnBoard n → OnBoard m × IsMoved d (k + 1) n m → (k < length (ray d n))
    × (get_or (ray d n) k 0 ≡ m)
unfolding ray
moved-ray d n k m on w = moved-line 9 d n k m on w.0 (moved_few d k n m on w.0 w.1) w.1
