-- Squares are 1 to 50, and diagonals stay on the board. No promise of the program rests on these definitions.
use Rattle.std.proofs.Common.{◌≡◌, ℕ, zero, suc, ◌+◌, ◌%◌, ◌≤◌, ◌≢◌, Bool, true, false, cond, ◌||◌, ◌&&◌, nat_le, Some}
use Rattle.std.proofs.Common.{None, List, [], ◌∷◌, nat_eq, refl, ap, subst, arith, ◌⊎◌, inl, inr}
use Rattle.std.proofs.lemmas.Grind.{common_steps}
use Rattle.std.specs.Option.{option_map_or}
use Rattle.squares.specs.declared.draughts.direction.Direction.{Direction}
use Rattle.squares.specs.declared.draughts.direction.Direction.TheVariants.{UpLeft, UpRight, DownLeft, DownRight}
use Rattle.squares.specs.DraughtsGeometry.{row_of, column_of, number_at, neighbor, step, line, ray}
use Rattle.squares.specs.internal.DraughtsGeometry.{OnBoard, line-edge}

-- Every square of the list is on the board.
abbrev pub AllOnBoard : List ℕ → Type 0
AllOnBoard [] = Unit {0}
AllOnBoard (n ∷ ns) = OnBoard n × AllOnBoard ns

number_at-on : (r c : ℕ) → r ≤ 9 → c ≤ 9 → OnBoard (number_at r c)
number_at-on r c hr hc = (omega arith, omega arith)

or_false : (a b : Bool) → (a || b) ≡ false → (a ≡ false) × (b ≡ false)
or_false true b e = cc
or_false false b e = (refl, e)

pub nat_eq-differs : (m n : ℕ) → nat_eq m n ≡ false → m ≢ n
nat_eq-differs m n e = λ h. grind (arith, common_steps)

-- The result of a step is on the board if its row and column are.
step_made : (a b : Bool) (n m r c : ℕ) → cond (a || b) None (Some (number_at r c)) ≡ Some m
    → (a ≡ false → b ≡ false → (r ≤ 9) × (c ≤ 9)) → OnBoard m
step_made true b n m r c e h = cc
step_made false true n m r c e h = cc
step_made false false n m r c e h = let is : number_at r c ≡ m = cc in
    subst OnBoard is (let w = h refl refl in number_at-on r c w.0 w.1)

neighbor-on_board : (d : Direction) (n m : ℕ) → OnBoard n → neighbor d n ≡ Some m → OnBoard m
unfolding neighbor
neighbor-on_board UpLeft n m on e = step_made (nat_eq (row_of n) 0) (nat_eq (column_of n) 0) n m _ _ e
    (λ p q. (omega arith, omega arith))
neighbor-on_board UpRight n m on e =
    step_made (nat_eq (row_of n) 0) (nat_eq (column_of n) 9) n m _ _ e
    (λ p q. let differs = nat_eq-differs (column_of n) 9 q in (omega arith, omega arith))
neighbor-on_board DownLeft n m on e =
    step_made (nat_eq (row_of n) 9) (nat_eq (column_of n) 0) n m _ _ e
    (λ p q. let differs = nat_eq-differs (row_of n) 9 p in (omega arith, omega arith))
neighbor-on_board DownRight n m on e =
    step_made (nat_eq (row_of n) 9) (nat_eq (column_of n) 9) n m _ _ e
    (λ p q. let differs = nat_eq-differs (row_of n) 9 p in let differs' = nat_eq-differs (column_of n) 9 q in
    (omega arith, omega arith))

and_true : (a b : Bool) → (a && b) ≡ true → (a ≡ true) × (b ≡ true)
and_true true b e = (refl, e)
and_true false b e = cc

is_on : (n : ℕ) → (nat_le 1 n && nat_le n 50) ≡ true → OnBoard n
is_on n e = let w = and_true (nat_le 1 n) (nat_le n 50) e in (grind (arith, common_steps), grind (arith, common_steps))

pub step-on_board : (d : Direction) (n m : ℕ) → step d n ≡ Some m → OnBoard m
unfolding step
step-on_board d n m e =
    elim (nat_le 1 n && nat_le n 50) as (λ c. (nat_le 1 n && nat_le n 50) ≡ c → cond c (neighbor d n) None ≡ Some m
    → OnBoard m) [
      | true ↦ λ on e. neighbor-on_board d n m (is_on n on) e
      | false ↦ λ _ e. cc
    ] refl e

pub step-neighbor : (d : Direction) (n : ℕ) → OnBoard n → step d n ≡ neighbor d n
unfolding step
step-neighbor d n on =
    let low : nat_le 1 n ≡ true = grind (arith, common_steps) in
    let high : nat_le n 50 ≡ true = grind (arith, common_steps) in
    λ i. cond (low i && high i) (neighbor d n) None

line-on_board : (k : ℕ) (d : Direction) (n : ℕ) → AllOnBoard (line k d n)
unfolding line
line-on_board zero d n = tt
line-on_board (suc k) d n =
    elim (step d n) as (λ o. step d n ≡ o → AllOnBoard (option_map_or (λ m. m ∷ line k d m) o [])) [
      | None ↦ λ e. tt
      | Some m ↦ λ e. (step-on_board d n m e, line-on_board k d m)
    ] refl

pub ray-on_board : (d : Direction) (n : ℕ) → AllOnBoard (ray d n)
unfolding ray
ray-on_board d n = line-on_board 9 d n

-- A number that is no square has no diagonal.
pub ray-off : (d : Direction) (n : ℕ) → OnBoard n ⊎ (ray d n ≡ [])
unfolding ray step
ray-off d n =
    elim (nat_le 1 n && nat_le n 50) as (λ c. (nat_le 1 n && nat_le n 50) ≡ c → OnBoard n ⊎ (ray d n ≡ [])) [
      | true ↦ λ on. inl (is_on n on)
      | false ↦ λ off. inr (line-edge 9 d n (ap (λ c. cond c (neighbor d n) None) off))
    ] refl

-- Row and column determine the number, and the number determines them.
pub number_at-row_of : (n : ℕ) → OnBoard n → number_at (row_of n) (column_of n) ≡ n
number_at-row_of n on = omega arith

pub row_of-number_at : (r c : ℕ) → r ≤ 9 → c ≤ 9 → (r + c) % 2 ≡ 1 → (row_of (number_at r c) ≡ r)
    × (column_of (number_at r c) ≡ c)
row_of-number_at r c hr hc odd = (omega arith, omega arith)
