-- A line reaches the board's edge within nine squares.
use Rattle.std.proofs.Common.{◌≡◌, ℕ, zero, suc, ◌≤◌, Bool, true, false, not, nat_eq, Option, Some, None, List, [], ◌∷◌}
use Rattle.std.proofs.Common.{inl, inr, refl, sym, ap, ◌∙◌, arith}
use Rattle.std.specs.Prelude.{is_none}
use Rattle.std.specs.List.{list_all, range_with_len}
use Rattle.std.specs.Option.{option_map_or}
use Rattle.squares.specs.declared.draughts.direction.Direction.{Direction}
use Rattle.squares.specs.declared.draughts.direction.Direction.TheVariants.{UpLeft, UpRight, DownLeft, DownRight}
use Rattle.squares.specs.DraughtsGeometry.{neighbor, step, line, ray}
use Rattle.squares.specs.internal.DraughtsGeometry.{OnBoard, line-step, line-edge}
use Rattle.squares.specs.internal.DraughtsOnBoard.{ray-off}
use Rattle.squares.proofs.DraughtsTables.{all_found, in_range}

-- whether at most k squares lie before the edge
abbrev pub ends_within : ℕ → Direction → ℕ → Bool
ends_within zero d n = is_none (step d n)
ends_within (suc k) d n = option_map_or (ends_within k d) (step d n) true

-- this is computed, for each square
all_end : (d : Direction) → list_all (ends_within 9 d) (range_with_len 1 50) ≡ true
unfolding step neighbor
all_end UpLeft = refl
all_end UpRight = refl
all_end DownLeft = refl
all_end DownRight = refl

pub ray-ends : (d : Direction) (n : ℕ) → OnBoard n → ends_within 9 d n ≡ true
ray-ends d n on = all_found (ends_within 9 d) (range_with_len 1 50) n (in_range 1 50 n on.0 (omega (arith, on.1)))
    (all_end d)

pub ends-next : (k : ℕ) (d : Direction) (n m : ℕ) → step d n ≡ Some m → ends_within (suc k) d n ≡ true
    → ends_within k d m ≡ true
ends-next k d n m e h = sym (ap (λ o. option_map_or (ends_within k d) o true) e) ∙ h

no_more : (o : Option ℕ) → is_none o ≡ true → o ≡ None
no_more None e = refl
no_more (Some m) e = cc

-- a longer walk comes to the same squares
pub line-ends : (k j : ℕ) (d : Direction) (n : ℕ) → k ≤ j → ends_within k d n ≡ true → line k d n ≡ line j d n
line-ends zero j d n less h =
    let edge = no_more (step d n) h in
    line-edge zero d n edge ∙ sym (line-edge j d n edge)
line-ends (suc k) zero d n less h = absurd (omega arith)
line-ends (suc k) (suc j) d n less h =
    elim (step d n) as (λ o. step d n ≡ o → line (suc k) d n ≡ line (suc j) d n) [
      | None ↦ λ edge. line-edge (suc k) d n edge ∙ sym (line-edge (suc j) d n edge)
      | Some m ↦ λ next.
          line-step (suc k) k d n m next (omega arith)
          ∙ ap (λ ms. m ∷ ms) (line-ends k j d m (omega arith) (ends-next k d n m next h))
          ∙ sym (line-step (suc j) j d n m next (omega arith))
    ] refl

-- this is computed, for each square: two steps do not come back
abbrev apart : Direction → ℕ → Bool
apart d n = option_map_or (λ m. option_map_or (λ l. not (nat_eq l n)) (step d m) true) (step d n) true

all_apart : (d : Direction) → list_all (apart d) (range_with_len 1 50) ≡ true
unfolding step neighbor
all_apart UpLeft = refl
all_apart UpRight = refl
all_apart DownLeft = refl
all_apart DownRight = refl

pub step-from_on : (d : Direction) (n m : ℕ) → step d n ≡ Some m → OnBoard n
unfolding ray
step-from_on d n m e = elim (ray-off d n) [
  | inl on ↦ on
  | inr none ↦ absurd (let f = line-step 9 8 d n m e refl in let never = sym f ∙ none in
      nothing m (line 8 d m) never)
]
  where
    nothing : (x : ℕ) (xs : List ℕ) → x ∷ xs ≡ [] → ⊥
    nothing x xs e = cc

pub two_steps-apart : (d : Direction) (n m l : ℕ) → step d n ≡ Some m → step d m ≡ Some l → nat_eq l n ≡ false
two_steps-apart d n m l first second =
    let on = step-from_on d n m first in
    let far = all_found (apart d) (range_with_len 1 50) n (in_range 1 50 n on.0 (omega (arith, on.1))) (all_apart d) in
    not_true (nat_eq l n)
    (sym (ap (λ o. option_map_or (λ k. option_map_or (λ j. not (nat_eq j n)) (step d k) true) o true) first
    ∙ ap (λ o. option_map_or (λ j. not (nat_eq j n)) o true) second) ∙ far)
  where
    not_true : (b : Bool) → not b ≡ true → b ≡ false
    not_true true e = sym e
    not_true false e = refl
