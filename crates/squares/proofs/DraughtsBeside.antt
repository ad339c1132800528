-- Words that are shifted by the rows' numbers have the squares beside those of a set.
use Rattle.std.proofs.Common.{◌≡◌, ℕ, zero, suc, ◌+◌, ◌-◌, ◌^◌, ◌<◌, ◌≤◌, Bool, true, false, cond, not, ◌&&◌, ◌||◌}
use Rattle.std.proofs.Common.{nat_eq, nat_le, nat_lt, Option, Some, None, inl, inr, refl, sym, ap, ◌∙◌, subst, arith}
use Rattle.std.specs.List.{list_all, range_with_len}
use Rattle.std.specs.Option.{option_map_or}
use Rattle.std.specs.FinSet as set
use Rattle.std.proofs.lemmas.Bool.{cases_lt}
use Rattle.std.proofs.lemmas.Bool.Decides.{nat_tests}
use Rattle.std.proofs.lemmas.Grind.{common_steps}
use Rattle.masks.specs.Words.{Numbers, has_bit}
use Rattle.masks.specs.internal.Words.{has_bit_above}
use Rattle.squares.specs.declared.draughts.direction.Direction.{Direction}
use Rattle.squares.specs.declared.draughts.direction.Direction.TheVariants.{UpLeft, UpRight, DownLeft, DownRight}
use Rattle.squares.specs.DraughtsGeometry.{neighbor, step}
use Rattle.squares.specs.internal.DraughtsMarks.{nat_eq-same}
use Rattle.squares.proofs.DraughtsTables.{all_found, in_range}

-- whether the next square is a, where the first flag stands, b, where the second stands, and none, where neither stands
abbrev says : Option ℕ → Bool → Bool → ℕ → ℕ → Bool
says None e o a b = not e && not o
says (Some m) true true a b = false
says (Some m) true false a b = nat_eq m a
says (Some m) false true a b = nat_eq m b
says (Some m) false false a b = false

neither : (x y : Bool) → (x && false || y && false) ≡ false
neither true true = refl
neither true false = refl
neither false true = refl
neither false false = refl

first_alone : (x y : Bool) → (x && true || y && false) ≡ x
first_alone true y = refl
first_alone false true = refl
first_alone false false = refl

second_alone : (x y : Bool) → (x && false || y && true) ≡ y
second_alone true true = refl
second_alone true false = refl
second_alone false true = refl
second_alone false false = refl

joined : (s : Numbers) (next : Option ℕ) (e o : Bool) (a b : ℕ) (x y : Bool) → says next e o a b ≡ true
    → (e ≡ true → x ≡ set.contains s a) → (o ≡ true → y ≡ set.contains s b)
    → (x && e || y && o) ≡ option_map_or (set.contains s) next false
joined s None true o a b x y h f g = cc
joined s None false true a b x y h f g = cc
joined s None false false a b x y h f g = neither x y
joined s (Some m) true true a b x y h f g = cc
joined s (Some m) true false a b x y h f g = first_alone x y ∙ f refl ∙ sym (ap (set.contains s) (nat_eq-same m a h))
joined s (Some m) false true a b x y h f g = second_alone x y ∙ g refl ∙ sym (ap (set.contains s) (nat_eq-same m b h))
joined s (Some m) false false a b x y h f g = cc

and_true : (a b : Bool) → (a && b) ≡ true → (a ≡ true) × (b ≡ true)
and_true true b e = (refl, e)
and_true false b e = cc

-- where the flag stands, the square comes after k
abbrev after : ℕ → Bool → ℕ → Bool
after k e n = not e || nat_lt k (n + 1)

comes_after : (k n : ℕ) (e : Bool) → after k e n ≡ true → e ≡ true → k < n + 1
comes_after k n true h e = grind (arith, nat_tests)
comes_after k n false h e = cc

abbrev up : Direction → ℕ → ℕ → ℕ → ℕ → ℕ → Bool
up d v k w l n = says (step d (n + 1)) (has_bit v n) (has_bit w n) (n + 1 - k) (n + 1 - l) &&
    (after k (has_bit v n) n && after l (has_bit w n) n)

abbrev down : Direction → ℕ → ℕ → ℕ → ℕ → ℕ → Bool
down d v k w l n = says (step d (n + 1)) (has_bit v n) (has_bit w n) (n + 1 + k) (n + 1 + l)

-- this is computed, for each square
pub up_left : list_all (up UpLeft 34118178995200 5 1056562962432960 6) (range_with_len 0 50) ≡ true
unfolding neighbor step has_bit
up_left = refl

pub up_right : list_all (up UpRight 16508796288000 4 1091781727847392 5) (range_with_len 0 50) ≡ true
unfolding neighbor step has_bit
up_right = refl

pub down_left : list_all (down DownLeft 34118178995231 5 1031799768000 4) (range_with_len 0 50) ≡ true
unfolding neighbor step has_bit
down_left = refl

pub down_right : list_all (down DownRight 16508796288015 6 1066193093600 5) (range_with_len 0 50) ≡ true
unfolding neighbor step has_bit
down_right = refl

no_square : (b : Bool) (o : Option ℕ) → cond (b && false) o None ≡ None
no_square true o = refl
no_square false o = refl

step_past : (d : Direction) (n : ℕ) → 50 ≤ n → step d (n + 1) ≡ None
unfolding step
step_past d n past =
    let high : nat_le (n + 1) 50 ≡ false = grind (arith, common_steps) in
    ap (λ b. cond (nat_le 1 (n + 1) && b) (neighbor d (n + 1)) None) high
    ∙ no_square (nat_le 1 (n + 1)) (neighbor d (n + 1))

step_none : (d : Direction) → step d 0 ≡ None
unfolding step
step_none d = refl

module _ (d : Direction) (s even odd result : Numbers) (v k w l : ℕ) (small_v : v < 2 ^ 50) (small_w : w < 2 ^ 50)
    (none : set.contains result 0 ≡ false) (squares : (n : ℕ)
    →
    set.contains result (n + 1) ≡ (set.contains even (n + 1) && has_bit v n || set.contains odd (n + 1) && has_bit w n))
  where
    past_board : (n : ℕ) → 50 ≤ n → set.contains result (n + 1) ≡ option_map_or (set.contains s) (step d (n + 1)) false
    past_board n past =
        squares n
        ∙
        (λ i. set.contains even (n + 1) && has_bit_above 1 50 v small_v n past i || set.contains odd (n + 1) &&
        has_bit_above 1 50 w small_w n past i)
        ∙ neither (set.contains even (n + 1)) (set.contains odd (n + 1))
        ∙ sym (ap (λ o. option_map_or (set.contains s) o false) (step_past d n past))

    all_squares : ((n : ℕ) → n < 50 → set.contains result (n + 1)
        ≡ option_map_or (set.contains s) (step d (n + 1)) false)
        → (q : ℕ) → set.contains result q ≡ option_map_or (set.contains s) (step d q) false
    all_squares inside zero = none ∙ sym (ap (λ o. option_map_or (set.contains s) o false) (step_none d))
    all_squares inside (suc n) =
        let is : n + 1 ≡ suc n = omega arith in
        subst (λ q. set.contains result q ≡ option_map_or (set.contains s) (step d q) false) is
        (elim (cases_lt n 50) [ inl less ↦ inside n less | inr past ↦ past_board n past ])

    pub beside_up : list_all (up d v k w l) (range_with_len 0 50) ≡ true
        → ((q : ℕ) → k < q → q ≤ 50 → set.contains even q ≡ set.contains s (q - k))
        → ((q : ℕ) → l < q → q ≤ 50 → set.contains odd q ≡ set.contains s (q - l)) → (q : ℕ)
        → set.contains result q ≡ option_map_or (set.contains s) (step d q) false
    beside_up table from_even from_odd =
        all_squares (λ n less.
        let right = all_found (up d v k w l) (range_with_len 0 50) n (in_range 0 50 n (omega arith) (omega arith)) table
        in
        let one = and_true (says (step d (n + 1)) (has_bit v n) (has_bit w n) (n + 1 - k) (n + 1 - l))
        (after k (has_bit v n) n && after l (has_bit w n) n) right in
        let two = and_true (after k (has_bit v n) n) (after l (has_bit w n) n) one.1 in
        squares n
        ∙ joined s (step d (n + 1)) (has_bit v n) (has_bit w n) (n + 1 - k) (n + 1 - l) (set.contains even (n + 1))
        (set.contains odd (n + 1)) one.0
        (λ e. from_even (n + 1) (comes_after k n (has_bit v n) two.0 e) (omega arith))
        (λ e. from_odd (n + 1) (comes_after l n (has_bit w n) two.1 e) (omega arith)))

    pub beside_down : list_all (down d v k w l) (range_with_len 0 50) ≡ true
        → ((q : ℕ) → 1 ≤ q → set.contains even q ≡ set.contains s (q + k))
        → ((q : ℕ) → 1 ≤ q → set.contains odd q ≡ set.contains s (q + l)) → (q : ℕ)
        → set.contains result q ≡ option_map_or (set.contains s) (step d q) false
    beside_down table from_even from_odd =
        all_squares (λ n less.
        let right = all_found (down d v k w l) (range_with_len 0 50) n (in_range 0 50 n (omega arith) (omega arith))
        table
        in
        squares n
        ∙ joined s (step d (n + 1)) (has_bit v n) (has_bit w n) (n + 1 + k) (n + 1 + l) (set.contains even (n + 1))
        (set.contains odd (n + 1)) right
        (λ e. from_even (n + 1) (omega arith)) (λ e. from_odd (n + 1) (omega arith)))
