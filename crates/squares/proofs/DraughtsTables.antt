-- The table of next squares is the geometry.
use Rattle.std.proofs.Common.{◌≡◌, ℕ, zero, suc, ◌+◌, ◌<◌, ◌≤◌, Bool, true, false, ◌&&◌, nat_eq, nat_le, Option, Some}
use Rattle.std.proofs.Common.{None, List, [], ◌∷◌, inl, inr, refl, sym, ap, ◌∙◌, arith}
use Rattle.std.specs.List.{list_all, range_with_len, slice_index}
use Rattle.std.proofs.lemmas.Bool.{cases_eq}
use Rattle.std.proofs.lemmas.Grind.{common_steps}
use Rattle.squares.specs.internal.In.{In}
use Rattle.squares.specs.declared.draughts.square.TheConstants.{NEIGHBORS}
use Rattle.squares.specs.declared.draughts.direction.Direction.{Direction}
use Rattle.squares.specs.declared.draughts.direction.Direction.TheVariants.{UpLeft, UpRight, DownLeft, DownRight}
use Rattle.squares.specs.DraughtsGeometry.{neighbor}
use Rattle.squares.specs.internal.DraughtsGeometry.{OnBoard}
use Rattle.squares.specs.internal.DraughtsMarks.{nat_eq-same}
use Rattle.squares.specs.internal.DraughtsTable.{place_of}

-- whether an entry says what is there
abbrev says : ℕ → Option ℕ → Bool
says k None = nat_eq k 0
says k (Some m) = nat_eq k m && nat_le 1 m && nat_le m 50

abbrev right : Direction → ℕ → Bool
right d n = says (slice_index NEIGHBORS (place_of d + n)) (neighbor d n)

-- this is computed, for each of the two hundred entries
all_right : (d : Direction) → list_all (right d) (range_with_len 1 50) ≡ true
unfolding neighbor
all_right UpLeft = refl
all_right UpRight = refl
all_right DownLeft = refl
all_right DownRight = refl

and_true : (a b : Bool) → (a && b) ≡ true → (a ≡ true) × (b ≡ true)
and_true true b e = (refl, e)
and_true false b e = cc

pub in_range : (a n v : ℕ) → a ≤ v → v < a + n → In v (range_with_len a n)
in_range a zero v h k = absurd (omega arith)
in_range a (suc n) v h k = elim (cases_eq a v)
    [ inl e ↦ inl e | inr d ↦ inr (in_range (a + 1) n v (omega arith) (omega arith)) ]

pub all_found : {A : Type 0} (f : A → Bool) (xs : List A) (x : A) → In x xs → list_all f xs ≡ true → f x ≡ true
all_found f [] x h e = absurd h
all_found f (y ∷ xs) x (inl same) e = ap f (sym same) ∙ (and_true (f y) (list_all f xs) e).0
all_found f (y ∷ xs) x (inr h) e = all_found f xs x h (and_true (f y) (list_all f xs) e).1

one_right : (d : Direction) (n : ℕ) → OnBoard n → right d n ≡ true
one_right d n on = all_found (right d) (range_with_len 1 50) n (in_range 1 50 n on.0 (omega (arith, on.1)))
    (all_right d)

none_said : (k : ℕ) (o : Option ℕ) → says k o ≡ true → k ≡ 0 → None ≡ o
none_said k None e z = refl
none_said k (Some m) e z =
    let w = and_true (nat_eq k m && nat_le 1 m) (nat_le m 50) e in
    let v = and_true (nat_eq k m) (nat_le 1 m) w.0 in
    let low : 1 ≤ m = grind (arith, common_steps) in
    absurd (omega (arith, nat_eq-same k m v.0))

some_said : (k : ℕ) (o : Option ℕ) → says k o ≡ true → (k ≡ 0 → ⊥) → (Some k ≡ o) × (1 ≤ k) × (k ≤ 50)
some_said k None e z = absurd (z (nat_eq-same k 0 e))
some_said k (Some m) e z =
    let w = and_true (nat_eq k m && nat_le 1 m) (nat_le m 50) e in
    let v = and_true (nat_eq k m) (nat_le 1 m) w.0 in
    let same : k ≡ m = nat_eq-same k m v.0 in
    let low : 1 ≤ m = grind (arith, common_steps) in
    let high : m ≤ 50 = grind (arith, common_steps) in
    (ap Some same, omega arith, omega arith)

module _ (d : Direction) (n k : ℕ) (on : OnBoard n) (is : k ≡ slice_index NEIGHBORS (place_of d + n)) where
  said : says k (neighbor d n) ≡ true
  said = ap (λ e. says e (neighbor d n)) is ∙ one_right d n on

  pub no_entry : k ≡ 0 → None ≡ neighbor d n
  no_entry z = none_said k (neighbor d n) said z

  pub some_entry : (k ≡ 0 → ⊥) → (Some k ≡ neighbor d n) × (1 ≤ k) × (k ≤ 50)
  some_entry z = some_said k (neighbor d n) said z
