-- The table of lines is the geometry, and what stands first on a line is an end of what is on it.
use Rattle.std.proofs.Common.{◌≡◌, ℕ, zero, suc, ◌+◌, ◌<◌, ◌≤◌, ◌^◌, Bool, true, false, not, cond, ◌&&◌, nat_eq, nat_lt}
use Rattle.std.proofs.Common.{◌⊎◌, Option, Some, None, List, [], ◌∷◌, inl, inr, refl, sym, ap, ◌∙◌, subst, arith}
use Rattle.std.specs.List.{find, list_all, list_any, range_with_len, slice_index}
use Rattle.std.specs.Cmp.{nat_cmp_total}
use Rattle.std.specs.Ordering.{nat_cmp}
use Rattle.std.specs.FinSet as set
use Rattle.std.proofs.lemmas.Bool.{cases_lt}
use Rattle.std.proofs.lemmas.Bool.Decides.{nat_tests}
use Rattle.masks.specs.Words.{Numbers, has_bit}
use Rattle.masks.specs.internal.Words.{IsLeast, IsGreatest}
use Rattle.squares.specs.internal.In.{In, list_any-found, list_any-finds}
use Rattle.squares.specs.declared.draughts.ray.TheConstants.{LINES}
use Rattle.squares.specs.declared.draughts.direction.Direction.{Direction}
use Rattle.squares.specs.declared.draughts.direction.Direction.TheVariants.{UpLeft, UpRight, DownLeft, DownRight}
use Rattle.squares.specs.DraughtsGeometry.{neighbor, step, line, ray}
use Rattle.squares.specs.internal.DraughtsGeometry.{OnBoard}
use Rattle.squares.specs.internal.DraughtsMarks.{nat_eq-same, nat_eq_same}
use Rattle.squares.specs.internal.DraughtsOnBoard.{AllOnBoard, ray-on_board, ray-off}
use Rattle.squares.specs.internal.DraughtsTable.{place_of}
use Rattle.squares.proofs.DraughtsTables.{all_found, in_range}

pub contained-on : (s : Numbers) (n : ℕ) → ((q : ℕ) → (q < 1) ⊎ (50 < q) → set.contains s q ≡ false)
    → set.contains s n ≡ true → OnBoard n
contained-on s n off e = (
  elim (cases_lt n 1) [ inl low ↦ let none = off n (inl low) in cc | inr h ↦ h ],
  elim (cases_lt 50 n) [ inl high ↦ let none = off n (inr high) in cc | inr h ↦ h ],
)

same : Bool → Bool → Bool
same true b = b
same false b = not b

same-is : (a b : Bool) → same a b ≡ true → a ≡ b
unfolding same
same-is true b e = sym e
same-is false true e = cc
same-is false false e = refl

and_true : (a b : Bool) → (a && b) ≡ true → (a ≡ true) × (b ≡ true)
and_true true b e = (refl, e)
and_true false b e = cc

-- whether the bits of a word are those of the squares of a list
abbrev bits_are : ℕ → List ℕ → Bool
bits_are w ns = nat_lt w (2 ^ 50) && list_all (λ n. same (has_bit w n) (list_any (λ m. nat_eq m (n + 1)) ns))
    (range_with_len 0 50)

abbrev right : Direction → ℕ → Bool
right d n = bits_are (slice_index LINES (place_of d + n)) (ray d n)

-- this is computed, for each bit of the two hundred entries
all_right : (d : Direction) → list_all (right d) (range_with_len 1 50) ≡ true
unfolding same neighbor step line ray has_bit
all_right UpLeft = refl
all_right UpRight = refl
all_right DownLeft = refl
all_right DownRight = refl

abbrev pub entry : Direction → ℕ → ℕ
entry d n = slice_index LINES (place_of d + n)

on_square : (d : Direction) (n : ℕ) → OnBoard n → right d n ≡ true
on_square d n on = all_found (right d) (range_with_len 1 50) n (in_range 1 50 n on.0 (omega (arith, on.1)))
    (all_right d)

pub entry-fits : (d : Direction) (n : ℕ) → OnBoard n → entry d n < 2 ^ 50
entry-fits d n on =
    let fits =
    (and_true (nat_lt (entry d n) (2 ^ 50))
    (list_all (λ k. same (has_bit (entry d n) k) (list_any (λ m. nat_eq m (k + 1)) (ray d n)))
    (range_with_len 0 50)) (on_square d n on)).0 in
    grind (arith, nat_tests)

off_list : (q : ℕ) (ns : List ℕ) → AllOnBoard ns → (OnBoard q → ⊥) → list_any (λ m. nat_eq m q) ns ≡ false
off_list q ns all off =
    elim (list_any (λ m. nat_eq m q) ns) as (λ c. list_any (λ m. nat_eq m q) ns ≡ c → c ≡ false) [
      | true ↦ λ e. let w = list_any-found (λ m. nat_eq m q) ns e in
          absurd (off (subst OnBoard (nat_eq-same w.0 q w.2) (one ns all w.1)))
      | false ↦ λ _. refl
    ] refl
  where
    one : (ms : List ℕ) → AllOnBoard ms → {v : ℕ} → In v ms → OnBoard v
    one [] h k = absurd k
    one (m ∷ ms) h (inl e) = subst OnBoard e h.0
    one (m ∷ ms) h (inr k) = one ms h.1 k

-- the set of an entry has the squares of the line
module _ (d : Direction) (x : ℕ) (on : OnBoard x) (squares : Numbers)
    (off : (q : ℕ) → (q < 1) ⊎ (50 < q) → set.contains squares q ≡ false)
    (bits : (n : ℕ) → set.contains squares (n + 1) ≡ has_bit (entry d x) n) where
  at_bit : (k : ℕ) → k < 50 → set.contains squares (k + 1) ≡ list_any (λ m. nat_eq m (k + 1)) (ray d x)
  at_bit k less =
      let word = entry d x in
      let each =
      (and_true (nat_lt word (2 ^ 50))
      (list_all (λ j. same (has_bit word j) (list_any (λ m. nat_eq m (j + 1)) (ray d x))) (range_with_len 0 50))
      (on_square d x on)).1 in
      bits k ∙ same-is (has_bit word k) (list_any (λ m. nat_eq m (k + 1)) (ray d x))
      (all_found (λ j. same (has_bit word j) (list_any (λ m. nat_eq m (j + 1)) (ray d x))) (range_with_len 0 50) k
      (in_range 0 50 k (omega arith) (omega arith)) each)

  pub line-is : (n : ℕ) → set.contains squares n ≡ list_any (λ m. nat_eq m n) (ray d x)
  line-is zero = off zero (inl (omega arith))
      ∙ sym (off_list zero (ray d x) (ray-on_board d x) (λ on. omega (arith, on.0)))
  line-is (suc k) =
      elim (cases_lt k 50) [
        | inl less ↦ subst (λ q. set.contains squares q ≡ list_any (λ m. nat_eq m q) (ray d x))
            (let e : k + 1 ≡ suc k = omega arith in e) (at_bit k less)
        | inr past ↦ off (suc k) (inr (omega arith))
            ∙ sym (off_list (suc k) (ray d x) (ray-on_board d x) (λ on. omega (arith, on.1)))
      ]

-- what stands first in a list that is in order
module _ (test : ℕ → Bool) (comes : ℕ → ℕ → Bool) where
  abbrev pub in_order : List ℕ → Bool
  in_order [] = true
  in_order (x ∷ xs) = list_all (comes x) xs && in_order xs

  none_first : (xs : List ℕ) → ((q : ℕ) → In q xs → test q ≡ false) → find test xs ≡ None
  none_first [] none = refl
  none_first (x ∷ xs) none = rw (none x (inl refl)) (none_first xs (λ q h. none q (inr h)))

  first_is : (xs : List ℕ) (v : ℕ) → in_order xs ≡ true → In v xs → test v ≡ true
      → ((q : ℕ) → In q xs → test q ≡ true → comes q v ≡ false) → find test xs ≡ Some v
  first_is [] v order h has lead = absurd h
  first_is (x ∷ xs) v order h has lead =
      let w = and_true (list_all (comes x) xs) (in_order xs) order in
      elim (test x) as (λ c. test x ≡ c → cond c (Some x) (find test xs) ≡ Some v) [
        | true ↦ λ is. elim h [
          | inl e ↦ ap Some e
          | inr k ↦ let before = all_found (comes x) xs v k w.0 in let not_before = lead x (inl refl) is in cc
        ]
        | false ↦ λ is. elim h [
          | inl e ↦ let two = sym (ap test e) ∙ is in cc
          | inr k ↦ first_is xs v w.1 k has (λ q l t. lead q (inr l) t)
        ]
      ] refl

abbrev pub comes_on : Direction → ℕ → ℕ → Bool
comes_on UpLeft x y = nat_lt y x
comes_on UpRight x y = nat_lt y x
comes_on DownLeft x y = nat_lt x y
comes_on DownRight x y = nat_lt x y

-- this is computed, for each line
lines_in_order : (d : Direction) → list_all (λ n. in_order (λ _. true) (comes_on d) (ray d n)) (range_with_len 1 50)
    ≡ true
unfolding neighbor step line ray
lines_in_order UpLeft = refl
lines_in_order UpRight = refl
lines_in_order DownLeft = refl
lines_in_order DownRight = refl

ray_in_order : (test : ℕ → Bool) (d : Direction) (n : ℕ) → in_order test (comes_on d) (ray d n) ≡ true
ray_in_order test d n =
    elim (ray-off d n) [
      | inl on ↦ all_found (λ m. in_order test (comes_on d) (ray d m)) (range_with_len 1 50) n
          (in_range 1 50 n on.0 (omega (arith, on.1))) (lines_in_order d)
      | inr none ↦ ap (in_order test (comes_on d)) none
    ]

not_less : (a b : ℕ) → b ≤ a → nat_lt a b ≡ false
not_less a b h = grind (arith, nat_tests)

-- the end of what is of a set on a line is the first on the way
module _ (d : Direction) (x : ℕ) (on of there : Numbers)
    (is_line : (n : ℕ) → set.contains on n ≡ list_any (λ m. nat_eq m n) (ray d x))
    (both : there ≡ set.intersection on of) where
  parts : (n : ℕ) → set.contains there n ≡ (list_any (λ m. nat_eq m n) (ray d x) && set.contains of n)
  parts n = ap (λ s. set.contains s n) both ∙ set.contains-intersection nat_cmp_total on of n
      ∙ ap (λ b. b && set.contains of n) (is_line n)

  on_line : (n : ℕ) → In n (ray d x) → set.contains of n ≡ true → set.contains there n ≡ true
  on_line n h e = parts n ∙ (λ i. list_any-finds (λ m. nat_eq m n) (ray d x) n h (nat_eq_same n n refl) i && e i)

  split : (n : ℕ) → set.contains there n ≡ true → In n (ray d x) × (set.contains of n ≡ true)
  split n e =
      let w = and_true (list_any (λ m. nat_eq m n) (ray d x)) (set.contains of n) (sym (parts n) ∙ e) in
      let v = list_any-found (λ m. nat_eq m n) (ray d x) w.0 in
      (subst (λ m. In m (ray d x)) (nat_eq-same v.0 n v.2) v.1, w.1)

  nothing : there ≡ set.empty → None ≡ find (set.contains of) (ray d x)
  nothing e =
      sym (none_first (set.contains of) (comes_on d) (ray d x)
      (λ q h. elim (set.contains of q) as (λ c. set.contains of q ≡ c → c ≡ false) [
        | true ↦ λ has. let one = on_line q h has in
            let none = ap (λ s. set.contains s q) e ∙ set.contains-empty nat_cmp q in cc
        | false ↦ λ _. refl
      ] refl))

  found : (v : ℕ) → set.contains there v ≡ true → ((q : ℕ) → set.contains there q ≡ true → comes_on d q v ≡ false)
      → Some v ≡ find (set.contains of) (ray d x)
  found v has lead =
      let w = split v has in
      sym
      (first_is (set.contains of) (comes_on d) (ray d x) v (ray_in_order (set.contains of) d x) w.0 w.1
      (λ q h t. lead q (on_line q h t)))

  pub least-first : ((a b : ℕ) → comes_on d a b ≡ nat_lt a b) → (o : Option ℕ) → IsLeast there o
      → o ≡ find (set.contains of) (ray d x)
  least-first down None e = nothing e
  least-first down (Some v) e = found v e.0 (λ q h. down q v ∙ not_less q v (e.1 q h))

  pub greatest-first : ((a b : ℕ) → comes_on d a b ≡ nat_lt b a) → (o : Option ℕ) → IsGreatest there o
      → o ≡ find (set.contains of) (ray d x)
  greatest-first up None e = nothing e
  greatest-first up (Some v) e = found v e.0 (λ q h. up q v ∙ not_less v q (e.1 q h))
