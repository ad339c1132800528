-- Lemmas about a set of squares as a list of 50 marks. No promise of the program rests on these definitions.
use Rattle.std.proofs.Common.{◌≡◌, ℕ, zero, suc, ◌+◌, ◌<◌, Bool, true, false, cond, ◌||◌, List, [], ◌∷◌, length, get_or}
use Rattle.std.proofs.Common.{nat_eq, ◌≢◌, ◌⊎◌, inl, inr, refl, sym, ap, ◌∙◌, arith, add_comm}
use Rattle.std.specs.Prelude.{map}
use Rattle.std.specs.Ordering.{nat_cmp}
use Rattle.std.specs.Cmp.{nat_cmp_total, unsigned_tied}
use Rattle.std.specs.FinSet.{nat_cmp-IsAntisymmetric}
use Rattle.std.proofs.Math.ListN.{set as list_set}
use Rattle.std.specs.List.{list_any, range_with_len, count_by}
use Rattle.std.specs.FinSet as set
use Rattle.std.proofs.lemmas.Grind.{common_steps}
use Rattle.std.proofs.lemmas.List.Sums.{sum_by_from}
use Rattle.std.proofs.lemmas.Bool.{cases_eq}
use Rattle.std.proofs.lemmas.List.{ext_get_or, length-map, get_or-set_same, get_or-set_other}
use Rattle.std.proofs.lemmas.List.FromFn.{get_or-map-range_with_len}
use Rattle.squares.specs.DraughtsSets.{Squares}
use Rattle.squares.specs.internal.DraughtsSets.{marked, squares_of}

pub nat_eq_below : (n q : ℕ) → q < n → nat_eq n q ≡ false
nat_eq_below n q h = grind (arith, common_steps)

pub nat_eq_above : (n q : ℕ) → n < q → nat_eq n q ≡ false
nat_eq_above n q h = grind (arith, common_steps)

pub nat_eq_other : (n q : ℕ) → n ≢ q → nat_eq n q ≡ false
nat_eq_other n q h = grind (arith, common_steps)

pub nat_eq_same : (n q : ℕ) → n ≡ q → nat_eq n q ≡ true
nat_eq_same n q h = grind (arith, common_steps)

pub nat_eq-same : (m n : ℕ) → nat_eq m n ≡ true → m ≡ n
nat_eq-same m n e = elim (cases_eq m n) [ inl s ↦ s | inr d ↦ let f = nat_eq_other m n d in cc ]

-- Nothing below the first square is marked.
marked_below : (bs : List Bool) (n q : ℕ) → q < n → list_any (λ y. nat_eq y q) (marked n bs) ≡ false
marked_below [] n q h = refl
marked_below (true ∷ bs) n q h = rw (nat_eq_below n q h) (marked_below bs (suc n) q (omega arith))
marked_below (false ∷ bs) n q h = marked_below bs (suc n) q (omega arith)

marked_at : (bs : List Bool) (n q k : ℕ) → q ≡ n + k → list_any (λ y. nat_eq y q) (marked n bs) ≡ get_or bs k false
marked_at [] n q k e = refl
marked_at (true ∷ bs) n q zero e = rw (nat_eq_same n q (omega arith)) refl
marked_at (false ∷ bs) n q zero e = marked_below bs (suc n) q (omega arith)
marked_at (true ∷ bs) n q (suc k) e = rw (nat_eq_above n q (omega arith)) (marked_at bs (suc n) q k (omega arith))
marked_at (false ∷ bs) n q (suc k) e = marked_at bs (suc n) q k (omega arith)

pub contains-squares_of : (bs : List Bool) (q k : ℕ) → q ≡ k + 1 → set.contains (squares_of bs) q ≡ get_or bs k false
unfolding squares_of
contains-squares_of bs q k e = set.contains-from_list_nat (marked 1 bs) q ∙ marked_at bs 1 q k (omega arith)

pub squares_of-no_zero : (bs : List Bool) → set.contains (squares_of bs) 0 ≡ false
unfolding squares_of
squares_of-no_zero bs = set.contains-from_list_nat (marked 1 bs) 0 ∙ marked_below bs 1 0 (omega arith)

pub marks_back : (bs : List Bool) → length bs ≡ 50
    → map (λ n. set.contains (squares_of bs) n) (range_with_len 1 50) ≡ bs
marks_back bs h =
    ext_get_or false _ _ (simp length-map (sym h))
    (λ k below. let b : k < 50 = simp length-map at below in
    get_or-map-range_with_len (λ n. set.contains (squares_of bs) n) 1 50 k (k + 1) false b (omega arith)
    ∙ contains-squares_of bs (k + 1) k refl)

-- Membership after an insertion, in terms of `nat_eq`.
pub contains-insert_nat : (s : Squares) (n q : ℕ) → set.contains (set.insert s n) q ≡ (nat_eq q n || set.contains s q)
contains-insert_nat s n q = set.contains-insert nat_cmp_total s n q
    ∙ ap (λ b. b || set.contains s q) (unsigned_tied q n)

set_or : (bs : List Bool) (j k : ℕ) → k < length bs → ((j ≡ k) ⊎ (j ≢ k))
    → get_or (list_set bs k true) j false ≡ (nat_eq j k || get_or bs j false)
set_or bs j k h (inl same) = rw (nat_eq_same j k same) (rw same (get_or-set_same bs k true false h))
set_or bs j k h (inr other) = rw (nat_eq_other j k other) (get_or-set_other bs k j true false other)

squares_of-mark_at : (bs : List Bool) (n k q : ℕ) → n ≡ k + 1 → k < length bs
    → set.contains (squares_of (list_set bs k true)) q ≡ (nat_eq q n || set.contains (squares_of bs) q)
squares_of-mark_at bs n k zero e h =
    squares_of-no_zero (list_set bs k true) ∙ sym
    (ap (λ b. b || set.contains (squares_of bs) 0) (nat_eq_above 0 n (omega arith)) ∙ squares_of-no_zero bs)
squares_of-mark_at bs n k (suc j) e h =
    let there = contains-squares_of (list_set bs k true) (suc j) j (omega arith) in
    let before = contains-squares_of bs (suc j) j (omega arith) in
    let same : nat_eq (suc j) n ≡ nat_eq j k = grind (arith, common_steps) in
    there ∙ set_or bs j k h (cases_eq j k) ∙ sym
    (ap (λ b. b || set.contains (squares_of bs) (suc j)) same ∙ ap (λ b. nat_eq j k || b) before)

-- Marking a square inserts it.
pub squares_of-mark : (bs : List Bool) (n k : ℕ) → n ≡ k + 1 → k < length bs
    → squares_of (list_set bs k true) ≡ set.insert (squares_of bs) n
squares_of-mark bs n k e h =
    set.same_set nat_cmp_total nat_cmp-IsAntisymmetric _ _
    (λ q. squares_of-mark_at bs n k q e h ∙ sym (contains-insert_nat (squares_of bs) n q))

len-marked : (bs : List Bool) (n : ℕ) → set.len (set.from_list {R = nat_cmp} (marked n bs)) ≡ count_by (λ b. b) bs
len-marked [] n = set.len-empty nat_cmp
len-marked (false ∷ bs) n = len-marked bs (suc n)
len-marked (true ∷ bs) n =
    let rest = set.from_list {R = nat_cmp} (marked (suc n) bs) in
    let fresh = set.contains-from_list_nat (marked (suc n) bs) n ∙ marked_below bs (suc n) n (omega arith) in
    set.len-insert nat_cmp_total rest n ∙ ap (λ b. cond b (set.len rest) (set.len rest + 1)) fresh
    ∙ ap (λ k. k + 1) (len-marked bs (suc n)) ∙ add_comm _ 1 ∙ sym (sum_by_from (λ b. cond b 1 0) 1 bs)

pub len-squares_of : (bs : List Bool) → set.len (squares_of bs) ≡ count_by (λ b. b) bs
unfolding squares_of
len-squares_of bs = len-marked bs 1
