-- Lemmas about loops over a set in ascending order. No promise of the program rests on these definitions.
use Rattle.std.proofs.Common.{◌≡◌, ℕ, zero, suc, ◌+◌, ◌<◌, Bool, true, false, not, ◌&&◌, cond, List, [], ◌∷◌, ◌++◌}
use Rattle.std.proofs.Common.{length, refl, sym, ap, ◌∙◌, arith}
use Rattle.std.specs.List.{flat_map, range_with_len}
use Rattle.std.specs.Cmp.{nat_cmp_total}
use Rattle.std.specs.Ordering.{eq_by_cmp, nat_cmp}
use Rattle.std.specs.FinSet as set
use Rattle.std.proofs.lemmas.List.{append_assoc, append-nil}
use Rattle.masks.specs.Words.{Numbers, passing}
use Rattle.masks.specs.internal.Words.{ascending}

one_more : (n : ℕ) → n + 1 ≡ suc n
one_more n = omega arith

flat_map-passing : {A : Type 0} (f : ℕ → List A) (test : ℕ → Bool) (first count : ℕ)
    → ((q : ℕ) → test q ≡ false → f q ≡ []) → flat_map f (range_with_len first count)
    ≡ flat_map f (passing test first count)
unfolding passing
flat_map-passing f test first zero none = refl
flat_map-passing f test first (suc count) none =
    let rest : flat_map f (range_with_len (first + 1) count) ≡ flat_map f (passing test (suc first) count) =
    ap (λ n. flat_map f (range_with_len n count)) (one_more first) ∙ flat_map-passing f test (suc first) count none in
    elim (test first) as (λ b. test first ≡ b
    → f first ++ flat_map f (range_with_len (first + 1) count) ≡
    flat_map f (cond b (first ∷ passing test (suc first) count) (passing test (suc first) count))) [
      | true ↦ λ _. ap (λ ys. f first ++ ys) rest
      | false ↦ λ e. ap (λ xs. xs ++ flat_map f (range_with_len (first + 1) count)) (none first e) ∙ rest
    ] refl

-- Flat-mapping over a range equals flat-mapping over a set, if `f` is empty outside the set.
pub flat_map-ascending : {A : Type 0} (f : ℕ → List A) (s : Numbers) (first count : ℕ)
    → ((q : ℕ) → set.contains s q ≡ false → f q ≡ [])
    → flat_map f (range_with_len first count) ≡ flat_map f (ascending first count s)
unfolding ascending
flat_map-ascending f s first count none = flat_map-passing f (set.contains s) first count none

-- Invariant of a loop that pops the least number and appends its part: the list so far followed by the rest stays the
-- same.
pub popped_more : {A : Type 0} (f : ℕ → List A) (first count : ℕ) (before after : Numbers) (n : ℕ)
    (whole old new : List A) → ascending first count before ≡ n ∷ ascending first count after →
    old ++ flat_map f (ascending first count before) ≡ whole → new ≡ old ++ f n
    → new ++ flat_map f (ascending first count after) ≡ whole
popped_more f first count before after n whole old new pop so_far step =
    ap (λ xs. xs ++ flat_map f (ascending first count after)) step
    ∙ append_assoc old (f n) (flat_map f (ascending first count after)) ∙ sym (ap (λ ns. old ++ flat_map f ns) pop)
    ∙ so_far

pub popped_all : {A : Type 0} (f : ℕ → List A) (first count : ℕ) (before : Numbers) (whole old : List A)
    → ascending first count before ≡ [] → old ++ flat_map f (ascending first count before) ≡ whole → old ≡ whole
popped_all f first count before whole old none so_far = sym (append-nil old)
    ∙ sym (ap (λ ns. old ++ flat_map f ns) none) ∙ so_far

pub popped_fewer : (first count : ℕ) (before after : Numbers) (n : ℕ)
    → ascending first count before ≡ n ∷ ascending first count after
    → length (ascending first count after) < length (ascending first count before)
popped_fewer first count before after n pop = omega (arith, ap length pop)

-- A number that is still in a set after a removal was in it before.
pub popped_kept : (s : Numbers) (n q : ℕ) → set.contains (set.remove s n) q ≡ true → set.contains s q ≡ true
popped_kept s n q h = right (not (eq_by_cmp nat_cmp q n)) (set.contains s q)
    (sym (set.contains-remove nat_cmp_total s n q) ∙ h)
  where
    right : (a b : Bool) → (a && b) ≡ true → b ≡ true
    right true b e = e
    right false b e = cc
