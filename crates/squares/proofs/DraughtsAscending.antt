-- The ascending squares of a set kept as marks.
use Rattle.std.proofs.Common.{◌≡◌, ℕ, suc, ◌+◌, ◌<◌, Bool, false, cond, List, [], ◌∷◌, length, get_or, refl, sym, ap}
use Rattle.std.proofs.Common.{◌∙◌, arith, add-one}
use Rattle.std.specs.Prelude.{filter}
use Rattle.std.specs.Ordering.{nat_cmp}
use Rattle.std.specs.List.{range_with_len, list_any}
use Rattle.std.specs.Cmp.Lexicographic.{slice_cmp}
use Rattle.std.specs.declared.cmp.Ordering.{Ordering}
use Rattle.std.specs.FinSet as set
use Rattle.squares.specs.DraughtsSets.{ascending}
use Rattle.squares.specs.internal.DraughtsSets.{marked, squares_of}
use Rattle.squares.specs.internal.DraughtsMarks.{contains-squares_of}

-- a test that answers as the marks do finds what is marked
filter-marked : (p : ℕ → Bool) (bs : List Bool) (n : ℕ)
    → ((q k : ℕ) → q ≡ n + k → k < length bs → p q ≡ get_or bs k false)
    → filter p (range_with_len n (length bs)) ≡ marked n bs
filter-marked p [] n is = refl
filter-marked p (b ∷ bs) n is =
    let rest : filter p (range_with_len (n + 1) (length bs)) ≡ marked (suc n) bs =
    ap (λ m. filter p (range_with_len m (length bs))) (add-one n)
    ∙ filter-marked p bs (suc n) (λ q k e h. is q (suc k) (omega arith) (omega arith)) in
    ap (λ c. cond c (n ∷ filter p (range_with_len (n + 1) (length bs))) (filter p (range_with_len (n + 1) (length bs))))
    (is n 0 (omega arith) (omega arith))
    ∙ (λ i. cond b (n ∷ rest i) (rest i))

pub ascending-squares_of : (bs : List Bool) → length bs ≡ 50 → ascending (squares_of bs) ≡ marked 1 bs
unfolding ascending
ascending-squares_of bs h =
    ap (λ n. filter (set.contains (squares_of bs)) (range_with_len 1 n)) (sym h)
    ∙ filter-marked (set.contains (squares_of bs)) bs 1 (λ q k e _. contains-squares_of bs q k (omega arith))

abbrev pub compared : ℕ → List Bool → List Bool → Ordering
compared n xs ys = slice_cmp nat_cmp (marked n xs) (marked n ys)

-- whether a mark follows
abbrev pub has_mark : List Bool → Bool
has_mark bs = list_any (λ b. b) bs
