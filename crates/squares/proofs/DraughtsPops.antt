-- Taking the least square out of a set.
use Rattle.std.proofs.Common.{◌≡◌, ℕ, zero, suc, ◌+◌, ◌≤◌, ◌<◌, Bool, true, false, cond, Option, Some, None, List, []}
use Rattle.std.proofs.Common.{◌∷◌, ◌++◌, length, take, refl, sym, ap, ◌∙◌, subst, arith}
use Rattle.std.specs.Prelude.{filter, is_some, IfSome}
use Rattle.std.specs.List.{range_with_len}
use Rattle.std.specs.FinSet as set
use Rattle.std.proofs.Math.ListN.{set as list_set}
use Rattle.std.proofs.lemmas.Grind.{common_steps}
use Rattle.std.proofs.lemmas.List.{append_assoc, append-nil}
use Rattle.masks.specs.Words.{passing}
use Rattle.masks.specs.internal.Words.{Pops}
use Rattle.masks.specs.internal.Words as words
use Rattle.squares.specs.DraughtsSets.{Squares, ascending}
use Rattle.squares.specs.internal.DraughtsSets.{PopsSquare}

passing-filter : (test : ℕ → Bool) (first count : ℕ)
    → passing test first count ≡ filter test (range_with_len first count)
unfolding passing
passing-filter test first zero = refl
passing-filter test first (suc count) =
    let rest : passing test (suc first) count ≡ filter test (range_with_len (first + 1) count) =
    passing-filter test (suc first) count ∙ (let more : suc first ≡ first + 1 = omega arith in
    ap (λ n. filter test (range_with_len n count)) more) in
    λ i. cond (test first) (first ∷ rest i) (rest i)

same_ascending : (s : Squares) → words.ascending 1 50 s ≡ ascending s
unfolding words.ascending ascending
same_ascending s = passing-filter (set.contains s) 1 50

pub pops-none : (before after : Squares) (o : Option ℕ) → Pops 1 50 before None after → o ≡ None
    → PopsSquare before o after
pops-none before after o w e = subst (λ r. PopsSquare before r after) (sym e)
    (w.0, sym (same_ascending before) ∙ w.1, w.2)

pub pops-some : (before after : Squares) (n : ℕ) (o : Option ℕ) → Pops 1 50 before (Some n) after → o ≡ Some n
    → PopsSquare before o after
pops-some before after n o w e =
    subst (λ r. PopsSquare before r after) (sym e)
    (sym (same_ascending before) ∙ w.0 ∙ ap (λ ns. n ∷ ns) (same_ascending after), w.1, w.4)

pub some-is : (o : Option ℕ) (n : ℕ) → is_some o ≡ true → IfSome o (λ s. s ≡ n) → o ≡ Some n
some-is None n e h = cc
some-is (Some s) n e h = ap Some h

pub ascending-fits : (s : Squares) → length (ascending s) ≤ 50
unfolding ascending
ascending-fits s = fits (set.contains s) (range_with_len 1 50)
  where
    fits : (test : ℕ → Bool) (xs : List ℕ) → length (filter test xs) ≤ length xs
    fits test [] = omega arith
    fits test (x ∷ xs) = elim (test x) as (λ c. length (cond c (x ∷ filter test xs) (filter test xs)) ≤ suc (length xs))
        [ true ↦ omega (arith, fits test xs) | false ↦ omega (arith, fits test xs) ]

take-write : (xs : List ℕ) (i m : ℕ) → i < length xs → take (i + 1) (list_set xs i m) ≡ take i xs ++ m ∷ []
take-write xs i m h = grind (arith, common_steps)

-- one more square is written behind those that were
pub popped-write : (xs whole rest after : List ℕ) (i n m : ℕ) → i < length xs → m ≡ n → take i xs ++ rest ≡ whole
    → rest ≡ n ∷ after → take (i + 1) (list_set xs i m) ++ after ≡ whole
popped-write xs whole rest after i n m h same so_far is =
    ap (λ ys. ys ++ after) (take-write xs i m h) ∙ append_assoc (take i xs) (m ∷ []) after
    ∙ (λ j. take i xs ++ same j ∷ after) ∙ sym (ap (λ r. take i xs ++ r) is) ∙ so_far

pub popped-end : (xs whole rest : List ℕ) (i : ℕ) → rest ≡ [] → take i xs ++ rest ≡ whole → take i xs ≡ whole
popped-end xs whole rest i none so_far = sym (append-nil (take i xs)) ∙ sym (ap (λ r. take i xs ++ r) none) ∙ so_far
