-- What stands before a byte.
use Rattle.std.proofs.Common.{◌≡◌, ◌∙◌, ℕ, ◌+◌, ◌≤◌, List, [], ◌∷◌, length, take, Bool, true, false, cond, not, ltb}
use Rattle.std.proofs.Common.{◌==◌}
use Rattle.std.proofs.Common.{Option, Some, None, if◌then◌else◌, refl, sym, ap, arith, one-add, take_all}
use Rattle.std.proofs.lemmas.Bool.Decides.{nat_tests}
use Rattle.std.proofs.lemmas.List.{length-take}
use Rattle.std.specs.List.{position_or_len, prefix_len}
use Rattle.http_desk.specs.Paths.{before}

before_place : (b : ℕ) (bytes : List ℕ) → take (position_or_len (λ x. x == b) bytes) bytes ≡ before b bytes
before_place b [] = refl
before_place b (x ∷ bytes) = by (x == b) (before_place b bytes)
  where
    by : (v : Bool) → take (position_or_len (λ x. x == b) bytes) bytes ≡ before b bytes
        → take (cond (not v) (1 + prefix_len (λ x. not (x == b)) bytes) 0) (x ∷ bytes)
        ≡ (if v then [] else x ∷ before b bytes)
    by true more = refl
    by false more = rw one-add (ap (λ l. x ∷ l) more)

-- what a search of the byte answers
abbrev pub first_place : ℕ → List ℕ → Option ℕ
first_place b bytes =
    cond (ltb (position_or_len (λ x. x == b) bytes) (length bytes)) (Some (position_or_len (λ x. x == b) bytes)) None

pub before_found : (b i : ℕ) (bytes : List ℕ) → first_place b bytes ≡ Some i → take i bytes ≡ before b bytes
before_found b i bytes is =
    let place : position_or_len (λ x. x == b) bytes ≡ i = grind (arith, nat_tests) in
    rw place at (before_place b bytes)

pub before_none : (b : ℕ) (bytes : List ℕ) → first_place b bytes ≡ None → bytes ≡ before b bytes
before_none b bytes is =
    let all : length bytes ≤ position_or_len (λ x. x == b) bytes = grind (arith, nat_tests) in
    sym (take_all (position_or_len (λ x. x == b) bytes) bytes all) ∙ before_place b bytes

pub before_le : (b : ℕ) (bytes : List ℕ) → length (before b bytes) ≤ length bytes
before_le b bytes =
    rw (← before_place b bytes) (omega (arith, length-take (position_or_len (λ x. x == b) bytes) bytes))
