-- Bitboards: sets of numbers kept in the bits of a word, in which bit k is the number `first + k`.
use Rattle.std.proofs.Common.{ℕ, zero, suc, ◌+◌, ◌-◌, ◌*◌, ◌^◌, Bool, cond, nat_eq}
use Rattle.std.proofs.Common.{List, [], ◌∷◌}
use Rattle.std.specs.Int.{bit_at}
use Rattle.std.specs.Ordering.{nat_cmp}
use Rattle.std.specs.FinSet as set

-- A set of numbers.
abbrev pub Numbers : Type 0
Numbers = set.FinSet nat_cmp

-- Whether bit k of the word is set.
unfoldable pub has_bit : ℕ → ℕ → Bool
has_bit w k = nat_eq (bit_at w k) 1

-- The numbers in `first .. first + count` that pass the test, in ascending order.
unfoldable pub passing : (ℕ → Bool) → ℕ → ℕ → List ℕ
passing test first zero = []
passing test first (suc count) = cond (test first) (first ∷ passing test (suc first) count)
    (passing test (suc first) count)

-- The set that a word represents.
unfoldable pub set_of_word : ℕ → ℕ → ℕ → Numbers
set_of_word first count w = set.from_list (passing (λ n. has_bit w (n - first)) first count)

-- The word that represents a set.
unfoldable pub word_of : ℕ → ℕ → Numbers → ℕ
word_of first zero s = 0
word_of first (suc count) s = cond (set.contains s (first + count)) 1 0 * 2 ^ count + word_of first count s
