-- The newest elements of a list.
use Rattle.std.specs.Prelude.{ℕ, ◌-◌, Bool, List, filter, drop, reverse, count_by}

-- how many elements that pass the test there are beyond `most`
abbrev pub beyond : {A : Type 0} → ℕ → (A → Bool) → List A → ℕ
beyond most test xs = count_by test xs - most

-- the last elements that pass the test, at most so many, in their order
abbrev pub last_ones : {A : Type 0} → ℕ → (A → Bool) → List A → List A
last_ones most test xs = drop (beyond most test xs) (filter test xs)

-- the same, the last one first
abbrev pub newest : {A : Type 0} → ℕ → (A → Bool) → List A → List A
newest most test xs = reverse (last_ones most test xs)
