-- Sorted lists without duplicates, and insertion into them.
use Rattle.std.specs.Prelude.{List, [], ◌∷◌}
use Rattle.std.specs.declared.cmp.Ordering.{Ordering}
use Rattle.std.specs.declared.cmp.Ordering.TheVariants.{Less, Equal, Greater}

-- A sorted list with `m` inserted, by the order of its first element and `m`; `more` is its rest with `m` inserted.
abbrev pub put_by : {A : Type 0} → Ordering → A → A → List A → List A → List A
put_by Less m x xs more = x ∷ more
put_by Equal m x xs more = x ∷ xs
put_by Greater m x xs more = m ∷ x ∷ xs

-- Inserts an element at its place in a sorted list, unless an equal one is there.
abbrev pub put : {A : Type 0} → (A → A → Ordering) → A → List A → List A
put order m [] = m ∷ []
put order m (x ∷ xs) = put_by (order x m) m x xs (put order m xs)

-- Inserts elements into a list one after another.
abbrev pub put_all : {A : Type 0} → (A → A → Ordering) → List A → List A → List A
put_all order [] xs = xs
put_all order (m ∷ ms) xs = put_all order ms (put order m xs)
