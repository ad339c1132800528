-- The rows of one table, independent of their rowids and of the layout of its tree. No promise of the program rests on
-- these definitions.
use Rattle.std.specs.Prelude.{ℕ, not, List, ◌∷◌, filter}
use Rattle.sqlite.specs.Order.{Row}
use Rattle.store_tables.specs.Content.{same_key}

-- upserts a row: it replaces the one with the same key
abbrev pub put : List ℕ → Row → List Row → List Row
put key row rows = row ∷ filter (λ x. not (same_key key x row)) rows
