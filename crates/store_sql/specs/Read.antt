-- The results of reading a table, and what a fault implies about its rows.
use Rattle.std.specs.Prelude.{ℤ, List, [], ◌∷◌}
use Rattle.std.specs.Prelude.{filter}
use Rattle.sqlite.specs.Order.{Row}
use Rattle.sqlite.specs.declared.types.Value.TheVariants.{Int}
use Rattle.store_tables.specs.Content.{same_key}

-- the rows whose first column is this number
abbrev pub beginning_with : ℤ → List Row → List Row
beginning_with n rows = filter (λ x. same_key (0 ∷ []) x (Int n ∷ [])) rows
