use Rattle.std.proofs.Common.{◌≡◌, map, take}
use Rattle.sqlite_value.specs.declared.value.Value.TheVariants.{Int}
use Rattle.store_tables.specs.Sql.{column}
use Rattle.store_tables.proofs.ids.first_integers.Given as goal

abbrev pub invariant-rows : goal.invariant-rows
invariant-rows l = map (λ r. column r 0) (take l.row-index l.rows) ≡ map Int l.ids.items
