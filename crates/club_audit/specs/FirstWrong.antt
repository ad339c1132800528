-- The first wrong table, in the order of the checks.
use Rattle.std.specs.Prelude.{ℕ}
use Rattle.store_tables.specs.declared.names.Table.{Table}
use Rattle.store_tables.specs.declared.names.Table.TheVariants.{Members, Events, EventRules, Challenges, Moves, Games}
use Rattle.store_tables.specs.declared.names.Table.TheVariants.{Seen, Scores, Meta, Keys, Rulings, Closings}

-- the place of a table in the order of the checks
abbrev pub order : Table → ℕ
order Members = 0
order Keys = 1
order Events = 2
order EventRules = 3
order Closings = 4
order Challenges = 5
order Moves = 6
order Rulings = 7
order Games = 8
order Seen = 9
order Scores = 10
order Meta = 11
