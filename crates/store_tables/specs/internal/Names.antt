-- The names of the tables, their order and their trees. No promise of the program rests on these definitions.
use Rattle.std.specs.Prelude.{ℕ}
use Rattle.store_tables.specs.declared.names.Table.{Table}
use Rattle.store_tables.specs.declared.names.Table.TheVariants.{Members, Events, EventRules, Challenges, Moves, Games}
use Rattle.store_tables.specs.declared.names.Table.TheVariants.{Seen, Scores, Meta, Keys, Rulings, Closings}

-- the number of tables created before it
abbrev pub place_of : Table → ℕ
place_of Meta = 0
place_of Members = 1
place_of Events = 2
place_of Challenges = 3
place_of Moves = 4
place_of Games = 5
place_of Seen = 6
place_of Scores = 7
place_of EventRules = 8
place_of Keys = 9
place_of Rulings = 10
place_of Closings = 11
