-- The names of the tables, their order and their trees.
use Rattle.std.specs.Prelude.{ℕ, List, [], ◌∷◌, codes}
use Rattle.store_tables.specs.declared.names.Table.{Table}
use Rattle.store_tables.specs.declared.names.Version.{Version}
use Rattle.store_tables.specs.declared.names.Version.TheVariants.{V1, V2, V3}
use Rattle.store_tables.specs.declared.names.Table.TheVariants.{Members, Events, EventRules, Challenges, Moves, Games}
use Rattle.store_tables.specs.declared.names.Table.TheVariants.{Seen, Scores, Meta, Keys, Rulings, Closings}

-- the name of the table in SQL
abbrev pub table_name : Table → List ℕ
table_name Members = codes "members"
table_name Events = codes "events"
table_name EventRules = codes "event_rules"
table_name Challenges = codes "challenges"
table_name Moves = codes "moves"
table_name Games = codes "games"
table_name Seen = codes "seen"
table_name Scores = codes "scores"
table_name Meta = codes "meta"
table_name Keys = codes "keys"
table_name Rulings = codes "rulings"
table_name Closings = codes "closings"

-- the tables in the order in which they are created
abbrev pub in_order : List Table
in_order =
    Meta ∷ Members ∷ Events ∷ Challenges ∷ Moves ∷ Games ∷ Seen ∷ Scores ∷ EventRules ∷ Keys ∷ Rulings ∷ Closings ∷ []

-- how many of the tables, in this order, a schema has
abbrev pub table_count : Version → ℕ
table_count V1 = 8
table_count V2 = 9
table_count V3 = 12

-- The number of the table's tree in a database with only a club. Its indexes have the trees that follow.
abbrev pub tree_of : Table → ℕ
tree_of Meta = 0
tree_of Members = 1
tree_of Events = 4
tree_of Challenges = 6
tree_of Moves = 8
tree_of Games = 10
tree_of Seen = 12
tree_of Scores = 14
tree_of EventRules = 16
tree_of Keys = 17
tree_of Rulings = 20
tree_of Closings = 22
