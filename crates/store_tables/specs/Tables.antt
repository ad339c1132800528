-- The tables of a club, as SQLite parses their CREATE statements. Each UNIQUE key and each key of several columns has
-- an index tree after the tree of its table. Schema 1 has the first eight tables, schema 2 the first nine, schema 3
-- all.
use Rattle.std.specs.Prelude.{◌≡◌, ℕ, ◌+◌, Bool, true, false, List, [], ◌∷◌, ◌++◌, map, codes, Option, Some, None}
use Rattle.std.specs.Prelude.{take}
use Rattle.sqlite.specs.Collation.TheVariants.{Binary}
use Rattle.sqlite.specs.declared.types.Value.TheVariants.{Null}
use Rattle.sqlite.specs.Table.{Table}
use Rattle.sqlite_schema.specs.declared.schema.Column.{Column}
use Rattle.sqlite_schema.specs.declared.schema.Index.{Index}
use Rattle.sqlite_schema.specs.declared.schema.Kind.{Kind}
use Rattle.sqlite_value.specs.Keys.{plain}
use Rattle.sqlite.specs.Schema.{Schema}
use Rattle.sqlite.specs.Kind.TheVariants.{Integer, Text}
use Rattle.sqlite_catalog.specs.Change.{automatics}
use Rattle.store_tables.specs.Names.{in_order, table_count, tree_of}
use Rattle.store_tables.specs.declared.names.Table as of_club
use Rattle.store_tables.specs.declared.names.Table.TheVariants as variant
use Rattle.store_tables.specs.declared.names.Version.{Version}
use Rattle.store_tables.specs.declared.names.Version.TheVariants.{V1, V2, V3}

-- a column of a STRICT table with collation BINARY and no DEFAULT; NOT NULL if it is required
abbrev pub column_of : List ℕ → Kind → Bool → Column
column_of name kind required =
    record { name = name; kind = kind; is_strict = true; not_null = required; default = Null; collation = Binary }

-- a table with these keys, and without CHECK, FOREIGN KEY, AUTOINCREMENT or computed defaults
abbrev pub table_of : List ℕ → ℕ → List Column → Option ℕ → List ℕ → List (List ℕ) → Table
table_of name tree columns key primary uniques = record {
  name = name;
  tree = tree;
  columns = columns;
  key = key;
  primary = primary;
  uniques = uniques;
  orders = map (λ _. plain) uniques;
  checks = [];
  references = [];
  computed = [];
  stamps = record { places = []; terms = []; formats = [] };
  is_counted = false;
}

-- the table of the schema number and the last timestamp, in this tree
abbrev pub meta : ℕ → Table
meta tree = table_of (codes "meta") tree
    (column_of (codes "id") Integer false ∷ column_of (codes "schema") Integer true
    ∷ column_of (codes "last") Integer true ∷ []) (Some 0) (0 ∷ []) []

-- the table of members, in this tree; names and keys are unique
abbrev pub members : ℕ → Table
members tree = table_of (codes "members") tree
    (column_of (codes "id") Integer false ∷ column_of (codes "name") Text true ∷ column_of (codes "key") Text true ∷ [])
    (Some 0) (0 ∷ []) ((2 ∷ []) ∷ (3 ∷ []) ∷ [])

-- the table of moves, in this tree; its key is the game and the ply
abbrev pub moves : ℕ → Table
moves tree = table_of (codes "moves") tree
    (column_of (codes "game") Integer true ∷ column_of (codes "ply") Integer true ∷ column_of (codes "text") Text true
    ∷ column_of (codes "moment") Integer true ∷ column_of (codes "left") Integer true
    ∷ column_of (codes "position") Text true ∷ [])
    None (1 ∷ 2 ∷ []) ((1 ∷ 2 ∷ []) ∷ [])

-- the table of events, in this tree; names are unique
abbrev pub events : ℕ → Table
events tree = table_of (codes "events") tree
    (column_of (codes "id") Integer false ∷ column_of (codes "name") Text true ∷ column_of (codes "game") Integer true
    ∷ column_of (codes "budget") Integer true ∷ column_of (codes "increment") Integer true ∷ []) (Some 0) (0 ∷ [])
    ((2 ∷ []) ∷ [])

-- the table of challenges, in this tree; its key is the challenger and the challenge's number
abbrev pub challenges : ℕ → Table
challenges tree = table_of (codes "challenges") tree
    (column_of (codes "member") Integer true ∷ column_of (codes "number") Integer true
    ∷ column_of (codes "event") Integer true ∷ column_of (codes "other") Integer true
    ∷ column_of (codes "first") Integer true ∷ column_of (codes "state") Integer true
    ∷ column_of (codes "game") Integer false ∷ [])
    None (1 ∷ 2 ∷ []) ((1 ∷ 2 ∷ []) ∷ [])

-- the table of games, in this tree; keys are unique
abbrev pub games : ℕ → Table
games tree = table_of (codes "games") tree
    (column_of (codes "id") Integer false ∷ column_of (codes "key") Text false ∷ column_of (codes "event") Integer true
    ∷ column_of (codes "first") Integer true ∷ column_of (codes "second") Integer true
    ∷ column_of (codes "start") Integer true
    ∷ column_of (codes "since") Integer true ∷ column_of (codes "plies") Integer true
    ∷ column_of (codes "left1") Integer true ∷ column_of (codes "left2") Integer true
    ∷ column_of (codes "offer_side") Integer false ∷ column_of (codes "offer_ply") Integer false
    ∷ column_of (codes "end") Text false ∷ column_of (codes "result") Text false
    ∷ column_of (codes "position") Text true ∷ column_of (codes "track_a") Integer true
    ∷ column_of (codes "track_b") Integer true ∷ [])
    (Some 0) (0 ∷ []) ((2 ∷ []) ∷ [])

-- the table of repetition counts, in this tree; its key is the game and the position
abbrev pub seen : ℕ → Table
seen tree = table_of (codes "seen") tree
    (column_of (codes "game") Integer true ∷ column_of (codes "position") Text true
    ∷ column_of (codes "count") Integer true ∷ column_of (codes "first_ply") Integer true ∷ []) None (1 ∷ 2 ∷ [])
    ((1 ∷ 2 ∷ []) ∷ [])

-- the table of scores, in this tree; its key is the event, the member and the opponent
abbrev pub scores : ℕ → Table
scores tree = table_of (codes "scores") tree
    (column_of (codes "event") Integer true ∷ column_of (codes "member") Integer true
    ∷ column_of (codes "opponent") Integer true ∷ column_of (codes "points") Integer true
    ∷ column_of (codes "wins") Integer true ∷ column_of (codes "draws") Integer true
    ∷ column_of (codes "losses") Integer true ∷ [])
    None (1 ∷ 2 ∷ 3 ∷ []) ((1 ∷ 2 ∷ 3 ∷ []) ∷ [])

-- the table of events' declarations, in this tree
abbrev pub event_rules : ℕ → Table
event_rules tree = table_of (codes "event_rules") tree
    (column_of (codes "event") Integer false ∷ column_of (codes "declares") Integer true ∷ []) (Some 0) (0 ∷ []) []

-- the table of later keys, in this tree; its key is the member and the number, and members' keys are unique
abbrev pub keys : ℕ → Table
keys tree = table_of (codes "keys") tree
    (column_of (codes "member") Integer true ∷ column_of (codes "number") Integer true
    ∷ column_of (codes "key") Text true ∷ [])
    None (1 ∷ 2 ∷ []) ((3 ∷ []) ∷ (1 ∷ 2 ∷ []) ∷ [])

-- the table of rulings, in this tree; its key is the game and the ruling's number
abbrev pub rulings : ℕ → Table
rulings tree = table_of (codes "rulings") tree
    (column_of (codes "game") Integer true ∷ column_of (codes "number") Integer true
    ∷ column_of (codes "moment") Integer true ∷ column_of (codes "ply") Integer true
    ∷ column_of (codes "kind") Integer true ∷ column_of (codes "seconds") Integer true
    ∷ column_of (codes "result") Text false ∷ column_of (codes "beneath") Text false
    ∷ column_of (codes "beneath_result") Text false ∷ [])
    None (1 ∷ 2 ∷ []) ((1 ∷ 2 ∷ []) ∷ [])

-- the table of closed events, in this tree
abbrev pub closings : ℕ → Table
closings tree = table_of (codes "closings") tree
    (column_of (codes "event") Integer false ∷ column_of (codes "moment") Integer true ∷ []) (Some 0) (0 ∷ []) []

-- a table of the club with this tree
abbrev pub made_as : of_club.Table → ℕ → Table
made_as variant.Meta = meta
made_as variant.Members = members
made_as variant.Events = events
made_as variant.Challenges = challenges
made_as variant.Moves = moves
made_as variant.Games = games
made_as variant.Seen = seen
made_as variant.Scores = scores
made_as variant.EventRules = event_rules
made_as variant.Keys = keys
made_as variant.Rulings = rulings
made_as variant.Closings = closings

-- with its tree in a database with only a club
abbrev pub standing : of_club.Table → Table
standing table = made_as table (tree_of table)

-- all tables of schema 3 in a database with only a club
abbrev pub tables : List Table
tables = map standing in_order

-- the automatic indexes of the table's keys other than its rowid, in the trees that follow its own
abbrev pub indexes_of : Table → List Index
indexes_of table = automatics table 0 (table.tree + 1) table.uniques

-- the automatic indexes of all these tables
abbrev pub flat_indexes : List Table → List Index
flat_indexes [] = []
flat_indexes (t ∷ ts) = indexes_of t ++ flat_indexes ts

-- the schema with the first n tables
abbrev pub schema_after : ℕ → Schema
schema_after n = record { tables = take n tables; indexes = flat_indexes (take n tables); views = [] }

-- the schema of a database with only a club of this version
abbrev pub schema_of : Version → Schema
schema_of version = schema_after (table_count version)

-- the schema number in `meta`
abbrev pub schema_number : Version → ℕ
schema_number V1 = 1
schema_number V2 = 2
schema_number V3 = 3

-- the program serves clubs of this version: schema 2 or schema 3
abbrev pub is_served : Version → Bool
is_served V1 = false
is_served V2 = true
is_served V3 = true

abbrev pub IsServed : Version → Type 0
IsServed version = is_served version ≡ true
