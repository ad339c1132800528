-- The SQL statements of each table: CREATE TABLE, the upsert of a row by its key, and the SELECTs of its rows, its
-- rowids, and the rows with given values. No promise of the program rests on these definitions.
use Rattle.std.specs.Prelude.{codes, List, [], ◌∷◌, ◌++◌, ℕ, zero, suc, Option, Some, length, map, take, drop}
use Rattle.sqlite.specs.Table.{Table}
use Rattle.sqlite_schema.specs.declared.schema.Column.{Column}
use Rattle.store_tables.specs.declared.names.Table as of_club
use Rattle.store_tables.specs.declared.names.Table.TheVariants.{Members, Events, EventRules, Challenges, Moves, Games}
use Rattle.store_tables.specs.declared.names.Table.TheVariants.{Seen, Scores, Meta, Keys, Rulings, Closings}
use Rattle.store_tables.specs.declared.texts.TheConstants as text

abbrev pub create_of : of_club.Table → List ℕ
create_of Meta = text.CREATE_META.now
create_of Members = text.CREATE_MEMBERS.now
create_of Events = text.CREATE_EVENTS.now
create_of Challenges = text.CREATE_CHALLENGES.now
create_of Moves = text.CREATE_MOVES.now
create_of Games = text.CREATE_GAMES.now
create_of Seen = text.CREATE_SEEN.now
create_of Scores = text.CREATE_SCORES.now
create_of EventRules = text.CREATE_EVENT_RULES.now
create_of Keys = text.CREATE_KEYS.now
create_of Rulings = text.CREATE_RULINGS.now
create_of Closings = text.CREATE_CLOSINGS.now

-- ---- names

abbrev more : List (List ℕ) → List ℕ
more [] = []
more (name ∷ names) = codes ", " ++ (name ++ more names)

-- separated by commas
abbrev listed : List (List ℕ) → List ℕ
listed [] = []
listed (name ∷ names) = name ++ more names

abbrev pub names_of : Table → List (List ℕ)
names_of table = map (λ (column : Column). column.name) table.columns

-- the columns of the primary key, which come first
abbrev pub key_names : Table → List (List ℕ)
key_names table = take (length table.primary) (names_of table)

abbrev name_under : Option ℕ → List (List ℕ) → List ℕ
name_under (Some at) (name ∷ names) = name
name_under _ _ = codes "rowid"

-- the name of the rowid: its column's, if there is one
abbrev pub id_name : Table → List ℕ
id_name table = name_under table.key (names_of table)

abbrev pub name_at : List (List ℕ) → ℕ → List ℕ
name_at [] at = []
name_at (name ∷ names) zero = name
name_at (name ∷ names) (suc at) = name_at names at

abbrev pub parameters : List (List ℕ)
parameters =
    codes "?1" ∷ codes "?2" ∷ codes "?3" ∷ codes "?4" ∷ codes "?5" ∷ codes "?6" ∷ codes "?7" ∷ codes "?8" ∷ codes "?9"
    ∷ codes "?10" ∷ codes "?11" ∷ codes "?12" ∷ codes "?13" ∷ codes "?14" ∷ codes "?15" ∷ codes "?16" ∷ codes "?17"
    ∷ []

-- one parameter for each column
abbrev pub parameters_of : Table → List (List ℕ)
parameters_of table = take (length table.columns) parameters

-- ---- the upsert

abbrev pub put_text : Table → List ℕ
put_text table =
    codes "INSERT INTO " ++ (table.name ++ (codes " (" ++ (listed (names_of table)
    ++ (codes ") VALUES (" ++ (listed (parameters_of table)
    ++ (codes ") ON CONFLICT (" ++ (listed (key_names table)
    ++ (codes ") DO UPDATE SET "
    ++ listed (map (λ name. name ++ (codes " = excluded." ++ name)) (names_of table))))))))))

-- ---- the SELECTs

abbrev ordered : List (List ℕ) → List ℕ
ordered [] = []
ordered (name ∷ names) = codes " ORDER BY " ++ listed (name ∷ names)

-- the columns with these names equal the parameters
abbrev given : List (List ℕ) → (parameters : List (List ℕ)) → List ℕ
given (name ∷ []) (value ∷ values) = name ++ (codes " = " ++ value)
given (name ∷ names) (value ∷ values) = name ++ (codes " = " ++ (value ++ (codes " AND " ++ given names values)))
given _ _ = []

-- SELECT all columns FROM the table, and the rest of the statement
abbrev rows_text : Table → List ℕ → List ℕ
rows_text table rest = codes "SELECT " ++ (listed (names_of table) ++ (codes " FROM " ++ (table.name ++ rest)))

abbrev found_text : Table → (names rest : List (List ℕ)) → List ℕ
found_text table names rest = rows_text table (codes " WHERE " ++ (given names parameters ++ ordered rest))

-- all rows, in the order of the key
abbrev pub all_text : Table → List ℕ
all_text table = rows_text table (ordered (key_names table))

-- all rows, in the order of the first column, the greatest first
abbrev pub last_text : Table → List ℕ
last_text table = rows_text table (ordered (take 1 (names_of table)) ++ codes " DESC")

-- the rowids, in ascending order
abbrev pub ids_text : Table → List ℕ
ids_text table =
    codes "SELECT " ++ (id_name table ++ (codes " FROM " ++ (table.name ++ ordered (id_name table ∷ []))))

-- the rows with a given first column, in the order of the rest of the key
abbrev pub by_first_text : Table → List ℕ
by_first_text table = found_text table (take 1 (names_of table)) (drop 1 (key_names table))

-- the row with given values in a whole key or a UNIQUE column
abbrev pub question_text : Table → List ℕ → List ℕ
question_text table key = found_text table (map (name_at (names_of table)) key) []

-- the rows with a given value in one column, in the order of the key
abbrev pub by_column_text : Table → ℕ → List ℕ
by_column_text table at = found_text table (name_at (names_of table) at ∷ []) (key_names table)
