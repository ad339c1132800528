-- The result of reading a club's tables, and the meaning of each error.
use Rattle.std.specs.Prelude.{◌≡◌, ◌≤◌, ◌⊎◌, ℤ, pos, true, List, [], ◌∷◌}
use Rattle.std.specs.List.{AllByRecursion}
use Rattle.sqlite.specs.Order.{Row}
use Rattle.sqlite.specs.Effect.{Database}
use Rattle.sqlite.specs.declared.types.Value.TheVariants.{Int}
use Rattle.sqlite_rules.specs.Lists.{Has}
use Rattle.store_tables.specs.Cells.{IsEventRule, IsMember, IsEvent, IsChallenge, IsMove, IsGame}
use Rattle.store_tables.specs.Cells.{IsSeen, IsScore, IsKey, IsRuling, IsClosing}
use Rattle.store_tables.specs.Contents.{Content}
use Rattle.store_tables.specs.Tables.{schema_number}
use Rattle.store_tables.specs.declared.names.Table.{Table}
use Rattle.store_tables.specs.declared.names.Table.TheVariants.{Members, Events, EventRules, Challenges, Moves, Games}
use Rattle.store_tables.specs.declared.names.Table.TheVariants.{Seen, Scores, Meta, Keys, Rulings, Closings}
use Rattle.store_tables.specs.Placed.{HasTables}
use Rattle.store_tables.specs.declared.names.Version.{Version}
use Rattle.store_tables.specs.declared.names.Version.TheVariants.{V3}
use Rattle.store_tables.specs.Names.{tree_of}
use Rattle.schema_match.specs.Shapes.{is_of_club}
use Rattle.club_check.specs.Places.{NamesRows}
use Rattle.club_check.specs.Versions.{HoldsRows}
use Rattle.club_check.specs.declared.fault.OpenFault.{OpenFault}
use Rattle.club_check.specs.declared.fault.OpenFault.TheVariants.{Foreign, Schema, Damaged, Store, Memory}

-- ---- the meaning of errors

-- exactly one row, with id 1
pub record IsOneMeta (rows : List Row) : Type 0 where
  pub schema : ℤ
  pub last : ℤ
  pub is : rows ≡ (Int (pos 1) ∷ Int schema ∷ Int last ∷ []) ∷ []

-- the rows of this table have the types of its columns; `meta` has exactly one row
abbrev pub HasTypes : Table → Content → Type 0
HasTypes Members content = AllByRecursion IsMember (content (tree_of Members))
HasTypes Events content = AllByRecursion IsEvent (content (tree_of Events))
HasTypes EventRules content = AllByRecursion IsEventRule (content (tree_of EventRules))
HasTypes Challenges content = AllByRecursion IsChallenge (content (tree_of Challenges))
HasTypes Moves content = AllByRecursion IsMove (content (tree_of Moves))
HasTypes Games content = AllByRecursion IsGame (content (tree_of Games))
HasTypes Seen content = AllByRecursion IsSeen (content (tree_of Seen))
HasTypes Scores content = AllByRecursion IsScore (content (tree_of Scores))
HasTypes Keys content = AllByRecursion IsKey (content (tree_of Keys))
HasTypes Rulings content = AllByRecursion IsRuling (content (tree_of Rulings))
HasTypes Closings content = AllByRecursion IsClosing (content (tree_of Closings))
HasTypes Meta content = IsOneMeta (content (tree_of Meta))

-- whatever content the database may hold, in whatever version, has this property
abbrev pub HoldsOnly : Database → (Version → Content → Type 0) → Type 0
HoldsOnly db IsSo = (version : Version) (content : Content) → HoldsRows version content db → IsSo version content

-- no content that the database may hold has this property
abbrev pub HoldsNone : Database → (Version → Content → Type 0) → Type 0
HoldsNone db IsSo = HoldsOnly db (λ version content. ¬ IsSo version content)

-- a call failed, or memory ran out, or a table is named whose rows do not have the types of its columns
abbrev pub NamesTable : Database → OpenFault → Type 0
NamesTable db fault = (fault ≡ Store)
    ⊎
    ((fault ≡ Memory) ⊎ ((t : Table) × (fault ≡ Damaged t) × HoldsNone db (λ _ content. HasTypes t content)))

-- `meta` has this schema number
abbrev pub HasNumber : Database → ℤ → Type 0
HasNumber db n = (version : Version) (content : Content) → HoldsRows version content db
    → (last : ℤ) × Has (content (tree_of Meta)) (Int (pos 1) ∷ Int n ∷ Int last ∷ [])

-- the schema number is that of this version or a later one
abbrev pub IsNumberFrom : Version → ℤ → Type 0
IsNumberFrom oldest n =
    (version : Version) × (n ≡ pos (schema_number version)) × (schema_number oldest ≤ schema_number version)

-- the schema number is that of schema 3, and not all tables of schema 3 exist
abbrev pub LacksTables : Database → ℤ → Type 0
LacksTables db n = (n ≡ pos (schema_number V3)) × (¬ HasTables V3 db.schema)

-- The error names the schema number in `meta`. It is not that of an accepted version, or tables of schema 3 are
-- missing.
abbrev pub NamesSchema : Version → Database → OpenFault → Type 0
NamesSchema oldest db fault =
    (n : ℤ) × (fault ≡ Schema n) × ((¬ IsNumberFrom oldest n) ⊎ LacksTables db n) × HasNumber db n

-- The database is reported as foreign: the schema number does not fit the tables, or the schema is not equivalent to a
-- club's, because other programs changed it.
abbrev pub NamesForeign : Database → OpenFault → Type 0
NamesForeign db fault = (fault ≡ Foreign)
    × HoldsNone db (λ version content. (is_of_club version db.schema ≡ true) × ((last : ℤ)
    × (content (tree_of Meta) ≡ (Int (pos 1) ∷ Int (pos (schema_number version)) ∷ Int last ∷ []) ∷ [])))

-- the meaning of an error for a database with a club's tables, if versions from `oldest` on are accepted
abbrev pub IsRightFault : Version → Database → OpenFault → Type 0
IsRightFault oldest db fault = NamesTable db fault
    ⊎ (NamesSchema oldest db fault ⊎ (NamesForeign db fault ⊎ NamesRows db fault))
