-- The rows in a club's database, and the rows after a crash. No promise of the program rests on these definitions.
use Rattle.std.specs.Prelude.{◌≡◌, ℕ, pos, true, if◌then◌else◌, ◌==◌, List, [], ◌∷◌, Ok}
use Rattle.sqlite_value.specs.declared.value.Value.TheVariants.{Int}
use Rattle.sqlite.specs.Order.{Row}
use Rattle.sqlite.specs.Schema.{Schema}
use Rattle.sqlite.specs.State.{State, ExecutesInside}
use Rattle.sqlite_rules.specs.Lists.{Has}
use Rattle.store_tables.specs.Content.{same_key}
use Rattle.store_tables.specs.internal.Content.{put}
use Rattle.store_tables.specs.Names.{tree_of}
use Rattle.store_tables.specs.declared.names.Table.TheVariants.{Meta}
use Rattle.store_tables.specs.Contents.{Content, nothing, Holds}
use Rattle.store_tables.specs.Tables.{schema_number}
use Rattle.store_tables.specs.declared.names.Version.{Version}

-- upserts a row into one table
abbrev pub put_in : ℕ → List ℕ → Row → Content → Content
put_in tree key row content t = if t == tree then put key row (content t) else content t

-- upserts rows into one table, in order
abbrev pub put_each : ℕ → List ℕ → List Row → Content → Content
put_each tree key [] content = content
put_each tree key (row ∷ rows) content = put_each tree key rows (put_in tree key row content)

abbrev pub opening_meta : Version → Row
opening_meta version = Int (pos 1) ∷ Int (pos (schema_number version)) ∷ Int (pos 0) ∷ []

-- the tables of a new club of this version: no command accepted
abbrev pub opening : Version → Content
opening version = put_in (tree_of Meta) (0 ∷ []) (opening_meta version) nothing

-- Inside a transaction the rows changed in this way; nothing was committed.
pub record Steps (schema : Schema) (change : Content → Content) (old new : State) : Type 0 where
  pub holds : (content : Content) → Holds schema old.now content → Holds schema new.now (change content)
  pub committed : new.committed ≡ old.committed
  pub inside : new.in_transaction ≡ true

pub record Ran (sql : List ℕ) (old new : State) : Type 0 where
  pub count : ℕ
  pub runs : ExecutesInside 0 sql [] old new (Ok count)

-- ---- the result of a SELECT

-- the found rows are exactly those with the wanted key
pub record AreThose (key : List ℕ) (wanted : Row) (rows found : List Row) : Type 0 where
  pub sound : (x : Row) → Has found x → Has rows x × (same_key key x wanted ≡ true)
  pub complete : (x : Row) → Has rows x → same_key key x wanted ≡ true → Has found x
