-- Whether the unique keys of a table reject the same duplicates as those of a club's table.
use Rattle.std.specs.Prelude.{ℕ, ◌==◌, ◌&&◌, ◌||◌, not, Bool, List, length}
use Rattle.std.specs.List.{list_all, list_any}
use Rattle.sqlite_value.specs.Keys.{undirected}
use Rattle.sqlite_schema.specs.declared.schema.Index.{Index}
use Rattle.sqlite_schema.specs.declared.schema.Schema.{Schema}
use Rattle.sqlite_schema.specs.declared.schema.Table.{Table}
use Rattle.sqlite_schema.specs.Names.{same_name}
use Rattle.schema_match.specs.Columns.{name_at}

-- ---- the columns of a key

-- the column at this place of their table has this name
abbrev pub is_at : Table → List ℕ → ℕ → Bool
is_at theirs name place = same_name name (name_at theirs place)

-- the key has the column with this name
abbrev pub is_in_key : Table → (key name : List ℕ) → Bool
is_in_key theirs key name = list_any (is_at theirs name) key

-- the column at this place of ours has the name of a column of the other key
abbrev pub is_place_of : (ours theirs : Table) → (other : List ℕ) → ℕ → Bool
is_place_of ours theirs other place = is_in_key theirs other (name_at ours place)

-- the other key has each column of this key of ours
abbrev pub has_places : (ours : Table) → List ℕ → (theirs : Table) → List ℕ → Bool
has_places ours mine theirs other = list_all (is_place_of ours theirs other) mine

-- two keys have the same columns, in any order
abbrev pub is_key_as : (ours : Table) → List ℕ → (theirs : Table) → List ℕ → Bool
is_key_as ours mine theirs other = length mine == length other && has_places ours mine theirs other

-- ---- indexes

-- the index is a unique index of the table
abbrev pub is_unique_on : Table → Index → Bool
is_unique_on theirs index = index.is_unique && index.table == theirs.tree

-- it uses collation BINARY in all columns, in any sort direction
abbrev pub is_by_bytes : Index → Bool
is_by_bytes index = (undirected index.order).digits == 0

-- it has exactly the columns of this key of ours
abbrev pub is_index_for : (ours theirs : Table) → List ℕ → Index → Bool
is_index_for ours theirs mine index = is_unique_on theirs index && is_key_as ours mine theirs index.columns

-- a unique index of their table has exactly the columns of this key of ours
abbrev pub has_key : Schema → (ours theirs : Table) → List ℕ → Bool
has_key schema ours theirs mine = list_any (is_index_for ours theirs mine) schema.indexes

-- the index has the columns of this key of ours, and maybe more
abbrev pub is_within : (ours theirs : Table) → Index → List ℕ → Bool
is_within ours theirs index mine = has_places ours mine theirs index.columns

-- a key of ours already rejects the duplicates that it rejects
abbrev pub is_own_key : (ours theirs : Table) → Index → Bool
is_own_key ours theirs index =
    is_by_bytes index
    && (is_within ours theirs index ours.primary || list_any (is_within ours theirs index) ours.uniques)

-- the index rejects no row of their table that the keys of ours accept
abbrev pub refuses_no_more : (ours theirs : Table) → Index → Bool
refuses_no_more ours theirs index = not (is_unique_on theirs index) || is_own_key ours theirs index

-- ---- all keys

-- each UNIQUE key of ours has a unique index on the same columns of their table
abbrev pub has_each_key : Schema → (ours theirs : Table) → Bool
has_each_key schema ours theirs = list_all (has_key schema ours theirs) ours.uniques

-- no unique index of their table rejects a row that the keys of ours accept
abbrev pub has_no_other_key : Schema → (ours theirs : Table) → Bool
has_no_other_key schema ours theirs = list_all (refuses_no_more ours theirs) schema.indexes

-- their table rejects the same duplicates as ours
abbrev pub has_keys_as : Schema → (ours theirs : Table) → Bool
has_keys_as schema ours theirs = has_each_key schema ours theirs && has_no_other_key schema ours theirs
