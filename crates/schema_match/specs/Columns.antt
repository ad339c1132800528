-- Whether the columns of a table store, compare and reject values like those of a club's table. Names are
-- case-insensitive; the order of columns does not matter.
use Rattle.std.specs.Prelude.{ℕ, ◌-◌, ◌==◌, ◌&&◌, ◌||◌, not, Bool, true, false, if◌then◌else◌, List, [], codes, Option}
use Rattle.std.specs.Prelude.{Some, None, slice_get}
use Rattle.std.specs.List.{list_all, list_any}
use Rattle.sqlite_value.specs.declared.keys.Collation.{Collation}
use Rattle.sqlite_value.specs.declared.keys.Collation.TheVariants.{Binary, NoCase, RTrim}
use Rattle.sqlite_value.specs.declared.value.Value.{Value}
use Rattle.sqlite_value.specs.declared.value.Value.TheVariants as value
use Rattle.sqlite_schema.specs.declared.schema.Column.{Column}
use Rattle.sqlite_schema.specs.declared.schema.Kind.{Kind}
use Rattle.sqlite_schema.specs.declared.schema.Kind.TheVariants.{Integer, Real, Text, Blob, Any}
use Rattle.sqlite_schema.specs.declared.schema.Table.{Table}
use Rattle.sqlite_schema.specs.Names.{same_name}

-- ---- names

-- the name of a column; empty if there is none
abbrev pub name_of : Option Column → List ℕ
name_of None = []
name_of (Some column) = column.name

-- the name of the column at this index; empty if there is none
abbrev pub name_under : List Column → Option ℕ → List ℕ
name_under columns None = []
name_under columns (Some at) = name_of (slice_get columns at)

-- the name of the INTEGER PRIMARY KEY column (the rowid), if there is one
abbrev pub key_name : Table → List ℕ
key_name table = name_under table.columns table.key

-- the name of the column at a place in a row; place 0 is the rowid
abbrev pub name_at : Table → ℕ → List ℕ
name_at table place = if place == 0 then key_name table else name_of (slice_get table.columns (place - 1))

-- the column has this name
abbrev pub is_named : List ℕ → Column → Bool
is_named name column = same_name column.name name

-- the table has a column with this name
abbrev pub has_name : Table → List ℕ → Bool
has_name table name = list_any (is_named name) table.columns

-- ---- types

-- the type is INTEGER, or the affinity is INTEGER or NUMERIC
abbrev pub is_integer : Kind → Bool
is_integer Integer = true
is_integer Real = false
is_integer Text = false
is_integer Blob = false
is_integer Any = false

-- the type or affinity is TEXT
abbrev pub is_text : Kind → Bool
is_text Integer = false
is_text Real = false
is_text Text = true
is_text Blob = false
is_text Any = false

-- a column of type or affinity `theirs` stores the values of `ours` unchanged
abbrev pub keeps_values : (ours theirs : Kind) → Bool
keeps_values ours Integer = is_integer ours
keeps_values ours Real = false
keeps_values ours Text = is_text ours
keeps_values ours Blob = false
keeps_values ours Any = true

-- the collation is BINARY, which compares texts byte by byte
abbrev pub compares_bytes : Collation → Bool
compares_bytes Binary = true
compares_bytes NoCase = false
compares_bytes RTrim = false

-- ---- a column of ours

-- it accepts NULL exactly if ours does; on the rowid column NOT NULL has no effect
abbrev pub takes_null_as : List ℕ → (ours theirs : Column) → Bool
takes_null_as key ours theirs =
    if ours.not_null then theirs.not_null else not theirs.not_null || same_name key ours.name

-- it has the name of ours, and stores, compares and rejects the same values
abbrev pub is_column_as : List ℕ → (ours theirs : Column) → Bool
is_column_as key ours theirs =
    same_name ours.name theirs.name && keeps_values ours.kind theirs.kind && compares_bytes theirs.collation
    && takes_null_as key ours theirs

-- the table has such a column
abbrev pub has_column : (ours theirs : Table) → Column → Bool
has_column ours theirs column = list_any (is_column_as (key_name ours) column) theirs.columns

-- ---- a column that ours does not have

-- It accepts its default, which it gets in an INSERT that omits it. A STRICT column rejects other types.
abbrev pub takes_default : Column → Value → Bool
takes_default column value.Null = not column.not_null
takes_default column (value.Int n) = not column.is_strict || is_integer column.kind
takes_default column (value.Real x) = not column.is_strict
takes_default column (value.Text t) = not column.is_strict || is_text column.kind
takes_default column (value.Blob b) = not column.is_strict

-- An INSERT may omit it, and its name does not hide `rowid`.
abbrev pub can_be_omitted : Column → Bool
can_be_omitted column = takes_default column column.default && not (same_name column.name (codes "rowid"))

-- it is a column of ours, or an INSERT may omit it
abbrev pub may_be_left_out : Table → Column → Bool
may_be_left_out ours column = can_be_omitted column || has_name ours column.name

-- A default that is an expression may fail: a column with one must be ours, which an INSERT never omits.
abbrev pub is_computed_in : (ours theirs : Table) → ℕ → Bool
is_computed_in ours theirs place = has_name ours (name_at theirs place)

-- ---- all columns

-- the table has each column of ours, or an equivalent one
abbrev pub has_each_column : (ours theirs : Table) → Bool
has_each_column ours theirs = list_all (has_column ours theirs) ours.columns

-- an INSERT may omit each column that ours does not have, and no default of such a column is an expression
abbrev pub wants_no_other : (ours theirs : Table) → Bool
wants_no_other ours theirs =
    list_all (may_be_left_out ours) theirs.columns && list_all (is_computed_in ours theirs) theirs.computed

-- the table has the columns of ours, and all others may be omitted
abbrev pub has_columns_as : (ours theirs : Table) → Bool
has_columns_as ours theirs = has_each_column ours theirs && wants_no_other ours theirs
