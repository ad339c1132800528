-- What each text means under the schema of a club, by computing.
use Rattle.std.proofs.Common.{◌≡◌, ℕ, zero, suc, ◌+◌, ◌-◌, List, [], ◌∷◌, Option, Some, None, Ok, refl, length}
use Rattle.sqlite.specs.Compile.{table_defined_by}
use Rattle.store_tables.specs.Sql.{Table}
use Rattle.sqlite.specs.Source.TheVariants.{Values}
use Rattle.sqlite.specs.Term.{Term, lit, col}
use Rattle.sqlite.specs.declared.types.Value.TheVariants.{Null}
use Rattle.sqlite_schema.specs.declared.command.Source.{Source}
use Rattle.sqlite_tied.specs.Compute.{everything}
use Rattle.store_tables.specs.Tables.{made_as}
use Rattle.store_tables.specs.internal.Texts.{create_of}
use Rattle.store_tables.specs.declared.names.Table as of_club
use Rattle.store_tables.specs.declared.names.Table.TheVariants.{Meta}

-- ---- what makes a table

-- the text of a table defines it
pub defined : (table : of_club.Table) → table_defined_by (create_of table) ≡ Ok (made_as table 0)
unfolding everything
defined Meta = refl
defined _ = refl

-- ---- what puts a row, beside what other programs made

-- so many parameters from one on
abbrev slots : ℕ → ℕ → List Term
slots k zero = []
slots k (suc n) = col 0 k ∷ slots (suc k) n

-- Of a row of so many columns the rowid and then each column, which is NULL where it holds the rowid.
abbrev row_from : Option ℕ → ℕ → List Term
row_from (Some at) n = col 0 0 ∷ lit Null ∷ slots 1 (n - 1)
row_from None n = lit Null ∷ slots 0 n

-- the rowid of the row that stood, and then the row that is put
abbrev updates_from : Option ℕ → ℕ → List Term
updates_from (Some at) n = col 1 0 ∷ col 0 (n + 2) ∷ lit Null ∷ slots (n + 3) (n - 1)
updates_from None n = col 1 0 ∷ col 1 0 ∷ slots (n + 2) n

abbrev pub source_of : Table → Source
source_of table = Values (row_from table.key (length table.columns)) (length table.columns + 1)

abbrev pub updates_of : Table → List Term
updates_of table = updates_from table.key (length table.columns)
