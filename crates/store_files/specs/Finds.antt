-- The databases that an opening can find in files.
use Rattle.std.specs.Prelude.{◌≡◌, List}
use Rattle.sqlite_wal.specs.Recovery.{Image}
use Rattle.sqlite.specs.Tree.{Trees}
use Rattle.sqlite.specs.Files.{HoldsDatabase, AreFoundIn}
use Rattle.store_tables.specs.Contents.{IsEmpty}
use Rattle.store_tables.specs.Over.{Neighbours}
use Rattle.store_tables.specs.Room.{LeavesNoClub}
use Rattle.store_tables.specs.declared.names.Version.{Version}
use Rattle.store.specs.Histories.{HistoryStep, IsReachableIn}

-- the database that the files hold, as in the field `holds` of `FindsIn` (contract of `Connection::open`)
abbrev pub Finds : Image → Trees → Type 0
Finds files found = (db : Trees) → HoldsDatabase files db → found ≡ db

-- the database that the files hold, or an empty one if they hold none yet
pub record IsFoundIn (files : Image) (found : Trees) : Type 0 where
  pub holds : Finds files found
  pub reads : AreFoundIn files found

-- whatever an opening finds in the files, the history of a club that was created in the schema `from` leads to it in
-- one of these schemas, beside these foreign tables
abbrev pub AreReachable : (from : Version) → List Version → Neighbours → List HistoryStep → Image → Type 0
AreReachable from versions them chapters files =
    (found : Trees) → IsFoundIn files found → ∥ IsReachableIn from versions them chapters found ∥₁

-- whatever an opening finds in the files has these foreign tables and no club, and a club can be created there
abbrev pub AreWithoutClub : Neighbours → Image → Type 0
AreWithoutClub them files = (found : Trees) → IsFoundIn files found → LeavesNoClub them found

-- whatever an opening finds in the files has no table
abbrev pub HaveNoTables : Image → Type 0
HaveNoTables files = (found : Trees) → IsFoundIn files found → IsEmpty found
