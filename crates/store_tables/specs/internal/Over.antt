-- The rows of a club in a database that also has foreign tables, indexes and views. No promise of the program rests on
-- these definitions.
use Rattle.std.specs.Prelude.{◌≡◌, true}
use Rattle.sqlite.specs.Effect.{Database}
use Rattle.sqlite.specs.State.{State}
use Rattle.store_tables.specs.Contents.{Content, Holds}
use Rattle.store_tables.specs.Over.{Neighbours, over, HasRowsIn}
use Rattle.store_tables.specs.Placed.{TakesClub}
use Rattle.store_tables.specs.declared.names.Version.{Version}
use Rattle.store_tables.specs.declared.names.Version.TheVariants.{V2}

-- the database has these rows of a club and the foreign rows
abbrev pub HoldsBeside : Neighbours → Content → Database → Type 0
HoldsBeside them content db = Holds them.schema db (over them content)

-- Inside a transaction the rows of a club of this version changed in this way and foreign rows did not; nothing was
-- committed.
pub record StepsBeside (version : Version) (change : Content → Content) (old new : State) : Type 0 where
  pub holds : (them : Neighbours) → them.version ≡ version → TakesClub them.version them.schema → (content : Content)
      → HoldsBeside them content old.now → HoldsBeside them (change content) new.now
  pub committed : new.committed ≡ old.committed
  pub inside : new.in_transaction ≡ true

-- the same for the tables of schema 2, which a club of schema 3 has too
abbrev pub HasRows : Content → State → Type 0
HasRows = HasRowsIn V2
