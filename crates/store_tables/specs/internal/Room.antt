-- A database with foreign tables in which a club can be created. No promise of the program rests on these definitions.
use Rattle.std.specs.Prelude.{◌≡◌, true, List, [], ◌∷◌}
use Rattle.sqlite.specs.Schema.{Schema}
use Rattle.sqlite.specs.State.{State}
use Rattle.sqlite_catalog.specs.Change.{created, next_tree}
use Rattle.store_tables.specs.Contents.{Content, Holds, nothing}
use Rattle.store_tables.specs.internal.Contents.{opening}
use Rattle.store_tables.specs.Over.{Neighbours}
use Rattle.store_tables.specs.internal.Over.{HoldsBeside}
use Rattle.store_tables.specs.Room.{AreUnused, HasRoom, made_in}
use Rattle.store_tables.specs.Tables.{made_as}
use Rattle.store_tables.specs.declared.names.Table as of_club
use Rattle.store_tables.specs.declared.names.Version.{Version}

-- The trees that these tables get have no rows in the content.
abbrev pub AreBare : Schema → Content → List of_club.Table → Type 0
AreBare schema content [] = Unit {0}
AreBare schema content (table ∷ tables) =
    (content (next_tree schema) ≡ []) × AreBare (created schema (made_as table 0)) content tables

-- Inside a transaction these tables of a club were created and all other rows stayed; nothing was committed.
pub record MakesHere (tables : List of_club.Table) (old new : State) : Type 0 where
  pub made : (schema : Schema) → AreUnused schema tables → (content : Content) → Holds schema old.now content
      → AreBare schema content tables → Holds (made_in schema tables) new.now content
  pub committed : new.committed ≡ old.committed
  pub inside : new.in_transaction ≡ true

-- Inside a transaction the tables of a club of this version were created and the foreign rows stayed; nothing was
-- committed.
pub record Makes (version : Version) (old new : State) : Type 0 where
  pub made : (schema : Schema) (them : Neighbours) → them.version ≡ version → HasRoom schema them
      → Holds schema old.now them.rows → HoldsBeside them nothing new.now
  pub committed : new.committed ≡ old.committed
  pub inside : new.in_transaction ≡ true

-- The same, with the rows of a new club.
pub record Fills (version : Version) (old new : State) : Type 0 where
  pub holds : (schema : Schema) (them : Neighbours) → them.version ≡ version → HasRoom schema them
      → Holds schema old.now them.rows → HoldsBeside them (opening version) new.now
  pub committed : new.committed ≡ old.committed
  pub inside : new.in_transaction ≡ true
