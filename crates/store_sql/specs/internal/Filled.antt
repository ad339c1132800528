-- The effect of creating the tables together with their rows. No promise of the program rests on these definitions.
use Rattle.std.specs.Prelude.{◌≡◌, true}
use Rattle.sqlite.specs.Schema.{Schema}
use Rattle.sqlite.specs.State.{State}
use Rattle.store_tables.specs.internal.Changed.{changed}
use Rattle.store_tables.specs.Contents.{Holds}
use Rattle.store_tables.specs.internal.Contents.{opening}
use Rattle.store_tables.specs.Over.{Neighbours}
use Rattle.store_tables.specs.internal.Over.{HoldsBeside}
use Rattle.store_tables.specs.Room.{HasRoom}
use Rattle.store_tables.specs.declared.names.Version.{Version}
use Rattle.store_tables.specs.declared.rows.Changes.{Changes}

-- Inside a transaction, a club of this version was created with these rows upserted over those of a new club; nothing
-- was committed.
pub record FillsWith (version : Version) (changes : Changes) (old new : State) : Type 0 where
  pub holds : (schema : Schema) (them : Neighbours) → them.version ≡ version → HasRoom schema them
      → Holds schema old.now them.rows → HoldsBeside them (changed version changes (opening version)) new.now
  pub committed : new.committed ≡ old.committed
  pub inside : new.in_transaction ≡ true
