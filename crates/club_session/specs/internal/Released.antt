-- The log of a store that was copied into its database file. No promise of the program rests on these definitions.
use Rattle.std.specs.Prelude.{◌≡◌}
use Rattle.sqlite_disk.specs.declared.Disk.{Ghosts}
use Rattle.sqlite_disk.specs.declared.Files.{Files}
use Rattle.sqlite_trees.specs.Tree.{Trees}
use Rattle.sqlite_trees.specs.View.{IsClean}
use Rattle.sqlite_store.specs.declared.store.FileStore.{FileStore}
use Rattle.sqlite_store.specs.FileStore.{files, log_frames, recovers, view}

-- The files are those of a store whose log has no frame. A crash leaves nothing that it could not leave before.
pub record IsLogCopied {D : Type 0} {g : Ghosts D} (before : FileStore D g) (left : Files D) : Type 0 where
  pub last : FileStore D g
  pub same : files last ≡ (left.log, left.db)
  pub outcomes : (db : Trees) → recovers last db → recovers before db
  pub empty : IsClean (view last) → log_frames last ≡ 0
