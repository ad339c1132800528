-- The contents of the files of a copy.
use Rattle.std.specs.Prelude.{◌⊎◌, [], Option, Some, None, ⊤}
use Rattle.sqlite_disk.specs.declared.Disk.{Ghosts}
use Rattle.sqlite_wal.specs.Files.{outcomes}
use Rattle.sqlite_wal.specs.Recovery.{Image}
use Rattle.sqlite_store.specs.FileStore.{recovers}
use Rattle.sqlite.specs.Tree.{Trees}
use Rattle.sqlite.specs.Files.{IsCleanLeft}
use Rattle.sqlite.specs.declared.file.Leftover.{Leftover}
use Rattle.sqlite.specs.declared.file.Leftover.TheVariants as left
use Rattle.store_tables.specs.Contents.{Content, IsEmpty}
use Rattle.store_tables.specs.Club.{Leaves}
use Rattle.store_tables.specs.declared.names.Version.{Version}
use Rattle.store_files.specs.Finds.{Finds}

-- An opening of the files finds the tables of this schema version with these rows, and so does an opening of the
-- database file without its log.
pub record HoldCopy (version : Version) (content : Content) (files : Image) : Type 0 where
  pub both : (found : Trees) → Finds files found → ∥ Leaves version content found ∥₁
  pub alone : (found : Trees) → Finds (record files { log = [] }) found → ∥ Leaves version content found ∥₁

module _ {D : Type 0} {g : Ghosts D} where
  -- the copy is complete in whatever a crash leaves of its files
  abbrev pub IsCopyOf : Version → Content → Leftover D g → Type 0
  IsCopyOf version content (left.Files files) =
      (image : Image) → outcomes g files.log files.db image → HoldCopy version content image
  IsCopyOf version content _ = ⊥

  -- The copy is complete, or it was cut off, and whatever a crash leaves of it has no table or is complete.
  abbrev pub IsCopyOrNone : Version → Content → Leftover D g → Type 0
  IsCopyOrNone version content (left.Files files) = IsCopyOf version content (left.Files files)
  IsCopyOrNone version content (left.Unopened files) = ⊥
  IsCopyOrNone version content (left.Store it) = (db : Trees) → recovers it db → IsEmpty db ⊎ Leaves version content db

  -- there is a copy, and it is complete
  abbrev pub HasCopyOf : Version → Content → Option (Leftover D g) → Type 0
  HasCopyOf version content None = ⊥
  HasCopyOf version content (Some it) = IsCleanLeft it → IsCopyOf version content it

  -- what exists of a copy is empty or complete
  abbrev pub HasCopyOrNone : Version → Content → Option (Leftover D g) → Type 0
  HasCopyOrNone version content None = ⊤
  HasCopyOrNone version content (Some it) = IsCleanLeft it → IsCopyOrNone version content it
