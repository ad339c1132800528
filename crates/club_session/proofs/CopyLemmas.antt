-- The files of a copy, and what an opening finds in them.
use Rattle.std.proofs.Common.{[], sym, subst}
use Rattle.std.proofs.Math.Logic.{∥∥₁_map}
use Rattle.sqlite_disk.specs.declared.Disk.{Ghosts}
use Rattle.sqlite_disk.specs.declared.Files.{Files}
use Rattle.sqlite_wal.specs.Recovery.{Image}
use Rattle.sqlite_wal.specs.Files.{outcomes}
use Rattle.sqlite_store.specs.declared.store.FileStore.{FileStore}
use Rattle.sqlite.specs.Tree.{Trees}
use Rattle.sqlite.specs.Effect.{Database}
use Rattle.sqlite.specs.State.{State, HasCleanDisk}
use Rattle.sqlite.specs.Held.{Held}
use Rattle.sqlite.specs.Files.{HoldsDatabase, file_state}
use Rattle.sqlite.specs.Closing.{HoldsAlone, IsCopied}
use Rattle.store_tables.specs.Contents.{Content}
use Rattle.store_tables.specs.Club.{IsExactly, Leaves}
use Rattle.store_tables.specs.Tables.{schema_of}
use Rattle.store_tables.specs.declared.names.Version.{Version}
use Rattle.store_tables.proofs.Proved.{leaves_of}
use Rattle.store_files.specs.Finds.{Finds}
use Rattle.club_session.specs.Copied.{HoldCopy}

-- what is committed has the rows that the connection holds exactly
committed_rows : (version : Version) (content : Content) (s : State) → IsExactly version content s
    → Leaves version content s.committed.trees
committed_rows version content s at =
    subst (λ (d : Database). Leaves version content d.trees) (sym at.committed)
    (leaves_of (schema_of version) s.now content at.now)

found_rows : (version : Version) (content : Content) (files : Image) (db : Trees) → Leaves version content db
    → ∥ HoldsDatabase files db ∥₁ → (found : Trees) → Finds files found → ∥ Leaves version content found ∥₁
found_rows version content files db rows held found finds =
    ∥∥₁_map held (λ h. subst (Leaves version content) (sym (finds db h)) rows)

hold_copy : (version : Version) (content : Content) (files : Image) (db : Trees) → Leaves version content db
    → HoldsAlone files db → HoldCopy version content files
hold_copy version content files db rows held = record {
  both = found_rows version content files db rows held.both;
  alone = found_rows version content (record files { log = [] }) db rows held.alone;
}

-- a connection's files that were closed, with the log copied into the database file
pub closed_copy : {D : Type 0} {g : Ghosts D} (c : Held (FileStore D g)) (files : Files D) (version : Version)
    (content : Content) → (HasCleanDisk (file_state c) → IsExactly version content (file_state c)) → IsCopied c files
    → (image : Image) → outcomes g files.log files.db image → HoldCopy version content image
closed_copy c files version content exact copied image may =
    hold_copy version content image (file_state c).committed.trees
    (committed_rows version content (file_state c) (exact copied.was_clean)) (copied.left image may)
