-- What an opening finds of what a stop left.
use Rattle.std.proofs.Common.{rules, ◌≡◌, ◌≤◌, ℕ, IsTrue, sym, subst}
use Rattle.std.proofs.Math.Logic.{∥∥₁_map}
use Rattle.sqlite_wal.specs.Recovery.{Image}
use Rattle.sqlite.specs.Tree.{Trees}
use Rattle.sqlite_store.specs.declared.store.FileStore.{FileStore}
use Rattle.sqlite_store.specs.FileStore.{state as store_state, view, recovers}
use Rattle.sqlite_disk.specs.declared.Disk.{Ghosts}
use Rattle.sqlite.specs.Held.{Held, AreDatabases}
use Rattle.sqlite.specs.Files.{file_state}
use Rattle.sqlite.proofs.Theorems.{opens_again}
use Rattle.store_files.specs.Finds.{Finds}

-- Where the files hold what a stop left, an opening finds a member of what the connection may leave.
pub next_finds : {D : Type 0} {g : Ghosts D} (old : Held (FileStore D g)) (last : FileStore D g)
    → IsTrue (view last).is_numbered → AreDatabases (recovers last)
    → ((db : Trees) → recovers last db → recovers old.store db)
    → (left : Image) → (store_state last).may_leave left → (found : Trees) → Finds left found
    → ∥ (file_state old).may_leave found ∥₁
next_finds old last numbered sound outcomes left may found finds =
    let back : recovers last found → (file_state old).may_leave found = outcomes found in
    ∥∥₁_map (opens_again last numbered sound left may)
    (λ held. back (subst (recovers last) (sym (finds held.0 held.2)) held.1))

-- a disk that is clean in the end was clean
pub was_clean : (before after : ℕ) → before ≤ after → after ≡ 0 → before ≡ 0
was_clean before after rises clean = search rules
