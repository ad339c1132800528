-- What a serving session served, and the states that it leaves.
use Rattle.std.specs.Prelude.{◌≡◌, List}
use Rattle.sqlite.specs.Tree.{Trees}
use Rattle.sqlite_wal.specs.Recovery.{Image}
use Rattle.store_tables.specs.Over.{Neighbours}
use Rattle.club_rows.specs.Club.{ClubState}
use Rattle.club_rows.specs.Tables.{version_of}
use Rattle.store_files.specs.Finds.{IsFoundIn}
use Rattle.server.specs.Acknowledged.{LeadTo}
use Rattle.server.specs.declared.connections.Served.{Served}
use Rattle.club_session.specs.Served.{DeskState, beside_them, served}
use Rattle.club_session.specs.ServedStates.{IsLeftBy}

-- The database holds the tables of a state to which these items lead from `s`, beside the same foreign tables.
pub record IsLedTo (s : ClubState) (items : List Served) (found : Trees) : Type 0 where
  pub them : Neighbours
  pub version : them.version ≡ version_of s
  pub after : DeskState
  pub leads : LeadTo served (beside_them them s) items after
  pub leaves : IsLeftBy found after

-- so does whatever an opening finds in the files
abbrev pub AreLedTo : ClubState → List Served → Image → Type 0
AreLedTo s items files = (found : Trees) → IsFoundIn files found → ∥ IsLedTo s items found ∥₁

-- the same of whatever an opening finds in the files that a crash may leave
pub record AreSettled (s : ClubState) (items : List Served) (MayLeave : Image → Type 0) : Type 0 where
  pub them : Neighbours
  pub version : them.version ≡ version_of s
  pub after : DeskState
  pub leads : LeadTo served (beside_them them s) items after
  pub leaves : (left : Image) → MayLeave left → (found : Trees) → IsFoundIn left found → ∥ IsLeftBy found after ∥₁
