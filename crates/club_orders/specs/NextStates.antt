-- The tables that a crash leaves after a task, from any legal state before it.
use Rattle.std.specs.Prelude.{◌≡◌, ◌≤◌, ◌<◌, ◌⊎◌, ◌+◌, ℕ, List, length, IsSome}
use Rattle.sqlite.specs.Tree.{Trees}
use Rattle.store_tables.specs.Migrations.{MigratesTo}
use Rattle.store_tables.specs.Over.{LeavesBeside, Neighbours}
use Rattle.store_tables.specs.Tables.{schema_number}
use Rattle.store_tables.specs.declared.names.Version.{Version}
use Rattle.club_requests.specs.declared.requests.Command.TheVariants.{Sweep}
use Rattle.club_requests.specs.declared.requests.Request as given_request
use Rattle.club_core.specs.State.{Request}
use Rattle.club_rows.specs.Club.{ClubState, tables}
use Rattle.club_changes.specs.Steps.{club_next}
use Rattle.store.specs.Clubs.{version_with}
use Rattle.store.specs.Histories.{IsAfter}
use Rattle.store.specs.declared.fault.StoreFault.TheVariants.{Schema}
use Rattle.cli.specs.declared.words.Task.{Task}
use Rattle.cli.specs.declared.words.Task.TheVariants as task
use Rattle.club_orders.specs.Report.{given, AreCarried}
use Rattle.club_orders.specs.declared.report.Report.{Report}
use Rattle.club_orders.specs.declared.report.Report.TheVariants.{Answered, Batched, StoreFailed}

-- The state after the request if it was answered; if a call failed or memory ran out, perhaps the one before; if schema
-- 2 cannot record it, the one before.
abbrev pub LeavesRequest : Neighbours → ClubState → Request → Report → Trees → Type 0
LeavesRequest them s asked (Answered outcome) trees = LeavesBeside them (tables (club_next s asked)) trees
LeavesRequest them s asked (StoreFailed (Schema number)) trees = LeavesBeside them (tables s) trees
LeavesRequest them s asked (StoreFailed fault) trees =
    LeavesBeside them (tables s) trees ⊎ LeavesBeside them (tables (club_next s asked)) trees
LeavesRequest them s asked _ trees = LeavesBeside them (tables s) trees

-- The state after the answered requests of a batch; if a fault ended it, perhaps after one more.
abbrev pub LeavesBatch : Neighbours → ClubState → List given_request.Request → Report → Trees → Type 0
LeavesBatch them s requests (Batched batched) trees =
    IsAfter them s requests (length batched.outcomes.items) trees
    ⊎ (IsSome batched.fault × IsAfter them s requests (length batched.outcomes.items + 1) trees)
LeavesBatch them s requests _ trees = LeavesBeside them (tables s) trees

-- An upgrade to the schema of the club or to an earlier one leaves the club as it is. One to a later schema leaves the
-- same state there; if it failed, perhaps in the schema before.
pub record LeavesUpgrade (them : Neighbours) (s : ClubState) (to : Version) (report : Report) (trees : Trees) : Type 0
  where
    pub same : schema_number to ≤ schema_number them.version → LeavesBeside them (tables s) trees
    -- there is no migration beside a foreign table with the name of a new table
    pub later : (after : Neighbours) → after.version ≡ to → schema_number them.version < schema_number to
        → MigratesTo them after → AreCarried them.version after s report trees

-- Only a command, a sweep with a limit, a batch and an upgrade change the state. The foreign tables beside the club
-- stay.
abbrev pub LeavesTask : Neighbours → ClubState → Task → (moment : ℕ) → Report → Trees → Type 0
LeavesTask them s (task.Request command) moment report trees =
    LeavesRequest them s (given command moment) report trees
LeavesTask them s (task.SweepAtMost most) moment report trees =
    LeavesRequest them s (given Sweep moment) report trees
LeavesTask them s (task.Batch batch) moment report trees = LeavesBatch them s batch.requests.items report trees
LeavesTask them s (task.Upgrade has_arbiter) moment report trees =
    LeavesUpgrade them s (version_with has_arbiter) report trees
LeavesTask them s _ moment report trees = LeavesBeside them (tables s) trees
