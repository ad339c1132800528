-- A club that an opening found, alone or among what other programs made.
use Rattle.std.proofs.Common.{◌≡◌, Bool, true, ap, sym, subst, ◌∙◌, Result, Ok, Err}
use Rattle.std.specs.Prelude.{IfOk, IfErr}
use Rattle.sqlite.specs.State.{State}
use Rattle.sqlite.specs.Tree.{Trees}
use Rattle.store_tables.specs.Contents as of_schema
use Rattle.store_tables.specs.Contents.{Content}
use Rattle.store_tables.specs.Migrations.{HoldsInVersion}
use Rattle.store_tables.specs.Over.{HasRowsIn, HoldsClubAmong, LeavesBeside, Neighbours}
use Rattle.store_tables.specs.Placed.{HasTablesOf}
use Rattle.store_tables.specs.Reading.{KeepsContent}
use Rattle.store_tables.specs.Room.{IsWithoutClub, LeavesNoClub}
use Rattle.store_tables.specs.declared.names.Version.{Version}
use Rattle.store_tables.proofs.Proved.{rows_in, still_beside, still_rows}
use Rattle.sqlite.specs.Schema.{Schema}
use Rattle.schema_match.specs.Shapes.{is_of_club}
use Rattle.club_rows.specs.Club.{ClubState, IsClub, StoresClub, tables}
use Rattle.club_rows.specs.FirstSchema.{tables_at}
use Rattle.club_rows.specs.Tables.{version_of}
use Rattle.club_check.specs.internal.Refused.{IsKept}
use Rattle.club_check.specs.Versions.{HoldsRows}
use Rattle.club_orders.specs.declared.report.Report.{Report}
use Rattle.club_orders.specs.declared.report.Report.TheVariants.{Unopened}
use Rattle.club_orders.specs.Refused.{HasEarlier}
use Rattle.club_orders.specs.Report.{IfTaken}
use Rattle.store.specs.Clubs.{Asks, Serves}
use Rattle.store.specs.Histories.{HasState}
use Rattle.store.proofs.Proved.{holds_beside, holds_in_version}

-- what a later opening would find the connection holds exactly
abbrev pub IsExact : State → Type 0
IsExact s = (schema : Schema) (content : Content) → of_schema.Leaves schema content s.committed.trees
    → of_schema.IsExactly schema content s

-- whatever a crash leaves of a club that is kept has its tables
pub kept_tables : (club : ClubState) (old new : State) (has : HasState club old.committed.trees) → IsKept old new
    → (db : Trees) → new.may_leave db → LeavesBeside has.them (tables club) db
kept_tables club old new has kept db left = subst (LeavesBeside has.them (tables club)) (sym (kept db left)) has.leaves

module _ (club : ClubState) (s : State) (exact : IsExact s) (has : HasState club s.committed.trees) where
  pub stands_beside : HoldsClubAmong has.them (tables club) s
  stands_beside = record { clear = has.leaves.clear; exactly = exact _ _ has.leaves.leaves }

  -- a call that answered left the rows
  pub still_there : (new : State) → KeepsContent s new → StoresClub club new
  still_there new kept =
      subst (λ v. HasRowsIn v (tables club) new) has.version
      (rows_in has.them (tables club) new (still_beside s new kept has.them (tables club) stands_beside))

  module _ (legal : IsClub club) where
    -- what a taker of such clubs promises
    pub is_taken : (P : Type 0)
        → (HoldsRows (version_of club) (tables club) s.now → is_of_club (version_of club) s.now.schema ≡ true → P) → P
    is_taken P takes =
        let at = stands_beside in
        takes (holds_beside has.them club s has.version legal at)
        (ap (is_of_club (version_of club)) at.exactly.now.schema ∙ has.shape)

    pub stand_beside : HasTablesOf (version_of club) s.now.schema
    stand_beside = (holds_beside has.them club s has.version legal stands_beside).schema

-- the same of a club of an earlier schema
module _ (from : Version) (them : Neighbours) (club : ClubState) (s : State) (exact : IsExact s)
    (has : HasEarlier from them club s.committed.trees) where
  pub earlier_beside : HoldsInVersion from them (tables_at from club) s
  earlier_beside = record {
    before = has.leaves.before;
    is = has.leaves.is;
    migrates = has.leaves.migrates;
    holds = record { clear = has.leaves.leaves.clear; exactly = exact _ _ has.leaves.leaves.leaves };
  }

  pub earlier_schema : s.now.schema ≡ has.leaves.before.schema
  earlier_schema = (exact _ _ has.leaves.leaves.leaves).now.schema

  pub earlier_shape : is_of_club from s.now.schema ≡ true
  earlier_shape = ap (is_of_club from) earlier_schema ∙ has.shape

  pub is_taken_earlier : (P : Type 0)
      → (HoldsRows from (tables_at from club) s.now → is_of_club from s.now.schema ≡ true → P) → P
  is_taken_earlier P takes =
      takes (holds_in_version from them club s has.served has.legal earlier_beside) earlier_shape

-- a call that answered left what a query finds
pub still_asked : {one other : Bool} {club : ClubState} → other ≡ one → (old new : State) → KeepsContent old new
    → Asks one old club → Asks other new club
still_asked {club = club} same old new kept asks = record {
  legal = asks.legal;
  arbiter = same ∙ asks.arbiter;
  stores = still_rows old new kept (tables club) asks.stores;
}

-- and what a command finds
pub still_served : {one other : Bool} {them : Neighbours} {club : ClubState} → other ≡ one → (old new : State)
    → KeepsContent old new → Serves one old them club → Serves other new them club
still_served {them = them} {club = club} same old new kept k = record {
  legal = k.legal;
  arbiter = same ∙ k.arbiter;
  version = k.version;
  holds = still_beside old new kept them (tables club) k.holds;
}

-- a connection that opens on the tables of other programs alone has exactly these
pub without_club : (them : Neighbours) (s : State) → IsExact s → LeavesNoClub them s.committed.trees
    → IsWithoutClub them s
without_club them s exact left =
    record { schema = left.schema; before = left.before; exactly = exact _ _ left.leaves }

-- what was taken over is told of whatever report that it was
pub taken_so : (P : Type 0) (report : Report) → P → IfTaken report P
taken_so P (Unopened fault) is = tt
taken_so P _ is = is

-- two things that are told of a call where it answered, or where it did not
module _ {T E : Type 0} where
  pub both_ok : (r : Result T E) (P Q : T → Type 0) → IfOk r P → IfOk r Q → IfOk r (λ x. P x × Q x)
  both_ok (Ok x) P Q p q = (p, q)
  both_ok (Err y) P Q p q = tt

  pub both_err : (r : Result T E) (P Q : E → Type 0) → IfErr r P → IfErr r Q → IfErr r (λ y. P y × Q y)
  both_err (Ok x) P Q p q = tt
  both_err (Err y) P Q p q = (p, q)
