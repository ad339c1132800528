-- What an upgrade reports, and which clubs it finds.
use Rattle.std.proofs.Common.{◌≡◌, ◌⊎◌, ◌≤◌, ◌<◌, ◌∙◌, true, false, List, [], ◌∷◌, ◌++◌, inl, inr, refl}
use Rattle.std.proofs.Common.{ap, arith, sym, subst, true≢false}
use Rattle.sqlite.specs.Schema.{Schema}
use Rattle.sqlite.specs.State.{State}
use Rattle.sqlite.specs.Tree.{Trees}
use Rattle.store_tables.specs.Contents.{Content}
use Rattle.store_tables.specs.Migrations.{MigratesTo}
use Rattle.store_tables.specs.Over.{HoldsClubAmong, LeavesBeside, Neighbours}
use Rattle.store_tables.specs.Placed.{HasTables}
use Rattle.store_tables.specs.Sql.{Has}
use Rattle.store_tables.specs.Tables.{IsServed, schema_number}
use Rattle.store_tables.specs.declared.names.Version.{Version}
use Rattle.store_tables.specs.declared.names.Version.TheVariants.{V1, V2, V3}
use Rattle.club_rows.specs.Club.{ClubState, IsClub, tables}
use Rattle.club_rows.specs.FirstSchema.{IsClubOf, tables_at}
use Rattle.schema_match.specs.Shapes.{is_of_club}
use Rattle.club_check.specs.declared.fault.OpenFault.{OpenFault}
use Rattle.club_check.specs.declared.fault.OpenFault.TheVariants as open_fault
use Rattle.store.specs.Histories.{HasState, HistoryStep, IsHistory, IsReachable, IsReachableIn, upgraded}
use Rattle.store.specs.Upgrades.{uses_names_of, version_found, version_left}
use Rattle.store.specs.declared.upgrade_result.Upgrade.{Upgrade}
use Rattle.store.specs.declared.upgrade_result.Upgrade.TheVariants.{Done, Already}
use Rattle.store.proofs.Proved.{own_version, tables_served}
use Rattle.club_orders.specs.Refused.{HasEarlier}
use Rattle.club_orders.specs.Report.{IfUnopened, IfUpgradeOf, schema_led_to, schemas_after_upgrade, upgrade_of}
use Rattle.club_orders.specs.declared.report.Report.TheVariants as report
use Rattle.club_orders.specs.declared.report.Report.{Report}
use Rattle.club_orders.specs.internal.Report.{upgrade_report}

-- ---- reports

-- what an upgrade to a version reports, whichever version it found
module _ (to : Version) (done : Upgrade) where
  pub upgrade_leads : schema_led_to to (upgrade_report done) ≡ version_left to done
  upgrade_leads = by done
    where
      by : (d : Upgrade) → schema_led_to to (upgrade_report d) ≡ version_left to d
      by (Done from) = refl
      by (Already version) = refl

  -- an answered upgrade leaves the version that it names
  pub upgrade_left : (from : Version) (versions : List Version) (them : Neighbours) (chapters : List HistoryStep)
      (db : Trees)
      → IsReachable from (version_left to done) them (chapters ++ upgraded (version_left to done) true ∷ []) db
      → IsReachableIn from (schemas_after_upgrade to (upgrade_report done) versions) them
      (chapters ++ upgrade_of to (upgrade_report done) ∷ []) db
  upgrade_left from versions them chapters db led = by done led
    where
      by : (d : Upgrade)
          → IsReachable from (version_left to d) them (chapters ++ upgraded (version_left to d) true ∷ []) db
          → IsReachableIn from (schemas_after_upgrade to (upgrade_report d) versions) them
          (chapters ++ upgrade_of to (upgrade_report d) ∷ []) db
      by (Done found) led = record { version = to; among = inl refl; reached = led }
      by (Already version) led = record { version = version; among = inl refl; reached = led }

module _ (done : Upgrade) where
  pub upgrade_taken : (P : OpenFault → Type 0) → IfUnopened (upgrade_report done) P
  upgrade_taken P = by done
    where
      by : (d : Upgrade) → IfUnopened (upgrade_report d) P
      by (Done from) = tt
      by (Already version) = tt

  pub upgrade_found : (P : Version → Type 0) → P (version_found done) → IfUpgradeOf (upgrade_report done) P
  upgrade_found P is = by done is
    where
      by : (d : Upgrade) → P (version_found d) → IfUpgradeOf (upgrade_report d) P
      by (Done from) is = is
      by (Already version) is = is

  -- where nothing was done, it is not reported
  pub upgrade_only : (version : Version) → done ≡ Already version → (from : Version)
      → ◌≡◌ {A = Report} (upgrade_report done) (report.Upgraded from) → ⊥
  upgrade_only version already from is =
      let same : ◌≡◌ {A = Report} (report.AlreadyUpgraded version) (report.Upgraded from) =
      sym (ap upgrade_report already) ∙ is in
      absurd (let x = same in cc)

-- an upgrade that was cut off leaves the requested version, or the one that was there
pub upgrade_stopped : (to from version : Version) (versions : List Version) (them : Neighbours)
    (chapters : List HistoryStep) (db : Trees) → Has versions version
    → IsReachableIn from (version ∷ to ∷ []) them chapters db
    → IsReachableIn from (to ∷ versions) them chapters db
upgrade_stopped to from version versions them chapters db among led = record {
  version = led.version;
  among = elim led.among [
    | inl stays ↦ inr (subst (Has versions) (sym stays) among)
    | inr (inl is) ↦ inl is
    | inr (inr none) ↦ absurd none
  ];
  reached = led.reached;
}

-- ---- faults

-- what an upgrade may tell of a legal club of this schema
abbrev pub IsToldOf : (to version : Version) → Schema → OpenFault → Type 0
IsToldOf to version schema fault =
    (fault ≡ open_fault.Store)
    ⊎ ((fault ≡ open_fault.Memory)
    ⊎ ((fault ≡ open_fault.Foreign) × (uses_names_of to schema ≡ true) × (schema_number version < schema_number to)))

-- without the names of new tables only a call or memory can fail
pub not_named : (to version : Version) (schema : Schema) (fault : OpenFault) → uses_names_of to schema ≡ false
    → IsToldOf to version schema fault → (fault ≡ open_fault.Store) ⊎ (fault ≡ open_fault.Memory)
not_named to version schema fault free (inl is) = inl is
not_named to version schema fault free (inr (inl is)) = inr is
not_named to version schema fault free (inr (inr told)) = absurd (true≢false (sym told.1 ∙ free))

-- the same of a club that needs no migration
pub not_later : (to version : Version) (schema : Schema) (fault : OpenFault)
    → schema_number to ≤ schema_number version → IsToldOf to version schema fault
    → (fault ≡ open_fault.Store) ⊎ (fault ≡ open_fault.Memory)
not_later to version schema fault reached (inl is) = inl is
not_later to version schema fault reached (inr (inl is)) = inr is
not_later to version schema fault reached (inr (inr told)) = let less = told.2 in absurd (omega (arith, less, reached))

-- ---- clubs

-- a version that is no earlier than the requested one can be served
pub reached_served : (to version : Version) → IsServed to → schema_number to ≤ schema_number version
    → IsServed version
reached_served V1 version served reached = absurd (true≢false (sym served))
reached_served V2 V1 served reached = absurd (omega (arith, reached))
reached_served V3 V1 served reached = absurd (omega (arith, reached))
reached_served to V2 served reached = refl
reached_served to V3 served reached = refl

-- the tables of a club that needs no migration
pub found_reached : (to version : Version) → IsServed to → schema_number to ≤ schema_number version
    → {from : Version} {them : Neighbours} {chapters : List HistoryStep} {s : State}
    → (at : IsHistory from version them chapters s) → HoldsClubAmong at.exactly.before (tables at.after) s
found_reached to version served reached {s = s} at =
    let rows : ◌≡◌ {A = Content} (tables_at version at.after) (tables at.after) =
    tables_served version (reached_served to version served reached) at.after in
    subst (λ (content : Content). HoldsClubAmong at.exactly.before content s) rows at.exactly.holds

pub tables_reached : {version : Version} {before : Neighbours} {content : Content} {s : State}
    → before.version ≡ version → HoldsClubAmong before content s → HasTables version s.now.schema
tables_reached {before = before} {s = s} is k =
    subst (λ v. HasTables v s.now.schema) is (subst (HasTables before.version) (sym k.exactly.now.schema) k.clear.club)

-- a club of a served schema is one of an earlier schema where a migration leads on
pub earlier_of : (s : ClubState) (trees : Trees) (has : HasState s trees) (to : Version) (after : Neighbours)
    → IsClub s → IsServed has.them.version → IsServed to → after.version ≡ to
    → schema_number has.them.version < schema_number to → MigratesTo has.them after
    → HasEarlier has.them.version after s trees
earlier_of s trees has to after club serves served is less migrates =
    let version = has.them.version in
    let rows : ◌≡◌ {A = Content} (tables_at version s) (tables s) = tables_served version serves s in
    let led = ap schema_number is in
    record {
      legal = subst (λ v. IsClubOf v s) (sym has.version) (own_version s club);
      served = subst IsServed (sym is) served;
      earlier = omega (arith, led, less);
      leaves = record {
        before = has.them;
        is = refl;
        migrates = migrates;
        leaves = subst (λ (content : Content). LeavesBeside has.them content trees) (sym rows) has.leaves;
      };
      shape = ap (λ v. is_of_club v has.them.schema) has.version ∙ has.shape;
    }
