use Rattle.std.proofs.Common.{◌≡◌, ◌⊎◌, true, [], ◌∷◌, ◌++◌, ap, arith, inl, inr, refl, sym, subst, ◌∙◌}
use Rattle.sqlite.specs.Held.{state}
use Rattle.sqlite.specs.Tree.{Trees}
use Rattle.schema_match.specs.Shapes.{is_of_club}
use Rattle.store_tables.specs.Contents.{Content}
use Rattle.store_tables.specs.Migrations.{LeavesInVersion}
use Rattle.store_tables.specs.Over.{HoldsClubAmong, LeavesBeside}
use Rattle.store_tables.specs.Tables.{schema_number}
use Rattle.store_tables.specs.declared.names.Version.{Version}
use Rattle.store_tables.proofs.Proved.{leaves_beside}
use Rattle.club_check.specs.Versions.{HoldsRows}
use Rattle.club_rows.specs.Club.{tables}
use Rattle.club_rows.specs.FirstSchema.{tables_at, upgraded_to}
use Rattle.club_rows.specs.Tables.{version_of}
use Rattle.club_rows.proofs.Proved.{version-served}
use Rattle.store.specs.Histories.{IsReachableIn}
use Rattle.store.specs.Upgrades.{uses_names_of, version_left}
use Rattle.store.proofs.Proved.{names_free, own_version, reached_tables, tables_served}
use Rattle.club_orders.specs.internal.Refused.{IsUpgradeRefusal}
use Rattle.club_orders.specs.internal.Report.{IsUpgradeResult, upgrade_report}
use Rattle.club_orders.specs.Report.{IfUnopened, IfUpgradeOf, IsRepeated}
use Rattle.club_orders.specs.Report.{schema_led_to, schemas_after_upgrade, upgrade_of}
use Rattle.club_orders.proofs.TakenLemmas.{earlier_beside, earlier_schema, is_taken, is_taken_earlier, stands_beside}
use Rattle.club_orders.proofs.UpgradeLemmas.{found_reached, not_later, not_named, tables_reached}
use Rattle.club_orders.proofs.UpgradeLemmas.{upgrade_found, upgrade_leads, upgrade_left, upgrade_only}
use Rattle.club_orders.proofs.UpgradeLemmas.{upgrade_stopped, upgrade_taken}
use Rattle.club_orders.proofs.execution.run_upgrade.Goals as goal

pub returns-in-Ok-clause-carries : goal.returns-in-Ok-clause-carries
returns-in-Ok-clause-carries g c clean opens live from them s has to_them =
    let to = c.args.to in
    let at = earlier_beside from them s _ (c.holds_exactly.ensures opens live) has in
    let led = ap schema_number to_them in
    let (done, exactly) = c.in-Ok.ensures.done clean from them s has.legal (omega (arith, has.earlier, led)) to_them at in
    let is = c.report_of_upgrade.ensures ∙ ap upgrade_report done in
    let new = state g.S.Store c.in-Ok.conn in
    let here = subst (λ v. HoldsClubAmong them (tables (upgraded_to v s)) new) (sym to_them) exactly in
    subst (λ r. IsUpgradeResult from them s r new) (sym is)
    (record { answer = refl; leaves = leaves_beside them (tables (upgraded_to them.version s)) new here })

pub returns-in-Ok-clause-repeats : goal.returns-in-Ok-clause-repeats
returns-in-Ok-clause-repeats g c clean opens live s club left reached =
    let version = version_of s in
    let (done, exactly) = c.in-Ok.ensures.already clean version left.them s (own_version s club) reached left.version
    (stands_beside s _ (c.holds_exactly.ensures opens live) left) in
    let is = c.report_of_upgrade.ensures ∙ ap upgrade_report done in (
      subst (IsRepeated version) (sym is) refl,
      λ db may. g.met.S.Store.settled c.args.conn.store db opens.is_open
          (c.in-Ok.ensures.unchanged clean version done db may),
    )

pub returns-in-Ok-clause-refuses : goal.returns-in-Ok-clause-refuses
returns-in-Ok-clause-refuses g c clean =
    let P = IsUpgradeRefusal c.args.to (state g.S.Store c.args.conn) (state g.S.Store c.in-Ok.conn) in
    subst (λ r. IfUnopened r P) (sym c.report_of_upgrade.ensures) (upgrade_taken c.in-Ok.done P)

pub returns-in-Ok-clause-shape : goal.returns-in-Ok-clause-shape
returns-in-Ok-clause-shape g c =
    let P : Version → Type 0 = λ version. is_of_club version (state g.S.Store c.args.conn).now.schema ≡ true in
    subst (λ r. IfUpgradeOf r P) (sym c.report_of_upgrade.ensures) (upgrade_found c.in-Ok.done P c.in-Ok.ensures.shape)

pub returns-in-Ok-clause-beside : goal.returns-in-Ok-clause-beside
returns-in-Ok-clause-beside g c used from is =
    upgrade_only c.in-Ok.done c.args.to (c.in-Ok.ensures.beside used) from (sym c.report_of_upgrade.ensures ∙ is)

pub returns-in-Ok-clause-stays : goal.returns-in-Ok-clause-stays
returns-in-Ok-clause-stays g c clean opens live from version them chapters reached led db left =
    let at = c.opened_history_holds.ensures opens live from version them chapters led in
    let holds = found_reached c.args.to version c.requires.served reached at in
    let done = (c.in-Ok.ensures.already clean version at.exactly.before at.after at.legal reached at.exactly.is holds).0 in
    c.crash_keeps_history.ensures from version them chapters at db (c.in-Ok.ensures.unchanged clean version done db left)

pub returns-in-Ok-clause-history : goal.returns-in-Ok-clause-history
returns-in-Ok-clause-history g c clean opens live from versions them chapters led_to led db left =
    let to = c.args.to in
    let done = c.in-Ok.done in
    let is = led_to ∙ (ap (schema_led_to to) c.report_of_upgrade.ensures ∙ upgrade_leads to done) in
    let (same, at) = c.in-Ok.ensures.history clean opens live from led.version them chapters is led.reached in
    subst (λ r. IsReachableIn from (schemas_after_upgrade to r versions) them (chapters ++ upgrade_of to r ∷ []) db)
    (sym c.report_of_upgrade.ensures)
    (upgrade_left to done from versions them chapters db
    (c.crash_keeps_history-in-Ok.ensures from (version_left to done) them _ at db left))

pub returns-in-Err-clause-carries : goal.returns-in-Err-clause-carries
returns-in-Err-clause-carries g c clean opens live from them s has to_them =
    let to = c.args.to in
    let exact = c.holds_exactly.ensures opens live in
    let old = state g.S.Store c.args.conn in
    let led = ap schema_number to_them in
    let less : _ = omega (arith, has.earlier, led) in
    let free = ap (uses_names_of to) (earlier_schema from them s old exact has)
    ∙ names_free from to has.leaves.before them has.leaves.is to_them has.leaves.migrates less in
    record {
      answer = not_named to from old.now.schema c.in-Err.unopened.fault free
          (is_taken_earlier from them s old exact has _ (c.in-Err.ensures.accepts_sound clean from s has.legal));
      leaves = subst
          (λ v. (db : Trees) → (state g.S.Store c.in-Err.unopened.conn).may_leave db
          → LeavesInVersion from them (tables_at from s) db ⊎ LeavesBeside them (tables (upgraded_to v s)) db)
          (sym to_them)
          (c.in-Err.ensures.fault clean from them s has.legal less to_them (earlier_beside from them s old exact has));
    }

pub returns-in-Err-clause-repeats : goal.returns-in-Err-clause-repeats
returns-in-Err-clause-repeats g c clean opens live s club left reached =
    let to = c.args.to in
    let old = state g.S.Store c.args.conn in
    let exact = c.holds_exactly.ensures opens live in
    let version = version_of s in
    let rows : ◌≡◌ {A = Content} (tables_at version s) (tables s) = tables_served version (version-served s) s in
    let here = stands_beside s old exact left in
    let found = reached_tables to version c.requires.served reached old.now.schema
    (tables_reached left.version here) in (
      not_later to version old.now.schema c.in-Err.unopened.fault reached
          (is_taken s old exact left club _
          (λ holds. c.in-Err.ensures.accepts_sound clean version s (own_version s club)
          (subst (λ (content : Content). HoldsRows version content old.now) (sym rows) holds))),
      λ db may. g.met.S.Store.settled c.args.conn.store db opens.is_open
          (elim found [
            | inl (second, stands) ↦ (c.in-Err.ensures.stays clean second stands).may clean db may
            | inr used ↦ (c.in-Err.ensures.untouched used).may clean db may
          ]),
    )

pub returns-in-Err-clause-stays : goal.returns-in-Err-clause-stays
returns-in-Err-clause-stays g c clean opens live from version them chapters reached led db left =
    let at = c.opened_history_holds.ensures opens live from version them chapters led in
    let found = reached_tables c.args.to version c.requires.served reached (state g.S.Store c.args.conn).now.schema
    (tables_reached at.exactly.is at.exactly.holds) in
    c.crash_keeps_history.ensures from version them chapters at db
    (elim found [
      | inl (second, stands) ↦ (c.in-Err.ensures.stays clean second stands).may clean db left
      | inr used ↦ (c.in-Err.ensures.untouched used).may clean db left
    ])

pub returns-in-Err-clause-refuses : goal.returns-in-Err-clause-refuses
returns-in-Err-clause-refuses g c clean =
    record {
      blames = λ is. c.in-Err.ensures.reason_is_right clean is;
      first = λ is. c.in-Err.ensures.first_damaged clean is;
      kept = λ other opens db left.
          g.met.S.Store.settled c.args.conn.store db opens.is_open ((c.in-Err.ensures.kept other).may clean db left);
      beside = λ used opens db left.
          g.met.S.Store.settled c.args.conn.store db opens.is_open ((c.in-Err.ensures.untouched used).may clean db left);
    }

pub returns-in-Err-clause-history : goal.returns-in-Err-clause-history
returns-in-Err-clause-history g c clean opens live from versions them chapters led_to led db left =
    let to = c.args.to in
    let later = led.reached.leaves.migrates.later in
    let was = ap schema_number led.reached.leaves.is in
    let is = ap schema_number led_to in
    upgrade_stopped to from led.version versions them _ db led.among
    (c.in-Err.ensures.after_crash clean opens live from led.version them chapters led_to (omega (arith, later, was, is))
    led.reached db left)
