use Rattle.sqlite.specs.Held.{state}
use Rattle.std.proofs.Common.{ap, arith, subst, sym}
use Rattle.store_tables.specs.Tables.{IsServed, schema_number}
use Rattle.club_rows.proofs.Proved.{version-served}
use Rattle.club_orders.proofs.SessionLemmas.{led_still_in}
use Rattle.club_orders.proofs.TakenLemmas.{kept_tables}
use Rattle.club_orders.proofs.UpgradeLemmas.{earlier_of}
use Rattle.club_orders.proofs.execution.act.Goals as goal

pub returns-in-Request-clause-answer : goal.returns-in-Request-clause-answer
returns-in-Request-clause-answer g c = rw c.in-Request.is c.execute_in_club.ensures.answer

pub returns-in-Ask-clause-asked : goal.returns-in-Ask-clause-asked
returns-in-Ask-clause-asked g c = rw c.in-Ask.is c.execute_in_club-in-Ask.ensures.answer

pub returns-in-Verify-clause-passes : goal.returns-in-Verify-clause-passes
returns-in-Verify-clause-passes g c = rw c.in-Verify.is c.verify.ensures.passes

pub returns-in-Verify-clause-sound : goal.returns-in-Verify-clause-sound
returns-in-Verify-clause-sound g c = rw c.in-Verify.is c.verify.ensures.sound

pub returns-in-Verify-clause-legal : goal.returns-in-Verify-clause-legal
returns-in-Verify-clause-legal g c = rw c.in-Verify.is c.verify.ensures.legal

pub returns-in-Upgrade-clause-repeats : goal.returns-in-Upgrade-clause-repeats
returns-in-Upgrade-clause-repeats g c = rw c.in-Upgrade.is (rw (sym c.version_of.ensures.is) c.run_upgrade.ensures.repeats)

pub returns-in-Batch-clause-given : goal.returns-in-Batch-clause-given
returns-in-Batch-clause-given g c = rw c.in-Batch.is c.execute_in_club-in-Batch.ensures.answer

pub returns-in-Init-clause-begun : goal.returns-in-Init-clause-begun
returns-in-Init-clause-begun g c = rw c.in-Init.is c.init.ensures.begun

pub returns-in-Init-clause-spares : goal.returns-in-Init-clause-spares
returns-in-Init-clause-spares g c = rw c.in-Init.is c.init.ensures.spares

pub returns-in-Init-clause-behind : goal.returns-in-Init-clause-behind
returns-in-Init-clause-behind g c = rw c.in-Init.is c.init.ensures.behind

pub returns-in-Request-clause-older : goal.returns-in-Request-clause-older
returns-in-Request-clause-older g c = rw c.in-Request.is c.execute_in_club.ensures.older

pub returns-in-SweepAtMost-clause-bounded : goal.returns-in-SweepAtMost-clause-bounded
returns-in-SweepAtMost-clause-bounded g c = rw c.in-SweepAtMost.is c.execute_in_club-in-SweepAtMost.ensures.answer

pub returns-in-SweepAtMost-clause-older : goal.returns-in-SweepAtMost-clause-older
returns-in-SweepAtMost-clause-older g c = rw c.in-SweepAtMost.is c.execute_in_club-in-SweepAtMost.ensures.older

pub returns-in-SweepAtMost-clause-next_state : goal.returns-in-SweepAtMost-clause-next_state
returns-in-SweepAtMost-clause-next_state g c = rw c.in-SweepAtMost.is c.execute_in_club-in-SweepAtMost.ensures.next_state

pub returns-in-SweepAtMost-clause-history : goal.returns-in-SweepAtMost-clause-history
returns-in-SweepAtMost-clause-history g c = rw c.in-SweepAtMost.is c.execute_in_club-in-SweepAtMost.ensures.history

pub returns-in-Ask-clause-older : goal.returns-in-Ask-clause-older
returns-in-Ask-clause-older g c = rw c.in-Ask.is c.execute_in_club-in-Ask.ensures.older

pub returns-in-Verify-clause-older : goal.returns-in-Verify-clause-older
returns-in-Verify-clause-older g c = rw c.in-Verify.is c.verify.ensures.older

pub returns-in-Backup-clause-older : goal.returns-in-Backup-clause-older
returns-in-Backup-clause-older g c = rw c.in-Backup.is c.verify-in-Backup.ensures.older

pub returns-in-Batch-clause-older : goal.returns-in-Batch-clause-older
returns-in-Batch-clause-older g c = rw c.in-Batch.is c.execute_in_club-in-Batch.ensures.older

pub returns-in-Upgrade-clause-carries : goal.returns-in-Upgrade-clause-carries
returns-in-Upgrade-clause-carries g c = rw c.in-Upgrade.is (rw (sym c.version_of.ensures.is) c.run_upgrade.ensures.carries)

pub returns-in-Init-clause-existing : goal.returns-in-Init-clause-existing
returns-in-Init-clause-existing g c = rw c.in-Init.is c.init.ensures.existing

pub returns-in-Init-clause-next_state : goal.returns-in-Init-clause-next_state
returns-in-Init-clause-next_state g c clean opens live s is_club has =
    rw c.in-Init.is (kept_tables s (state g.S.Store c.args.conn) (state g.S.Store c.init.result.1) has (c.init.ensures.unchanged clean opens live s is_club has))

pub returns-in-Request-clause-next_state : goal.returns-in-Request-clause-next_state
returns-in-Request-clause-next_state g c = rw c.in-Request.is c.execute_in_club.ensures.next_state

pub returns-in-Ask-clause-next_state : goal.returns-in-Ask-clause-next_state
returns-in-Ask-clause-next_state g c = rw c.in-Ask.is c.execute_in_club-in-Ask.ensures.next_state

pub returns-in-Verify-clause-next_state : goal.returns-in-Verify-clause-next_state
returns-in-Verify-clause-next_state g c clean opens live s is_club has =
    rw c.in-Verify.is (kept_tables s (state g.S.Store c.args.conn) (state g.S.Store c.verify.result.1) has (c.verify.ensures.keeps clean opens))

pub returns-in-Backup-clause-next_state : goal.returns-in-Backup-clause-next_state
returns-in-Backup-clause-next_state g c clean opens live s is_club has =
    rw c.in-Backup.is (kept_tables s (state g.S.Store c.args.conn) (state g.S.Store c.verify-in-Backup.result.1) has (c.verify-in-Backup.ensures.keeps clean opens))

pub returns-in-Upgrade-clause-next_state : goal.returns-in-Upgrade-clause-next_state
returns-in-Upgrade-clause-next_state g c clean opens live s is_club has db left =
    let to = c.version_of.result in
    let same = ap schema_number has.version in
    let serves = subst IsServed (sym has.version) (version-served s) in
    rw c.in-Upgrade.is
    (rw (sym c.version_of.ensures.is)
    (record {
      same = λ reached.
          kept_tables s (state g.S.Store c.args.conn) (state g.S.Store c.run_upgrade.result.1) has
          (c.run_upgrade.ensures.repeats clean opens live s is_club has (omega (arith, same, reached))).1 db left;
      later = λ after is less migrates.
          (c.run_upgrade.ensures.carries clean opens live has.them.version after s
          (earlier_of s (state g.S.Store c.args.conn).committed.trees has to after is_club serves c.version_of.ensures.served is less migrates)
          is).leaves db left;
    }))

pub returns-in-Batch-clause-next_state : goal.returns-in-Batch-clause-next_state
returns-in-Batch-clause-next_state g c = rw c.in-Batch.is c.execute_in_club-in-Batch.ensures.next_state

-- ---- histories

pub returns-in-Init-clause-history : goal.returns-in-Init-clause-history
returns-in-Init-clause-history g c clean opens live from versions them sessions served led db left =
    rw c.in-Init.is
    (led_still_in from versions them sessions db
    (c.init.ensures.history clean opens live from versions them sessions led db left))

pub returns-in-Verify-clause-history : goal.returns-in-Verify-clause-history
returns-in-Verify-clause-history g c clean opens live from versions them sessions served led db left =
    rw c.in-Verify.is
    (led_still_in from versions them sessions db
    (c.verify.ensures.history clean opens live from versions them sessions led db left))

pub returns-in-Backup-clause-history : goal.returns-in-Backup-clause-history
returns-in-Backup-clause-history g c clean opens live from versions them sessions served led db left =
    rw c.in-Backup.is
    (led_still_in from versions them sessions db
    (c.verify-in-Backup.ensures.history clean opens live from versions them sessions led db left))

pub returns-in-Request-clause-history : goal.returns-in-Request-clause-history
returns-in-Request-clause-history g c = rw c.in-Request.is c.execute_in_club.ensures.history

pub returns-in-Ask-clause-history : goal.returns-in-Ask-clause-history
returns-in-Ask-clause-history g c = rw c.in-Ask.is c.execute_in_club-in-Ask.ensures.history

pub returns-in-Batch-clause-history : goal.returns-in-Batch-clause-history
returns-in-Batch-clause-history g c = rw c.in-Batch.is c.execute_in_club-in-Batch.ensures.history

pub returns-in-Upgrade-clause-history : goal.returns-in-Upgrade-clause-history
returns-in-Upgrade-clause-history g c = rw c.in-Upgrade.is (rw (sym c.version_of.ensures.is) c.run_upgrade.ensures.history)

pub returns-in-Upgrade-clause-stays : goal.returns-in-Upgrade-clause-stays
returns-in-Upgrade-clause-stays g c clean opens live from version them sessions led =
    rw c.in-Upgrade.is
    (rw (sym c.version_of.ensures.is)
    (λ reached. c.run_upgrade.ensures.stays clean opens live from version them sessions reached led))

pub returns-in-Upgrade-clause-beside : goal.returns-in-Upgrade-clause-beside
returns-in-Upgrade-clause-beside g c = rw c.in-Upgrade.is (rw (sym c.version_of.ensures.is) c.run_upgrade.ensures.beside)
