use Rattle.std.proofs.Common.{arith, inl, inr, rules, subst}
use Rattle.sqlite.specs.Held.{state}
use Rattle.store_tables.specs.Sql.{HasCleanDisk}
use Rattle.store_tables.specs.Placed.{HasTables}
use Rattle.store_tables.proofs.Proved.{leaves_in_version}
use Rattle.store_sql.proofs.CommitLemmas.{commit_survives, commits_beside, left_beside}
use Rattle.store_sql.proofs.SelectLemmas.{always_err}
use Rattle.store_sql.proofs.migration.migrate.Goals as goal

pub returns-clause-stored : goal.returns-clause-stored
returns-clause-stored g c clean served them content free last k =
    let end = c.commit.new.self.0 in
    let late : HasCleanDisk (state g.S.Store end) = search rules in
    let begun = c.transaction-tx.ensures.begun in
    let steps = c.in_ok-migrate_inside.ensures.widened (omega (arith, c.commit.ensures.survives.clean)) (rw begun)
    served in
    commits_beside g.S.Store them _ c.migrate_inside.new.tx.conn.now end c.conn-2-1.given.0 (search rules) k.migrates.clear
    ((rw begun at steps.holds) k.before k.is them last k.migrates
    (subst (λ v. HasTables v k.before.schema) k.is k.holds.clear.club) content free k.holds.exactly.now) (c.in_ok-commit.ensures.ok late).1
    (g.met.S.Store.settled end.store)

pub returns-in_err-commit-clause-survives : goal.returns-in_err-commit-clause-survives
returns-in_err-commit-clause-survives g c =
    let begun = c.transaction-tx.ensures.begun in
    commit_survives g.S.Store c.args.conn.now c.migrate_inside.new.tx.conn.now c.commit.new.self.0 c.conn-2-1.given.0 _
    (search rules) (rw begun at c.migrate_inside.ensures.survives) c.commit.ensures.survives
    (λ clean served before first after last migrates club content free k. left_beside after _ _ migrates.clear
    ((rw begun at (c.in_ok-migrate_inside.ensures.widened clean (rw begun) served).holds) before first after last
    migrates club content free k))

pub returns-clause-survives : goal.returns-clause-survives
returns-clause-survives g c =
    let begun = c.transaction-tx.ensures.begun in
    commit_survives g.S.Store c.args.conn.now c.migrate_inside.new.tx.conn.now c.commit.new.self.0 c.conn-2-1.given.0 _
    (search rules) (rw begun at c.migrate_inside.ensures.survives) c.commit.ensures.survives
    (λ clean served before first after last migrates club content free k. left_beside after _ _ migrates.clear
    ((rw begun at (c.in_ok-migrate_inside.ensures.widened clean (rw begun) served).holds) before first after last
    migrates club content free k))

pub returns-in_err-commit-clause-fault : goal.returns-in_err-commit-clause-fault
returns-in_err-commit-clause-fault g c clean =
    always_err c.from_residual-in_err-commit.result _ (λ served them content free last k db left.
    elim ((returns-in_err-commit-clause-survives g c).crash clean db left) [
      | inl was ↦ inl (leaves_in_version c.args.from them content _ k db was)
      | inr made ↦ inr (made served k.before k.is them last k.migrates
          (subst (λ v. HasTables v k.before.schema) k.is k.holds.clear.club) content free k.holds.exactly.now)
    ])

pub returns-in_err-migrate_inside-clause-survives : goal.returns-in_err-migrate_inside-clause-survives
returns-in_err-migrate_inside-clause-survives g c = search rules

pub returns-in_err-migrate_inside-clause-fault : goal.returns-in_err-migrate_inside-clause-fault
returns-in_err-migrate_inside-clause-fault g c clean =
    always_err c.from_residual.result _ (λ served them content free last k db left.
    elim ((returns-in_err-migrate_inside-clause-survives g c).crash clean db left) [
      | inl was ↦ inl (leaves_in_version c.args.from them content _ k db was)
      | inr made ↦ inr (made served k.before k.is them last k.migrates
          (subst (λ v. HasTables v k.before.schema) k.is k.holds.clear.club) content free k.holds.exactly.now)
    ])
