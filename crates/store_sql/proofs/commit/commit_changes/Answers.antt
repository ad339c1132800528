use Rattle.std.proofs.Common.{arith, inl, inr, refl, rules}
use Rattle.sqlite.specs.Held.{state}
use Rattle.store_tables.specs.Sql.{HasCleanDisk}
use Rattle.store_tables.proofs.Proved.{leaves_beside}
use Rattle.store_sql.proofs.CommitLemmas.{commit_survives, commits_beside, left_beside}
use Rattle.store_sql.proofs.SelectLemmas.{always_err}
use Rattle.store_sql.proofs.commit.commit_changes.Goals as goal

pub returns-clause-stored : goal.returns-clause-stored
returns-clause-stored g c clean fits them content is k =
    let end = c.commit.new.self.0 in
    let late : HasCleanDisk (state g.S.Store end) = search rules in
    let begun = c.transaction-tx.ensures.begun in
    let steps = c.in_ok-put_changes.ensures.put (omega (arith, c.commit.ensures.survives.clean)) (rw begun)
    fits in
    commits_beside g.S.Store them _ c.put_changes.new.tx.conn.now end c.conn-2-1.given.0 (search rules) k.clear
    ((rw begun at steps.holds) them is k.clear content k.exactly.now) (c.in_ok-commit.ensures.ok late).1
    (g.met.S.Store.settled end.store)

pub returns-in_err-commit-clause-survives : goal.returns-in_err-commit-clause-survives
returns-in_err-commit-clause-survives g c =
    let begun = c.transaction-tx.ensures.begun in
    commit_survives g.S.Store c.args.conn.now c.put_changes.new.tx.conn.now c.commit.new.self.0 c.conn-2-1.given.0 _
    (search rules) (rw begun at c.put_changes.ensures.survives) c.commit.ensures.survives
    (λ clean fits them is takes content k. left_beside them _ _ takes
    ((rw begun at (c.in_ok-put_changes.ensures.put clean (rw begun) fits).holds) them is takes content k))

pub returns-in_err-commit-clause-fault : goal.returns-in_err-commit-clause-fault
returns-in_err-commit-clause-fault g c clean =
    always_err c.from_residual-in_err-commit.result _
    (λ fits them content is k db left. elim ((returns-in_err-commit-clause-survives g c).crash clean db left) [
      | inl was ↦ inl (leaves_beside them content _ k db was)
      | inr made ↦ inr (made fits them is k.clear content k.exactly.now)
    ])

pub returns-clause-survives : goal.returns-clause-survives
returns-clause-survives g c =
    let begun = c.transaction-tx.ensures.begun in
    commit_survives g.S.Store c.args.conn.now c.put_changes.new.tx.conn.now c.commit.new.self.0 c.conn-2-1.given.0 _
    (search rules) (rw begun at c.put_changes.ensures.survives) c.commit.ensures.survives
    (λ clean fits them is takes content k. left_beside them _ _ takes
    ((rw begun at (c.in_ok-put_changes.ensures.put clean (rw begun) fits).holds) them is takes content k))
