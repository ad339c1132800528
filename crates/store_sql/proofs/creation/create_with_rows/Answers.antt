use Rattle.std.proofs.Common.{arith, inl, inr, rules}
use Rattle.sqlite.specs.Held.{state}
use Rattle.store_tables.specs.Sql.{HasCleanDisk}
use Rattle.store_tables.specs.internal.Contents.{opening}
use Rattle.store_tables.specs.internal.Changed.{changed}
use Rattle.store_tables.specs.Over.{alone}
use Rattle.store_tables.proofs.Proved.{alone_exactly, alone_takes}
use Rattle.store_sql.proofs.CommitLemmas.{commit_survives, commits_beside, fits_alone, left_alone, served_of}
use Rattle.store_sql.proofs.SelectLemmas.{always_err}
use Rattle.store_sql.proofs.creation.create_with_rows.Goals as goal

pub returns-clause-stored : goal.returns-clause-stored
returns-clause-stored g c clean fits k =
    let end = c.commit.new.self.0 in
    let late : HasCleanDisk (state g.S.Store end) = search rules in
    let begun = c.transaction-tx.ensures.begun in
    let version = c.args.version in
    let served = served_of version c.args.changes.now fits in
    let steps = c.in_ok-fill_inside.ensures.filled (omega (arith, c.commit.ensures.survives.clean)) (rw begun) fits in
    alone_exactly version (changed version c.args.changes.now (opening version)) _
    (commits_beside g.S.Store (alone version) _ c.fill_inside.new.tx.conn.now end c.conn-2-1.given.0 (search rules)
    (alone_takes version)
    (fits_alone version _ (state g.S.Store c.args.conn.now) _ (rw begun at steps.holds) served k) (c.in_ok-commit.ensures.ok late).1
    (g.met.S.Store.settled end.store))

pub returns-in_err-commit-clause-survives : goal.returns-in_err-commit-clause-survives
returns-in_err-commit-clause-survives g c =
    let begun = c.transaction-tx.ensures.begun in
    commit_survives g.S.Store c.args.conn.now c.fill_inside.new.tx.conn.now c.commit.new.self.0 c.conn-2-1.given.0 _
    (search rules) (rw begun at c.fill_inside.ensures.survives) c.commit.ensures.survives (λ clean. (
      λ fits. left_alone c.args.version _ _ _
          (rw begun at (c.in_ok-fill_inside.ensures.filled clean (rw begun) fits).holds)
          (served_of c.args.version c.args.changes.now fits),
      λ has. c.in_ok-fill_inside.ensures.refuses clean (rw begun) (rw begun has),
    ))

pub returns-in_err-commit-clause-fault : goal.returns-in_err-commit-clause-fault
returns-in_err-commit-clause-fault g c clean =
    always_err c.from_residual-in_err-commit.result _ (λ fits k db left.
    elim ((returns-in_err-commit-clause-survives g c).crash clean db left)
    [ inl was ↦ inl (k.may_leave db was) | inr made ↦ inr (made.0 fits k) ])

pub returns-clause-survives : goal.returns-clause-survives
returns-clause-survives g c =
    let begun = c.transaction-tx.ensures.begun in
    commit_survives g.S.Store c.args.conn.now c.fill_inside.new.tx.conn.now c.commit.new.self.0 c.conn-2-1.given.0 _
    (search rules) (rw begun at c.fill_inside.ensures.survives) c.commit.ensures.survives (λ clean. (
      λ fits. left_alone c.args.version _ _ _
          (rw begun at (c.in_ok-fill_inside.ensures.filled clean (rw begun) fits).holds)
          (served_of c.args.version c.args.changes.now fits),
      λ has. c.in_ok-fill_inside.ensures.refuses clean (rw begun) (rw begun has),
    ))
