use Rattle.std.proofs.Common.{arith, refl, rules, inl, inr}
use Rattle.sqlite.specs.Held.{state}
use Rattle.store_tables.specs.Sql.{HasCleanDisk}
use Rattle.store_tables.specs.internal.Contents.{opening}
use Rattle.store_tables.specs.Over.{alone}
use Rattle.store_tables.specs.Tables.{schema_after}
use Rattle.store_tables.proofs.Proved.{alone_exactly, alone_room, alone_takes, holds_nothing, leaves_no_club}
use Rattle.store_tables.proofs.Proved.{room_takes}
use Rattle.store_sql.proofs.CreateLemmas.{handed_on}
use Rattle.store_sql.proofs.RefusedLemmas.{commit_known}
use Rattle.store_sql.proofs.CommitLemmas.{commit_survives, commits_beside, fits_alone, left_alone, left_behind}
use Rattle.store_sql.proofs.SelectLemmas.{always_err}
use Rattle.store_sql.proofs.make.create_tables.Goals as goal

pub returns-clause-stored : goal.returns-clause-stored
returns-clause-stored g c clean served k =
    let end = c.commit.new.self.0 in
    let late : HasCleanDisk (state g.S.Store end) = search rules in
    let begun = c.transaction-tx.ensures.begun in
    let steps = c.in_ok-create_inside.ensures.filled (omega (arith, c.commit.ensures.survives.clean)) (rw begun) in
    let version = c.args.version in
    alone_exactly version (opening version) _
    (commits_beside g.S.Store (alone version) _ c.create_inside.new.tx.conn.now end c.conn-2-1.given.0 (search rules)
    (alone_takes version)
    (fits_alone version _ (state g.S.Store c.args.conn.now) _ (rw begun at steps.holds) served k) (c.in_ok-commit.ensures.ok late).1
    (g.met.S.Store.settled end.store))

pub returns-clause-behind : goal.returns-clause-behind
returns-clause-behind g c clean them is k =
    let end = c.commit.new.self.0 in
    let late : HasCleanDisk (state g.S.Store end) = search rules in
    let begun = c.transaction-tx.ensures.begun in
    let steps = c.in_ok-create_inside.ensures.filled (omega (arith, c.commit.ensures.survives.clean)) (rw begun) in
    commits_beside g.S.Store them _ c.create_inside.new.tx.conn.now end c.conn-2-1.given.0 (search rules)
    (room_takes k.schema them k.before _ k.exactly.now)
    ((rw begun at steps.holds) k.schema them is k.before k.exactly.now) (c.in_ok-commit.ensures.ok late).1
    (g.met.S.Store.settled end.store)

pub returns-in_err-commit-clause-survives : goal.returns-in_err-commit-clause-survives
returns-in_err-commit-clause-survives g c =
    let begun = c.transaction-tx.ensures.begun in
    commit_survives g.S.Store c.args.conn.now c.create_inside.new.tx.conn.now c.commit.new.self.0 c.conn-2-1.given.0 _
    (search rules) (rw begun at c.create_inside.ensures.survives) c.commit.ensures.survives (λ clean.
    let filled = rw begun at (c.in_ok-create_inside.ensures.filled clean (rw begun)).holds in (
      left_alone c.args.version _ _ _ filled,
      λ has. c.in_ok-create_inside.ensures.refuses clean (rw begun) (rw begun has),
      left_behind c.args.version _ _ _ filled,
    ))

pub returns-in_err-commit-clause-fault : goal.returns-in_err-commit-clause-fault
returns-in_err-commit-clause-fault g c clean =
    always_err c.from_residual-in_err-commit.result _ (λ served k db left.
    elim ((returns-in_err-commit-clause-survives g c).crash clean db left)
    [ inl was ↦ inl (k.may_leave db was) | inr made ↦ inr (made.0 served k) ])

pub returns-in_err-commit-clause-behind_fault : goal.returns-in_err-commit-clause-behind_fault
returns-in_err-commit-clause-behind_fault g c clean =
    always_err c.from_residual-in_err-commit.result _ (λ them is k db left.
    elim ((returns-in_err-commit-clause-survives g c).crash clean db left)
    [ inl was ↦ inl (leaves_no_club them _ k db was) | inr made ↦ inr (made.2 them is k) ])

pub returns-clause-survives : goal.returns-clause-survives
returns-clause-survives g c =
    let begun = c.transaction-tx.ensures.begun in
    commit_survives g.S.Store c.args.conn.now c.create_inside.new.tx.conn.now c.commit.new.self.0 c.conn-2-1.given.0 _
    (search rules) (rw begun at c.create_inside.ensures.survives) c.commit.ensures.survives (λ clean.
    let filled = rw begun at (c.in_ok-create_inside.ensures.filled clean (rw begun)).holds in (
      left_alone c.args.version _ _ _ filled,
      λ has. c.in_ok-create_inside.ensures.refuses clean (rw begun) (rw begun has),
      left_behind c.args.version _ _ _ filled,
    ))

pub returns-in_err-create_inside-clause-known_behind : goal.returns-in_err-create_inside-clause-known_behind
returns-in_err-create_inside-clause-known_behind g c clean them is k =
    let begun = c.transaction-tx.ensures.begun in
    let late : HasCleanDisk (state g.S.Store c.create_inside.new.tx.conn.now) = search rules in
    handed_on _ _ c.from_residual.ensures.1
    ((rw begun at c.in_err-create_inside.ensures.known) late refl k.schema them is k.before k.exactly.now)

pub returns-in_err-create_inside-clause-known : goal.returns-in_err-create_inside-clause-known
returns-in_err-create_inside-clause-known g c clean served k =
    let begun = c.transaction-tx.ensures.begun in
    let late : HasCleanDisk (state g.S.Store c.create_inside.new.tx.conn.now) = search rules in
    handed_on _ _ c.from_residual.ensures.1
    ((rw begun at c.in_err-create_inside.ensures.known) late refl (schema_after 0) (alone c.args.version) refl
    (alone_room c.args.version served) (holds_nothing (schema_after 0) _ k.now))

pub returns-in_err-commit-clause-known : goal.returns-in_err-commit-clause-known
returns-in_err-commit-clause-known g c clean served k =
    handed_on _ _ c.from_residual-in_err-commit.ensures.1
    (commit_known _ _ _ (c.in_err-commit.ensures.err (search rules)))

pub returns-in_err-commit-clause-known_behind : goal.returns-in_err-commit-clause-known_behind
returns-in_err-commit-clause-known_behind g c clean them is k =
    handed_on _ _ c.from_residual-in_err-commit.ensures.1
    (commit_known _ _ _ (c.in_err-commit.ensures.err (search rules)))
