use Rattle.std.proofs.Common.{◌∙◌, IsTrue, inl, inr, sym, subst, arith}
use Rattle.sqlite.specs.Tree.{Trees}
use Rattle.sqlite_store.specs.FileStore.{view, recovers}
use Rattle.store_files.proofs.FoundLemmas.{next_finds, was_clean}
use Rattle.store_files.proofs.CopyLemmas.{nothing_new, committed_numbered}
use Rattle.store_files.proofs.close.Goals as goal

pub returns-clause-clean : goal.returns-clause-clean
returns-clause-clean g c =
    omega (
      arith,
      c.into_store-store.ensures.quiet.clean,
      c.savepoint-marked.ensures.quiet.clean,
      c.commit-copied.ensures.clean,
    )

pub returns-clause-member : goal.returns-clause-member
returns-clause-member g c clean left may found finds =
    let first = c.into_store-store.ensures in
    let mark = c.savepoint-marked.ensures in
    let copy = c.commit-copied.ensures in
    let back = c.into_store-store.result in
    let begun = c.savepoint-marked.new.self in
    let last = c.commit-copied.new.self in
    let late = was_clean _ _ copy.clean clean in
    let early = was_clean _ _ mark.quiet.clean late in
    let earlier : (db : Trees) → recovers last db → recovers back db = λ db may. elim (copy.crash db may) [
      | inl new ↦ subst (recovers back) (sym new.1)
          (nothing_new g.met.D.Disk.seen_may_stay c.args.conn.store back begun early first.undone
          c.savepoint-marked.result mark.ok mark.err late new.0)
      | inr was ↦ mark.quiet.outcomes db was
    ] in
    let same = committed_numbered (view begun) (view last) c.commit-copied.result copy.frame copy.err clean ∙
    mark.schema.numbered in
    next_finds c.args.conn last (subst (λ b. IsTrue b) (sym same) (first.numbered early))
    (λ db may. first.sound early db (earlier db may))
    (λ db may. first.quiet.outcomes db (earlier db may)) left may found finds
