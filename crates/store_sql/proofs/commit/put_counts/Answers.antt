use Rattle.std.proofs.Common.{arith, inl}
use Rattle.store_tables.proofs.Proved.{steps_then}
use Rattle.store_sql.proofs.CommitLemmas.{served_has}
use Rattle.store_sql.proofs.commit.put_counts.Goals as goal

pub returns-clause-put : goal.returns-clause-put
returns-clause-put g c clean inside version served =
    let has = served_has version served in
    let one = c.in_ok-put_all.ensures.put (omega arith) inside version (inl has.seen) in
    let two = c.in_ok-put_all-2.ensures.put clean one.inside version (inl has.scores) in
    rw (c.deref.ensures.value, c.deref-2.ensures.value) at (steps_then _ _ _ _ _ one two)
