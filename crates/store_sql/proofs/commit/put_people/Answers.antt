use Rattle.std.proofs.Common.{arith, inl}
use Rattle.store_tables.proofs.Proved.{steps_then}
use Rattle.store_sql.proofs.CommitLemmas.{served_has}
use Rattle.store_sql.proofs.commit.put_people.Goals as goal

pub returns-clause-put : goal.returns-clause-put
returns-clause-put g c clean inside version served =
    let has = served_has version served in
    let one = c.in_ok-put_all.ensures.put (omega arith) inside version (inl has.members) in
    let two = c.in_ok-put_all-2.ensures.put (omega arith) one.inside version (inl has.events) in
    let three = c.in_ok-put_all-3.ensures.put (omega arith) two.inside version (inl has.event_rules) in
    let four = c.in_ok-put_all-4.ensures.put clean three.inside version (inl has.challenges) in
    rw (c.deref.ensures.value, c.deref-2.ensures.value, c.deref-3.ensures.value, c.deref-4.ensures.value) at
    (steps_then _ _ _ _ _ (steps_then _ _ _ _ _ (steps_then _ _ _ _ _ one two) three) four)
