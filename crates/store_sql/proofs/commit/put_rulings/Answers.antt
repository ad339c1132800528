use Rattle.std.proofs.Common.{arith}
use Rattle.store_tables.proofs.Proved.{steps_then}
use Rattle.store_sql.proofs.CommitLemmas.{also_none, fits_has}
use Rattle.store_sql.proofs.commit.put_rulings.Goals as goal

pub returns-clause-put : goal.returns-clause-put
returns-clause-put g c clean inside version fits =
    let has = fits_has version c.args.changes.now fits in
    let keys = also_none c.deref.ensures.value has.0 in
    let rulings = also_none c.deref-2.ensures.value has.1 in
    let closings = also_none c.deref-3.ensures.value has.2 in
    let one = c.in_ok-put_all.ensures.put (omega arith) inside version keys in
    let two = c.in_ok-put_all-2.ensures.put (omega arith) one.inside version rulings in
    let three = c.in_ok-put_all-3.ensures.put clean two.inside version closings in
    rw (c.deref.ensures.value, c.deref-2.ensures.value, c.deref-3.ensures.value) at
    (steps_then _ _ _ _ _ (steps_then _ _ _ _ _ one two) three)
