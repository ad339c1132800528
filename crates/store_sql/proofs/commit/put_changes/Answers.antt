use Rattle.std.proofs.Common.{arith}
use Rattle.store_tables.proofs.Proved.{steps_then}
use Rattle.store_sql.proofs.CommitLemmas.{served_of}
use Rattle.store_sql.proofs.commit.put_changes.Goals as goal

pub returns-clause-put : goal.returns-clause-put
returns-clause-put g c clean inside fits =
    let version = c.args.version in
    let served = served_of version c.args.changes.now fits in
    let one = c.in_ok-put_people.ensures.put (omega arith) inside version served in
    let two = c.in_ok-put_play.ensures.put (omega arith) one.inside version served in
    let three = c.in_ok-put_counts.ensures.put (omega arith) two.inside version served in
    let four = c.in_ok-put_rulings.ensures.put (omega arith) three.inside version fits in
    let five = c.in_ok-put_meta.ensures.put clean four.inside in
    steps_then _ _ _ _ _ (steps_then _ _ _ _ _ (steps_then _ _ _ _ _ (steps_then _ _ _ _ _ one two) three) four) five
