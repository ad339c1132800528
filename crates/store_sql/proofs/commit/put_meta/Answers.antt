use Rattle.std.proofs.Common.{refl}
use Rattle.store_sql.proofs.CommitLemmas.{has_meta, meta_stays, meta_steps, on_ok}
use Rattle.store_sql.proofs.commit.put_meta.Goals as goal

pub returns-in-Some-clause-put : goal.returns-in-Some-clause-put
returns-in-Some-clause-put g c clean inside =
    let version = c.args.version in
    on_ok c.put.result
    (λ steps. meta_steps version _ _ c.args.changes.now.last c.meta_row.result c.in-Some.meta c.meta_row.ensures
    c.in-Some.is (steps version (has_meta version)))
    (c.put.ensures.put clean inside)

pub returns-in-None-clause-put : goal.returns-in-None-clause-put
returns-in-None-clause-put g c clean inside =
    meta_stays c.args.version _ _ c.args.changes.now.last c.meta_row.result c.meta_row.ensures c.in-None.is
    (record { holds = λ them is takes content k. k; committed = refl; inside = inside })
