use Rattle.std.proofs.Common.{rules}
use Rattle.store_tables.proofs.IdLemmas.{ids_that_rise, sorted_rise}
use Rattle.store_tables.proofs.ids.check_ids.Goals as goal

pub returns-then-rise-clause-apart : goal.returns-then-rise-clause-apart
returns-then-rise-clause-apart c = ids_that_rise c.args.rows.now c.in_ok-ids.ids.items c.in_ok-ids.ensures.shows
    (search rules)

pub returns-clause-mistyped : goal.returns-clause-mistyped
returns-clause-mistyped c _ sorted are =
    let up = sorted_rise c.args.rows.now c.in_ok-ids.ids.items c.in_ok-ids.ensures.shows sorted are in
    search rules
