use Rattle.std.proofs.Common.{sym, ap, length, Some, None}
use Rattle.std.proofs.lemmas.Result.{IfOk-weaker}
use Rattle.store_tables.proofs.Proved.{read_nothing, read_then}
use Rattle.store_sql.specs.internal.Read.{IsLast}
use Rattle.store_sql.proofs.SelectLemmas.{last_place}
use Rattle.store_sql.proofs.read.count.Goals as goal

pub returns-in-Some-clause-reads : goal.returns-in-Some-clause-reads
returns-in-Some-clause-reads g c = read_then _ _ _ _ c.in-Ok.ensures.reads (read_nothing _ _)

pub returns-in-Some-clause-count : goal.returns-in-Some-clause-count
returns-in-Some-clause-count g c clean =
    IfOk-weaker c.place_in.result _ _ (λ n id h content k places.
    let last : IsLast (content g.T.Select.table.tree) (Some c.in-Some.row) =
    rw c.in-Some.is at c.in-Ok.ensures.last clean content k in
    last_place (content g.T.Select.table.tree) c.in-Some.row n places last id) c.place_in.ensures.place

pub returns-in-None-clause-count : goal.returns-in-None-clause-count
returns-in-None-clause-count g c clean h content k places =
    let last : IsLast (content g.T.Select.table.tree) None = rw c.in-None.is at c.in-Ok.ensures.last clean content k in
    sym (ap length last)
