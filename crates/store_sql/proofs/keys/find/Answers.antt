use Rattle.store_tables.proofs.Proved.{read_nothing, read_then}
use Rattle.store_sql.proofs.keys.find.Goals as goal

pub returns-in-Ok-clause-reads : goal.returns-in-Ok-clause-reads
returns-in-Ok-clause-reads g c = read_then _ _ _ _ c.in-Ok.ensures.reads (read_nothing _ _)
