use Rattle.store_tables.proofs.Proved.{read_nothing, read_then}
use Rattle.store_sql.proofs.SelectLemmas.{failed_read}
use Rattle.store_sql.proofs.read.check_rowids.Goals as goal

pub returns-in-Err-clause-reads : goal.returns-in-Err-clause-reads
returns-in-Err-clause-reads g c = failed_read c.failed.result _ _ c.failed.ensures.parse_rows c.in-Err.ensures.reads

pub returns-clause-reads : goal.returns-clause-reads
returns-clause-reads g c = read_then _ _ _ _ c.in-Ok.ensures.reads (read_nothing _ _)
