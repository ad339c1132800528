use Rattle.store_tables.proofs.Proved.{read_nothing}
use Rattle.store_sql.proofs.rows.read_rulings_in.Goals as goal

pub returns-in-V1-clause-reads : goal.returns-in-V1-clause-reads
returns-in-V1-clause-reads g c = read_nothing _ _

pub returns-in-V2-clause-reads : goal.returns-in-V2-clause-reads
returns-in-V2-clause-reads g c = read_nothing _ _
