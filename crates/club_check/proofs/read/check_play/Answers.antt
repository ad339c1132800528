use Rattle.store_tables.proofs.Proved.{reads_on}
use Rattle.club_check.proofs.read.check_play.Goals as goal

pub returns-in-Ok-check_table-2-clause-reads : goal.returns-in-Ok-check_table-2-clause-reads
returns-in-Ok-check_table-2-clause-reads g c =
    reads_on c.in-Ok.ensures.reads
    (reads_on c.in-Ok-check_table.ensures.reads c.in-Ok-check_table-2.ensures.reads)
