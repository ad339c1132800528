use Rattle.store_tables.proofs.Proved.{reads_on}
use Rattle.club_check.proofs.read.check_tables.Goals as goal

pub returns-in-Ok-check_play-clause-reads : goal.returns-in-Ok-check_play-clause-reads
returns-in-Ok-check_play-clause-reads g c =
    reads_on c.in-Ok.ensures.reads c.in-Ok-check_play.ensures.reads
