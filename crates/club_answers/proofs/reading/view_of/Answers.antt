use Rattle.store_tables.proofs.Proved.{reads_on}
use Rattle.club_rows.proofs.Proved.{stores-rows}
use Rattle.club_answers.proofs.CallLemmas.{tells_stored}
use Rattle.club_answers.proofs.reading.view_of.Goals as goal

pub returns-in_ok-viewed-in-Some-clause-reads : goal.returns-in_ok-viewed-in-Some-clause-reads
returns-in_ok-viewed-in-Some-clause-reads g c =
    reads_on c.in_ok-found.ensures.reads c.in_ok-viewed-in-Some.ensures.reads

pub returns-in_ok-viewed-in-Some-clause-viewed : goal.returns-in_ok-viewed-in-Some-clause-viewed
returns-in_ok-viewed-in-Some-clause-viewed g c clean s is_club k =
    tells_stored s c.args.game c.in_ok-found.ensures.reads c.viewed.ensures.reads c.in_ok-found.ensures.found
    c.in-Some.is clean is_club k (λ game at stored kept.
    c.in_ok-viewed-in-Some.ensures.viewed clean s c.args.game game is_club at stored kept)

pub returns-in-None-clause-viewed : goal.returns-in-None-clause-viewed
returns-in-None-clause-viewed g c clean s is_club k =
    rw c.in-None.is at (c.in_ok-found.ensures.found clean s is_club (stores-rows s _ k))
