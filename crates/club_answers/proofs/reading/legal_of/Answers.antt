use Rattle.store_tables.proofs.Proved.{reads_on}
use Rattle.club_rows.proofs.Proved.{stores-rows}
use Rattle.club_answers.proofs.CallLemmas.{tells_stored}
use Rattle.club_answers.proofs.reading.legal_of.Goals as goal

pub returns-in_ok-texts-in-Some-clause-reads : goal.returns-in_ok-texts-in-Some-clause-reads
returns-in_ok-texts-in-Some-clause-reads g c =
    reads_on c.in_ok-stored.ensures.reads c.in_ok-texts-in-Some.ensures.reads

pub returns-in_ok-texts-in-Some-clause-rows : goal.returns-in_ok-texts-in-Some-clause-rows
returns-in_ok-texts-in-Some-clause-rows g c clean s is_club k =
    tells_stored s c.args.game c.in_ok-stored.ensures.reads c.legal_in.ensures.reads c.in_ok-stored.ensures.found
    c.in-Some.is clean is_club k (λ game at stored kept.
    c.in_ok-texts-in-Some.ensures.legal clean s c.args.game game is_club at stored kept)

pub returns-in-None-clause-rows : goal.returns-in-None-clause-rows
returns-in-None-clause-rows g c clean s is_club k =
    rw c.in-None.is at (c.in_ok-stored.ensures.found clean s is_club (stores-rows s _ k))
