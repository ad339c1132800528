use Rattle.store_tables.proofs.Proved.{reads_on}
use Rattle.std.proofs.Common.{refl}
use Rattle.club_rows.proofs.Proved.{stores-rows}
use Rattle.club_answers.proofs.CallLemmas.{tells_stored}
use Rattle.club_answers.proofs.pages.page.Goals as goal

pub returns-in_ok-text-in-Some-clause-reads : goal.returns-in_ok-text-in-Some-clause-reads
returns-in_ok-text-in-Some-clause-reads g c =
    reads_on c.in_ok-stored.ensures.reads c.in_ok-text-in-Some.ensures.reads

pub returns-in_ok-text-in-Some-clause-found : goal.returns-in_ok-text-in-Some-clause-found
returns-in_ok-text-in-Some-clause-found g c clean s is_club version k =
    tells_stored s c.args.game c.in_ok-stored.ensures.reads c.page_in.ensures.reads c.in_ok-stored.ensures.found
    c.in-Some.is clean is_club k (λ game at stored kept.
    c.in_ok-text-in-Some.ensures.page clean s c.args.game game is_club at stored version kept)

pub returns-in-None-clause-found : goal.returns-in-None-clause-found
returns-in-None-clause-found g c clean s is_club version k =
    (rw c.in-None.is at (c.in_ok-stored.ensures.found clean s is_club (stores-rows s _ k)), refl)
