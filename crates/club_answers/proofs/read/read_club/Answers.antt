use Rattle.store_tables.proofs.Proved.{reads_on}
use Rattle.club_rows.proofs.Proved.{stores-rows}
use Rattle.club_answers.proofs.CallLemmas.{between, between_three}
use Rattle.club_answers.proofs.read.read_club.Goals as goal

pub returns-clause-reads : goal.returns-clause-reads
returns-clause-reads g c =
    reads_on c.in_ok-last.ensures.reads
    (reads_on c.in_ok-members.ensures.reads (reads_on c.in_ok-events.ensures.reads c.in_ok-games.ensures.reads))

pub returns-clause-read : goal.returns-clause-read
returns-clause-read g c clean s is_club version k =
    let last = c.in_ok-last.ensures.reads in
    let members = c.in_ok-members.ensures.reads in
    let events = c.in_ok-events.ensures.reads in
    let (third, three) = between s (reads_on last (reads_on members events)) c.games_of.ensures.reads clean k in
    let (first, one, second, two) = between_three s last members events third k in
    record {
      moment_is = cc (c.later.ensures, c.in_ok-last.ensures.last first s (stores-rows s _ k));
      members_are = c.in_ok-members.ensures.values second s is_club version one;
      events_are = c.in_ok-events.ensures.values third s is_club version two;
      games_are = c.in_ok-games.ensures.told clean s is_club (stores-rows s _ three);
    }
