use Rattle.store_tables.proofs.Proved.{reads_on}
use Rattle.club_rows.proofs.Proved.{stores-rows}
use Rattle.club_answers.proofs.CallLemmas.{between_three}
use Rattle.club_answers.proofs.challenge_lists.read_challenges.Goals as goal

pub returns-clause-reads : goal.returns-clause-reads
returns-clause-reads g c =
    reads_on c.in_ok-members.ensures.reads (reads_on c.in_ok-events.ensures.reads c.in_ok-challenges.ensures.reads)

pub returns-clause-read : goal.returns-clause-read
returns-clause-read g c clean s is_club version k =
    let (first, one, second, two) = between_three s c.in_ok-members.ensures.reads c.in_ok-events.ensures.reads
    c.in_ok-challenges.ensures.reads clean k in
    record {
      members_are = c.in_ok-members.ensures.values first s is_club version k;
      events_are = c.in_ok-events.ensures.values second s is_club version one;
      challenges_are = c.in_ok-challenges.ensures.found clean s (stores-rows s _ two);
    }
