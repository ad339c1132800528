use Rattle.std.proofs.Common.{refl}
use Rattle.http_desk.proofs.questions.question_of.Goals as goal

pub returns-in_ok-event-in-EventTable-clause-asks : goal.returns-in_ok-event-in-EventTable-clause-asks
returns-in_ok-event-in-EventTable-clause-asks c =
    rw c.in-EventTable.is (c.in_ok-event-in-EventTable.event, c.in_ok-event-in-EventTable.ensures.ok, refl)

pub returns-in_ok-event-in-EventGames-clause-asks : goal.returns-in_ok-event-in-EventGames-clause-asks
returns-in_ok-event-in-EventGames-clause-asks c =
    rw c.in-EventGames.is (c.in_ok-event-in-EventGames.event, c.in_ok-event-in-EventGames.ensures.ok, refl)

pub returns-in_ok-event-in-EventStandings-clause-asks : goal.returns-in_ok-event-in-EventStandings-clause-asks
returns-in_ok-event-in-EventStandings-clause-asks c =
    rw c.in-EventStandings.is (c.in_ok-event-in-EventStandings.event, c.in_ok-event-in-EventStandings.ensures.ok, refl)

pub returns-in_ok-key-in-MyGames-clause-asks : goal.returns-in_ok-key-in-MyGames-clause-asks
returns-in_ok-key-in-MyGames-clause-asks c =
    rw c.in-MyGames.is (c.in_ok-key-in-MyGames.key, c.in_ok-key-in-MyGames.ensures.ok, refl)

pub returns-in_ok-key-in-MyEndedGames-clause-asks : goal.returns-in_ok-key-in-MyEndedGames-clause-asks
returns-in_ok-key-in-MyEndedGames-clause-asks c =
    rw c.in-MyEndedGames.is (c.in_ok-key-in-MyEndedGames.key, c.in_ok-key-in-MyEndedGames.ensures.ok, refl)

pub returns-in_ok-key-in-MyEvents-clause-asks : goal.returns-in_ok-key-in-MyEvents-clause-asks
returns-in_ok-key-in-MyEvents-clause-asks c =
    rw c.in-MyEvents.is (c.in_ok-key-in-MyEvents.key, c.in_ok-key-in-MyEvents.ensures.ok, refl)
