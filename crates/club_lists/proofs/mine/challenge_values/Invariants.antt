use Rattle.std.proofs.Common.{◌≡◌, ◌++◌, drop, map}
use Rattle.serde_json.specs.View.{view}
use Rattle.club_core.specs.internal.Answer.{events_of, members_of}
use Rattle.club_lists.specs.Shows.{challenge_data}
use Rattle.club_lists.proofs.mine.challenge_values.Given as goal

abbrev pub invariant-loop-challenge : goal.invariant-loop-challenge
invariant-loop-challenge l =
    map view l.values.items
    ++ map (challenge_data (members_of l.members) (events_of l.events)) (drop l.challenge-index l.challenges)
    ≡ map (challenge_data (members_of l.members) (events_of l.events)) l.challenges
