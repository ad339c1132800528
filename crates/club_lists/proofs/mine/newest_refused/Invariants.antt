use Rattle.std.proofs.Common.{◌≡◌, ◌++◌, drop, map}
use Rattle.serde_json.specs.View.{view}
use Rattle.club_core.specs.internal.Answer.{events_of, members_of}
use Rattle.club_lists.specs.Newest.{beyond}
use Rattle.club_lists.specs.Shows.{challenge_data, is_own_refused, most_refused}
use Rattle.club_lists.proofs.LastPicked.{last_of}
use Rattle.club_lists.proofs.mine.newest_refused.Given as goal

abbrev pub invariant-loop-challenge : goal.invariant-loop-challenge
invariant-loop-challenge l =
    let test = is_own_refused (members_of l.members) l.name in
    let line = challenge_data (members_of l.members) (events_of l.events) in
    map view l.values.items ++ last_of line test l.older (drop l.challenge-index l.challenges)
    ≡ last_of line test (beyond most_refused test l.challenges) l.challenges
