use Rattle.std.proofs.Common.{◌≡◌, [], drop}
use Rattle.club_core.specs.internal.Answer.{members_of}
use Rattle.club_lists.specs.Shows.{received_after}
use Rattle.club_lists.proofs.listed_challenges.received_listed.Given as goal

abbrev pub invariant-loop-challenge : goal.invariant-loop-challenge
invariant-loop-challenge l =
    received_after (members_of l.members) l.name l.listed.items (drop l.challenge-index l.challenges)
    ≡ received_after (members_of l.members) l.name [] l.challenges
