use Rattle.std.proofs.Common.{◌≡◌, ◌++◌, drop}
use Rattle.std.specs.Prelude.{filter}
use Rattle.club_core.specs.internal.Answer.{members_of}
use Rattle.club_lists.specs.Newest.{beyond}
use Rattle.club_lists.specs.Shows.{is_own_challenge, most_own}
use Rattle.club_lists.proofs.listed_challenges.own_listed.Given as goal

abbrev pub invariant-loop-challenge : goal.invariant-loop-challenge
invariant-loop-challenge l =
    let test = is_own_challenge (members_of l.members) l.name in
    l.listed.items ++ drop l.older (filter test (drop l.challenge-index l.challenges))
    ≡ drop (beyond most_own test l.challenges) (filter test l.challenges)
