use Rattle.std.proofs.Common.{drop}
use Rattle.serde_json.specs.View.{view}
use Rattle.std.proofs.lemmas.List.{drop_all}
use Rattle.club_core.specs.internal.Answer.{events_of, members_of}
use Rattle.club_lists.specs.Newest.{beyond}
use Rattle.club_lists.specs.Shows.{challenge_data, is_own_refused, most_refused}
use Rattle.club_lists.proofs.LastPicked.{all_newest}
use Rattle.club_lists.proofs.mine.newest_refused.Goals as goal

pub returns : goal.returns
returns c =
    let test = is_own_refused (members_of c.args.members.now) c.args.name.now in
    all_newest view (challenge_data (members_of c.args.members.now) (events_of c.args.events.now)) test
    c.args.challenges.now (drop c.loop-challenge.challenge-index c.args.challenges.now) c.loop-challenge.older
    (beyond most_refused test c.args.challenges.now) c.loop-challenge.values.items _
    (drop_all c.loop-challenge.challenge-index c.args.challenges.now c.loop-challenge-test.false)
    c.loop-challenge.invariant c.reverse.ensures.items
