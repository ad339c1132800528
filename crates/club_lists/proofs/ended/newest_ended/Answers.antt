use Rattle.std.proofs.Common.{ap, drop}
use Rattle.serde_json.specs.View.{view}
use Rattle.std.proofs.lemmas.List.{drop_all}
use Rattle.club_core.specs.internal.Answer.{events_of, members_of}
use Rattle.club_lists.specs.Ended.{ended_data, is_own_ended, most_ended}
use Rattle.club_lists.specs.Newest.{beyond}
use Rattle.club_lists.specs.internal.SummaryViews.{summaries_of}
use Rattle.club_lists.proofs.LastPicked.{all_newest}
use Rattle.club_lists.proofs.ended.newest_ended.Goals as goal

pub returns : goal.returns
returns c =
    let test = is_own_ended (members_of c.args.members.now) c.args.name.now in
    all_newest view (ended_data (members_of c.args.members.now) (events_of c.args.events.now)) test
    (summaries_of c.args.games.now) (summaries_of (drop c.loop-game.game-index c.args.games.now)) c.loop-game.older
    (beyond most_ended test (summaries_of c.args.games.now)) c.loop-game.values.items _
    (ap summaries_of (drop_all c.loop-game.game-index c.args.games.now c.loop-game-test.false))
    c.loop-game.invariant c.reverse.ensures.items
