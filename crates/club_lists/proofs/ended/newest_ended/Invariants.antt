use Rattle.std.proofs.Common.{◌≡◌, ◌++◌, drop, map}
use Rattle.serde_json.specs.View.{view}
use Rattle.club_core.specs.internal.Answer.{events_of, members_of}
use Rattle.club_lists.specs.Ended.{ended_data, is_own_ended, most_ended}
use Rattle.club_lists.specs.Newest.{beyond}
use Rattle.club_lists.specs.internal.SummaryViews.{summaries_of}
use Rattle.club_lists.proofs.LastPicked.{last_of}
use Rattle.club_lists.proofs.ended.newest_ended.Given as goal

abbrev pub invariant-loop-game : goal.invariant-loop-game
invariant-loop-game l =
    let test = is_own_ended (members_of l.members) l.name in
    let line = ended_data (members_of l.members) (events_of l.events) in
    map view l.values.items ++ last_of line test l.older (summaries_of (drop l.game-index l.games))
    ≡ last_of line test (beyond most_ended test (summaries_of l.games)) (summaries_of l.games)
