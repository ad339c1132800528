use Rattle.std.proofs.Common.{◌≡◌, ◌++◌, drop, map}
use Rattle.serde_json.specs.View.{view}
use Rattle.club_core.specs.internal.Answer.{events_of, members_of}
use Rattle.club_lists.specs.Shows.{games_of_event}
use Rattle.club_lists.specs.internal.SummaryViews.{summaries_of}
use Rattle.club_lists.proofs.member_json.games_of_event.Given as goal

abbrev pub invariant-loop-game : goal.invariant-loop-game
invariant-loop-game l =
    map view l.values.items ++ games_of_event (members_of l.members) (events_of l.events) l.name
    (summaries_of (drop l.game-index l.games))
    ≡ games_of_event (members_of l.members) (events_of l.events) l.name (summaries_of l.games)
