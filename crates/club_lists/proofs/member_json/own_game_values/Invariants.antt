use Rattle.std.proofs.Common.{◌≡◌, ◌++◌, drop, map}
use Rattle.serde_json.specs.View.{view}
use Rattle.club_core.specs.internal.Answer.{events_of, members_of}
use Rattle.club_lists.specs.Shows.{own_game_data}
use Rattle.club_lists.specs.internal.SummaryViews.{running_views}
use Rattle.club_lists.proofs.member_json.own_game_values.Given as goal

abbrev pub invariant-loop-game : goal.invariant-loop-game
invariant-loop-game l =
    map view l.values.items
    ++ map (own_game_data (members_of l.members) (events_of l.events)) (running_views (drop l.game-index l.games))
    ≡ map (own_game_data (members_of l.members) (events_of l.events)) (running_views l.games)
