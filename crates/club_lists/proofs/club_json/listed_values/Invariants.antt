use Rattle.std.proofs.Common.{◌≡◌, ◌++◌, drop, map}
use Rattle.serde_json.specs.View.{view}
use Rattle.club_core.specs.internal.Answer.{events_of, members_of}
use Rattle.club_lists.specs.ClubJson.{game_entry_data}
use Rattle.club_lists.specs.Listing.{listed_games}
use Rattle.club_lists.specs.internal.SummaryViews.{summaries_of}
use Rattle.club_lists.proofs.club_json.listed_values.Given as goal

abbrev pub invariant-loop-game : goal.invariant-loop-game
invariant-loop-game l =
    map view l.values.items ++ map (game_entry_data (members_of l.members) (events_of l.events))
    (listed_games (members_of l.members) (events_of l.events) l.listing l.moment
    (summaries_of (drop l.game-index l.games)))
    ≡ map (game_entry_data (members_of l.members) (events_of l.events))
    (listed_games (members_of l.members) (events_of l.events) l.listing l.moment (summaries_of l.games))
