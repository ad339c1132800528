use Rattle.std.proofs.Common.{◌≡◌, ◌++◌, drop}
use Rattle.club_core.specs.internal.Answer.{events_of}
use Rattle.club_lists.specs.EventRecords.{event_game_ids}
use Rattle.club_lists.specs.internal.SummaryViews.{summaries_of}
use Rattle.club_lists.proofs.event_records.event_game_ids.Given as goal

abbrev pub invariant-loop-game : goal.invariant-loop-game
invariant-loop-game l =
    l.ids.items ++ event_game_ids (events_of l.events) l.name (summaries_of (drop l.game-index l.games))
    ≡ event_game_ids (events_of l.events) l.name (summaries_of l.games)
