use Rattle.std.proofs.Common.{◌≡◌, ◌++◌, drop}
use Rattle.club_lists.specs.Standings.{games_in_event}
use Rattle.club_lists.specs.internal.SummaryViews.{summaries_of}
use Rattle.club_lists.proofs.standings.games_in_event.Given as goal

abbrev pub invariant-loop-game : goal.invariant-loop-game
invariant-loop-game l =
    l.found.items ++ games_in_event l.event (summaries_of (drop l.game-index l.games))
    ≡ games_in_event l.event (summaries_of l.games)
