use Rattle.std.proofs.Common.{◌≡◌, ◌++◌, drop}
use Rattle.club_core.specs.internal.Answer.{members_of}
use Rattle.club_lists.specs.Shows.{own_game_ids}
use Rattle.club_lists.specs.internal.SummaryViews.{summaries_of}
use Rattle.club_lists.proofs.member_json.own_game_ids.Given as goal

abbrev pub invariant-loop-game : goal.invariant-loop-game
invariant-loop-game l =
    l.ids.items ++ own_game_ids (members_of l.members) l.name (summaries_of (drop l.game-index l.games))
    ≡ own_game_ids (members_of l.members) l.name (summaries_of l.games)
