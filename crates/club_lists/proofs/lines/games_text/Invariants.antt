use Rattle.std.proofs.Common.{drop}
use Rattle.std.specs.Prelude.{string_bytes}
use Rattle.club_core.specs.internal.Answer.{members_of, events_of}
use Rattle.club_lists.proofs.GameLines.{Ahead}
use Rattle.club_lists.proofs.lines.games_text.Given as goal

abbrev pub invariant-loop-game : goal.invariant-loop-game
invariant-loop-game l =
    Ahead (members_of l.members) (events_of l.events) l.listing l.moment l.games (drop l.game-index l.games)
    (string_bytes l.text)
