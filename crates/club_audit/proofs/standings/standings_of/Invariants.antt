use Rattle.std.proofs.Common.{◌<◌, ◌^◌, List, length}
use Rattle.club_rows.specs.Scores.{Meeting}
use Rattle.club_audit.specs.internal.Standings.{AreTold}
use Rattle.club_audit.proofs.StandingLemmas.{AreCounted}
use Rattle.club_audit.proofs.standings.standings_of.Given as goal

abbrev pub invariant-loop-game : goal.invariant-loop-game
invariant-loop-game l = (ms : List Meeting) → AreTold l.games ms → length ms < 2 ^ 61
    → AreCounted l.standings l.games l.game-index ms
