use Rattle.std.proofs.Common.{take}
use Rattle.club_check.specs.internal.KnownGames.{AreJudged}
use Rattle.club_check.proofs.known.judged_games.Given as goal

abbrev pub invariant-rows : goal.invariant-rows
invariant-rows l = AreJudged (take l.row-index l.shown) l.games.items
