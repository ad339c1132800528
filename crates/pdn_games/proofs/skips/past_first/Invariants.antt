use Rattle.std.proofs.Common.{◌≡◌, drop}
use Rattle.pdn_games.specs.Skips.{past_first}
use Rattle.pdn_games.proofs.skips.past_first.Given as goal

abbrev pub invariant-loop-i : goal.invariant-loop-i
invariant-loop-i l = past_first l.byte l.text ≡ past_first l.byte (drop l.i l.text)
