use Rattle.std.proofs.Common.{◌≡◌, drop}
use Rattle.pdn_games.specs.Contents.{result_in}
use Rattle.pdn_games.specs.internal.TokenValues.{all_placed}
use Rattle.pdn_games.proofs.contents.result_in.Given as goal

abbrev pub invariant-loop-i : goal.invariant-loop-i
invariant-loop-i l = result_in (all_placed l.placed) ≡ result_in (all_placed (drop l.i l.placed))
