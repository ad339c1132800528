use Rattle.std.proofs.Common.{◌≡◌, drop}
use Rattle.pdn_games.specs.declared.order.GameStage.TheVariants as part
use Rattle.pdn_games.specs.Order.{first_stray}
use Rattle.pdn_games.specs.internal.TokenValues.{all_placed}
use Rattle.pdn_games.proofs.order.first_stray.Given as goal

abbrev pub invariant-loop-i : goal.invariant-loop-i
invariant-loop-i l = first_stray part.Tags (all_placed l.placed) ≡ first_stray l.part (all_placed (drop l.i l.placed))
