use Rattle.std.proofs.Common.{◌≡◌, drop}
use Rattle.csa.specs.declared.order.RecordStage.TheVariants as place
use Rattle.csa.specs.Order.{first_stray}
use Rattle.csa.proofs.order.first_stray.Given as goal

abbrev pub invariant-loop-each : goal.invariant-loop-each
invariant-loop-each l = first_stray place.Start l.placed ≡ first_stray l.place (drop l.each-index l.placed)
