use Rattle.std.proofs.Common.{◌≡◌, length}
use Rattle.csa.specs.Openings.{are_cells}
use Rattle.csa.proofs.openings.are_cells.Given as goal

abbrev pub invariant-loop-rest : goal.invariant-loop-rest
invariant-loop-rest l = are_cells l.text ≡ are_cells l.rest

abbrev pub decreases-loop-rest : goal.decreases-loop-rest
decreases-loop-rest l = length l.rest
