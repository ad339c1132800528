use Rattle.std.proofs.Common.{◌≡◌, length}
use Rattle.csa.specs.Openings.{are_pieces}
use Rattle.csa.proofs.openings.are_pieces.Given as goal

abbrev pub invariant-loop-rest : goal.invariant-loop-rest
invariant-loop-rest l = are_pieces l.hand l.text ≡ are_pieces l.hand l.rest

abbrev pub decreases-loop-rest : goal.decreases-loop-rest
decreases-loop-rest l = length l.rest
