use Rattle.club_audit.proofs.ClosingLemmas.{IsSoFar}
use Rattle.club_audit.proofs.closings.are_closings.Given as goal

abbrev pub invariant-loop-row : goal.invariant-loop-row
invariant-loop-row l = IsSoFar l.count l.closings l.row-index l.before
