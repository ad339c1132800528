use Rattle.club_audit.proofs.LaterKeys.{IsSoFar}
use Rattle.club_audit.proofs.keys.are_numbered.Given as goal

abbrev pub invariant-loop-row : goal.invariant-loop-row
invariant-loop-row l = IsSoFar l.count l.keys l.row-index l.before
