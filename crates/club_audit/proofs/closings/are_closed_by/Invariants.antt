use Rattle.club_audit.specs.internal.ClosingAudit.{IsClosedBy}
use Rattle.club_audit.proofs.PlacedLemmas.{Below}
use Rattle.club_audit.proofs.closings.are_closed_by.Given as goal

abbrev pub invariant-loop-row : goal.invariant-loop-row
invariant-loop-row l = Below (λ k r. IsClosedBy l.last r) l.row-index l.closings
