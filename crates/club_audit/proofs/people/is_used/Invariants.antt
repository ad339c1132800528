use Rattle.club_audit.specs.internal.Audit.{IsOtherEvent}
use Rattle.club_audit.proofs.PlacedLemmas.{Below}
use Rattle.club_audit.proofs.people.is_used.Given as goal

abbrev pub invariant-loop-other : goal.invariant-loop-other
invariant-loop-other l = Below (λ k r. IsOtherEvent l.event r) l.other-index l.events
