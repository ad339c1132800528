use Rattle.club_audit.specs.internal.Audit.{IsEventAt}
use Rattle.club_audit.proofs.PlacedLemmas.{Below}
use Rattle.club_audit.proofs.people.are_events.Given as goal

abbrev pub invariant-loop-place : goal.invariant-loop-place
invariant-loop-place l = Below (λ k r. IsEventAt l.events k r) l.place l.events
