use Rattle.club_audit.specs.internal.Audit.{IsMemberAt}
use Rattle.club_audit.proofs.PlacedLemmas.{Below}
use Rattle.club_audit.proofs.people.are_members.Given as goal

abbrev pub invariant-loop-place : goal.invariant-loop-place
invariant-loop-place l = Below (λ k r. IsMemberAt l.members k r) l.place l.members
