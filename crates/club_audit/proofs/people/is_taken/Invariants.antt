use Rattle.club_audit.specs.internal.Audit.{IsOtherMember}
use Rattle.club_audit.proofs.PlacedLemmas.{Below}
use Rattle.club_audit.proofs.people.is_taken.Given as goal

abbrev pub invariant-loop-other : goal.invariant-loop-other
invariant-loop-other l = Below (λ k r. IsOtherMember l.member r) l.other-index l.members
