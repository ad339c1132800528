use Rattle.club_audit.specs.internal.ChallengeAudit.{IsChallengeOf}
use Rattle.club_audit.proofs.PlacedLemmas.{Below}
use Rattle.club_audit.proofs.challenges.are_each_challenges.Given as goal

abbrev pub invariant-loop-row : goal.invariant-loop-row
invariant-loop-row l = Below (λ k r. IsChallengeOf l.rows r) l.row-index l.challenges
