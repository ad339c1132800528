use Rattle.club_audit.specs.internal.Audit.{IsRuleAt}
use Rattle.club_audit.proofs.PlacedLemmas.{Below}
use Rattle.club_audit.proofs.people.are_rules.Given as goal

abbrev pub invariant-loop-place : goal.invariant-loop-place
invariant-loop-place l = Below (λ k r. IsRuleAt k r) l.place l.rules
