use Rattle.club_rows.specs.internal.Pairs.{sums_at}
use Rattle.club_audit.proofs.StandingLemmas.{IsLeft}
use Rattle.club_audit.proofs.standings.are_those.Given as goal

abbrev pub invariant-loop-row : goal.invariant-loop-row
invariant-loop-row l = IsLeft (λ p. sums_at l.fn.standings p) (λ p. sums_at l.left p) l.rows l.row-index
