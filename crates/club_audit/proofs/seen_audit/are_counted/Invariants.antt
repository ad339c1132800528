use Rattle.club_audit.specs.internal.SeenAudit.{found_in}
use Rattle.club_audit.proofs.SeenCounts.{Matched}
use Rattle.club_audit.proofs.seen_audit.are_counted.Given as goal

abbrev pub invariant-loop-row : goal.invariant-loop-row
invariant-loop-row l = Matched l.game (found_in l.fn.counts) l.rows l.row-index (found_in l.left)
