use Rattle.std.proofs.Common.{◌≤◌, length, take}
use Rattle.club_audit.specs.internal.SeenAudit.{AreCounted, found_in, texts_in}
use Rattle.club_audit.proofs.seen_audit.counted.Given as goal

abbrev pub invariant-loop-index : goal.invariant-loop-index
invariant-loop-index l = length l.moves ≤ 600 → AreCounted (texts_in l.start (take l.index l.moves)) (found_in l.counts)
