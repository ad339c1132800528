use Rattle.std.specs.HashSet.{contains}
use Rattle.club_audit.specs.internal.ChallengeKeys.{same_number}
use Rattle.club_audit.proofs.KeyLemmas.{AreKept, as_it_is, some_key}
use Rattle.club_audit.proofs.challenges.share_number.Given as goal

abbrev pub invariant-loop-row : goal.invariant-loop-row
invariant-loop-row l = AreKept some_key as_it_is l.challenges l.row-index (contains same_number l.keys)
