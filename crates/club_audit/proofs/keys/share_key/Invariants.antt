use Rattle.std.specs.Prelude.{◌+◌, length}
use Rattle.std.specs.Str.{bytes_eq}
use Rattle.std.specs.HashSet.{contains}
use Rattle.club_audit.specs.internal.KeyAudit.{all_keys}
use Rattle.club_audit.proofs.KeyLemmas.{AreKept, lent}
use Rattle.club_audit.proofs.LaterKeys.{some_text}
use Rattle.club_audit.proofs.keys.share_key.Given as goal

abbrev pub invariant-loop-member : goal.invariant-loop-member
invariant-loop-member l =
    AreKept some_text lent (all_keys l.members l.keys) l.member-index (contains (λ x y. bytes_eq x.now y.now) l.known)

abbrev pub invariant-loop-row : goal.invariant-loop-row
invariant-loop-row l =
    AreKept some_text lent (all_keys l.members l.keys) (length l.members + l.row-index)
    (contains (λ x y. bytes_eq x.now y.now) l.known)
