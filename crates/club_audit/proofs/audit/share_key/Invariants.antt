use Rattle.std.specs.Str.{bytes_eq}
use Rattle.std.specs.HashSet.{contains}
use Rattle.club_audit.proofs.AuditLemmas.{key_in}
use Rattle.club_audit.proofs.KeyLemmas.{AreKept, lent}
use Rattle.club_audit.proofs.audit.share_key.Given as goal

abbrev pub invariant-loop-game : goal.invariant-loop-game
invariant-loop-game l = AreKept key_in lent l.games l.game-index (contains (λ x y. bytes_eq x.now y.now) l.keys)
