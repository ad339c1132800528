use Rattle.std.proofs.Common.{refl}
use Rattle.squares.proofs.shogi.position.SPos.new.Goals as goal

pub invariant_of-result : goal.invariant_of-result
invariant_of-result c = record { kings = c.if-not-has_kings.ensures.0 refl; sets = c.if-not-keeps_sets.ensures.0 refl }

pub returns-clause-some : goal.returns-clause-some
returns-clause-some c =
    (λ _. record { kings = c.if-not-has_kings.ensures.0 refl; sets = c.if-not-keeps_sets.ensures.0 refl }, λ _. refl)
