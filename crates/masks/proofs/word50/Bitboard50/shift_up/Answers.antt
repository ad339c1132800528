use Rattle.std.proofs.Common.{◌≡◌, ◌-◌, ◌∙◌, ap, refl, arith}
use Rattle.std.specs.FinSet as set
use Rattle.masks.proofs.ShiftLemmas.{raised_at, raised_left}
use Rattle.masks.proofs.word50.Bitboard50.shift_up.Goals as goal

pub returns-clause-moved : goal.returns-clause-moved
returns-clause-moved c = λ q above on.
    raised_at 1 50 c.self.inside.bits c.from.result c.self.invariant 14 _ refl q (omega arith) (omega arith)
    ∙ ap (λ s. set.contains s (q - c.from.result)) c.self.view_is
    ∙ ap (λ k. set.contains c.args.self (q - k)) (let e : c.from.result ≡ c.args.by = omega arith in e)

pub returns-clause-left : goal.returns-clause-left
returns-clause-left c = λ q low. raised_left 1 50 c.self.inside.bits c.from.result c.self.invariant 14 _ refl q
    (omega arith) (omega arith)
