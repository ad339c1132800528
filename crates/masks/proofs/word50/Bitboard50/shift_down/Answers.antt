use Rattle.std.proofs.Common.{◌≡◌, ◌+◌, ◌∙◌, ap, arith}
use Rattle.std.specs.FinSet as set
use Rattle.masks.proofs.ShiftLemmas.{lowered_at, lowered_small}
use Rattle.masks.proofs.word50.Bitboard50.shift_down.Goals as goal

pub invariant_of-result : goal.invariant_of-result
invariant_of-result c = lowered_small 1 50 c.self.inside.bits c.from.result c.self.invariant

pub returns : goal.returns
returns c = λ q from.
    lowered_at 1 50 c.self.inside.bits c.from.result c.self.invariant q from
    ∙ ap (λ s. set.contains s (q + c.from.result)) c.self.view_is
    ∙ ap (λ k. set.contains c.args.self (q + k)) (let e : c.from.result ≡ c.args.by = omega arith in e)
