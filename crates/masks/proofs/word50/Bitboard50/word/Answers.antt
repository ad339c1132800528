use Rattle.std.proofs.Common.{◌+◌, ◌≡◌, ◌∙◌, sym, ap, arith}
use Rattle.std.specs.FinSet as set
use Rattle.masks.specs.internal.Words.{contains_at}
use Rattle.masks.proofs.word50.Bitboard50.word.Goals as goal

pub returns : goal.returns
returns c n =
    let is : 1 + n ≡ (n + 1) = omega arith in
    sym (contains_at 1 50 c.self.inside.bits c.self.invariant n) ∙ ap (λ s. set.contains s (1 + n)) c.self.view_is
    ∙ ap (λ q. set.contains c.args.self q) is
