use Rattle.std.proofs.Common.{◌+◌, ◌≡◌, ◌∙◌, sym, ap, arith}
use Rattle.std.specs.FinSet as set
use Rattle.masks.specs.internal.Words.{contains_at}
use Rattle.masks.proofs.word81.Bitboard81.word.Goals as goal

pub returns : goal.returns
returns c n =
    let is : 0 + n ≡ n = omega arith in
    sym (contains_at 0 81 c.self.inside.bits c.self.invariant n) ∙ ap (λ s. set.contains s (0 + n)) c.self.view_is
    ∙ ap (λ q. set.contains c.args.self q) is
