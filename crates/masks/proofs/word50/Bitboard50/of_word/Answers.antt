use Rattle.std.proofs.Common.{◌≡◌, ◌+◌, ◌∙◌, ap, arith}
use Rattle.std.specs.FinSet as set
use Rattle.masks.specs.Words.{set_of_word}
use Rattle.masks.specs.internal.Words.{contains_at}
use Rattle.masks.proofs.word50.Bitboard50.of_word.Goals as goal

pub returns : goal.returns
returns c = λ n. ap (set.contains (set_of_word 1 50 c.args.bits)) (let e : n + 1 ≡ 1 + n = omega arith in e)
    ∙ contains_at 1 50 c.args.bits c.requires n
