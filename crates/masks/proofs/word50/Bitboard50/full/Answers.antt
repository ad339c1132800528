use Rattle.std.proofs.Common.{◌≡◌, ℕ, ◌+◌, ◌-◌, ◌<◌, true, nat_eq, ap, ◌∙◌, arith}
use Rattle.std.specs.FinSet as set
use Rattle.std.proofs.lemmas.Nat.Bits.{bit_at_mask_inside}
use Rattle.masks.specs.Words.{has_bit, set_of_word}
use Rattle.masks.specs.internal.Words.{contains_at}
use Rattle.masks.proofs.word50.Bitboard50.full.Goals as goal

all_bits : (k : ℕ) → k < 50 → has_bit 1125899906842623 k ≡ true
unfolding has_bit
all_bits k h = ap (λ b. nat_eq b 1) (bit_at_mask_inside 0 50 k (omega arith) h)

pub returns : goal.returns
returns c = λ q low high.
    ap (set.contains (set_of_word 1 50 1125899906842623)) (let e : q ≡ 1 + (q - 1) = omega arith in e)
    ∙ contains_at 1 50 1125899906842623 (omega arith) (q - 1) ∙ all_bits (q - 1) (omega arith)
