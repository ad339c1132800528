-- The sides take turns.
use Rattle.std.proofs.Common.{◌≡◌, ℕ, zero, suc, ◌%◌, refl, arith}
use Rattle.squares.specs.declared.sides.Side.{Side}
use Rattle.squares.specs.declared.sides.Side.TheVariants.{First, Second}
use Rattle.squares.specs.Sides.{other}
use Rattle.club_core.specs.Game.{turns}

pub other-other : (s : Side) → other (other s) ≡ s
other-other First = refl
other-other Second = refl

-- after an even number of plies the first side moves again
pub turns-even : (n : ℕ) (s : Side) → n % 2 ≡ 0 → turns n s ≡ s
turns-even zero s even = refl
turns-even (suc zero) s even = cc
turns-even (suc (suc n)) s even = rw other-other (turns-even n s (omega arith))

pub turns-odd : (n : ℕ) (s : Side) → n % 2 ≡ 1 → turns n s ≡ other s
turns-odd zero s odd = cc
turns-odd (suc zero) s odd = refl
turns-odd (suc (suc n)) s odd = rw other-other (turns-odd n s (omega arith))

pub turns-other : (n : ℕ) (s : Side) → turns n (other s) ≡ other (turns n s)
turns-other zero s = refl
turns-other (suc n) s = turns-other n (other s)
