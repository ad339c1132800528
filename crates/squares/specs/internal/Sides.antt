-- The two sides, and the score of a loss. No promise of the program rests on these definitions.
use Rattle.std.specs.Prelude.{◌≡◌, refl, true}
use Rattle.squares.specs.declared.sides.Side.{Side}
use Rattle.squares.specs.declared.sides.Side.TheVariants.{First, Second}
use Rattle.squares.specs.declared.sides.Score.{Score}
use Rattle.squares.specs.declared.sides.Score.TheVariants.{FirstWins, Draw, SecondWins}
use Rattle.squares.specs.Sides.{same_side, same_score}

pub same_score-itself : (score : Score) → same_score score score ≡ true
same_score-itself FirstWins = refl
same_score-itself Draw = refl
same_score-itself SecondWins = refl

pub same_score-same : (a b : Score) → same_score a b ≡ true → a ≡ b
same_score-same FirstWins FirstWins is = refl
same_score-same Draw Draw is = refl
same_score-same SecondWins SecondWins is = refl
same_score-same FirstWins Draw is = cc
same_score-same FirstWins SecondWins is = cc
same_score-same Draw FirstWins is = cc
same_score-same Draw SecondWins is = cc
same_score-same SecondWins FirstWins is = cc
same_score-same SecondWins Draw is = cc

-- Equality lemmas.

pub same_side-same : (a b : Side) → same_side a b ≡ true → a ≡ b
same_side-same First First e = refl
same_side-same First Second e = cc
same_side-same Second First e = cc
same_side-same Second Second e = refl

pub same_side-itself : (a : Side) → same_side a a ≡ true
same_side-itself First = refl
same_side-itself Second = refl

pub same_side-of : (a b : Side) → a ≡ b → same_side a b ≡ true
same_side-of First First e = refl
same_side-of First Second e = cc
same_side-of Second First e = cc
same_side-of Second Second e = refl
