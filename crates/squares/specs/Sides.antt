-- The two sides, and the score of a loss.
use Rattle.std.specs.Prelude.{Bool, true, false, ℕ, List, codes}
use Rattle.squares.specs.declared.sides.Side.{Side}
use Rattle.squares.specs.declared.sides.Side.TheVariants.{First, Second}
use Rattle.squares.specs.declared.sides.Score.{Score}
use Rattle.squares.specs.declared.sides.Score.TheVariants.{FirstWins, Draw, SecondWins}

-- The opponent of a side.
abbrev pub other : Side → Side
other First = Second
other Second = First

-- Whether two sides are equal.
abbrev pub same_side : Side → Side → Bool
same_side First First = true
same_side Second Second = true
same_side First Second = false
same_side Second First = false

-- The score if the given side loses.
abbrev pub loses : Side → Score
loses First = SecondWins
loses Second = FirstWins

-- A score as text, First's points first.
abbrev pub score_text : Score → List ℕ
score_text FirstWins = codes "2-0"
score_text Draw = codes "1-1"
score_text SecondWins = codes "0-2"

-- Whether two scores are equal.
abbrev pub same_score : Score → Score → Bool
same_score FirstWins FirstWins = true
same_score Draw Draw = true
same_score SecondWins SecondWins = true
same_score _ _ = false
