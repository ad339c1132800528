-- A worked example of a field. Member 1 has beaten 4, member 2 has beaten 3, member 3 has beaten 4, and a second game
-- of 1 and 4 is running. A victory counts two points. Three members have two points and one victory each. The points of
-- 2 count more, since its opponent 3 has two points.
use Rattle.std.proofs.Common.{◌≡◌, ℕ, List, [], ◌∷◌, map, true, false, refl}
use Rattle.cross_tables.specs.declared.sums.ScoreTotals.{ScoreTotals}
use Rattle.cross_tables.specs.declared.sums.OpponentScore.{OpponentScore}
use Rattle.cross_tables.specs.declared.field.EventGame.{EventGame}
use Rattle.cross_tables.specs.declared.field.FieldLine.{FieldLine}
use Rattle.cross_tables.specs.Field.{entrants, is_placed_above, line_of}

abbrev lost : ℕ → ℕ → OpponentScore
lost member opponent =
    record {
      member = member;
      opponent = opponent;
      sums = record { points = 0; wins = 0; draws = 0; losses = 1 };
    }

abbrev won : ℕ → ℕ → OpponentScore
won member opponent =
    record {
      member = member;
      opponent = opponent;
      sums = record { points = 2; wins = 1; draws = 0; losses = 0 };
    }

abbrev scores : List OpponentScore
scores = won 1 4 ∷ won 2 3 ∷ lost 3 2 ∷ won 3 4 ∷ lost 4 1 ∷ lost 4 3 ∷ []

abbrev ended : ℕ → ℕ → EventGame
ended first second = record { first = first; second = second; is_over = true }

abbrev games : List EventGame
games =
    ended 1 4 ∷ ended 3 2 ∷ ended 3 4 ∷ (record { first = 4; second = 1; is_over = false }) ∷ []

abbrev line : ℕ → ScoreTotals → ℕ → ℕ → FieldLine
line member sums running sonneborn_berger =
    record {
      standing = record { member = member; sums = sums };
      running = running;
      sonneborn_berger = sonneborn_berger;
    }

abbrev first : FieldLine
first = line 2 (record { points = 2; wins = 1; draws = 0; losses = 0 }) 0 4

abbrev second : FieldLine
second = line 1 (record { points = 2; wins = 1; draws = 0; losses = 0 }) 1 0

abbrev third : FieldLine
third = line 3 (record { points = 2; wins = 1; draws = 0; losses = 1 }) 0 0

abbrev fourth : FieldLine
fourth = line 4 (record { points = 0; wins = 0; draws = 0; losses = 2 }) 1 0

-- member 5 has no game
pub lines : map (line_of scores games) (entrants 5 games) ≡ second ∷ first ∷ third ∷ fourth ∷ []
lines = refl

pub first-above : is_placed_above first second ≡ true
first-above = refl

pub second-above : is_placed_above second third ≡ true
second-above = refl

pub third-above : is_placed_above third fourth ≡ true
third-above = refl
