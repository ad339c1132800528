-- The ends outside the rules: their names as they are printed and stored, and their scores.
use Rattle.std.specs.Prelude.{List, [], ◌∷◌, ℕ, Bool, codes}
use Rattle.std.specs.List.{list_any}
use Rattle.std.specs.Str.{bytes_eq}
use Rattle.squares.specs.declared.sides.Side.{Side}
use Rattle.squares.specs.declared.sides.Score.{Score}
use Rattle.squares.specs.declared.sides.Score.TheVariants.{Draw}
use Rattle.squares.specs.Sides.{other, loses}
use Rattle.club_requests.specs.declared.outside_end.OutsideEnd.{OutsideEnd}
use Rattle.club_requests.specs.declared.outside_end.OutsideEnd.TheVariants.{Resigned, Agreed, Time, Declared, Recorded}

-- the name of an end outside the rules
abbrev pub outside_text : OutsideEnd → List ℕ
outside_text Resigned = codes "Resigned"
outside_text Agreed = codes "Agreed"
outside_text Time = codes "Time"
outside_text Declared = codes "Declared"
outside_text (Recorded score) = codes "Recorded"

-- the score of an end outside the rules, given the side to move
abbrev pub outside_score : OutsideEnd → Side → Score
outside_score Resigned turn = loses turn
outside_score Time turn = loses turn
outside_score Agreed turn = Draw
outside_score Declared turn = loses (other turn)
outside_score (Recorded score) turn = score

-- the ends outside the rules; their names do not depend on the score
abbrev pub outside_ends : List OutsideEnd
outside_ends = Resigned ∷ Agreed ∷ Time ∷ Declared ∷ Recorded Draw ∷ []

-- the name is that of an end outside the rules
abbrev pub is_outside : List ℕ → Bool
is_outside name = list_any (λ end. bytes_eq (outside_text end) name) outside_ends
