-- The arbiter's rulings on a game: more time for a side, a score, or that the game does not count.
use Rattle.std.specs.Prelude.{◌≡◌, ℕ, ◌<◌, ◌^◌, ◌==◌, ◌&&◌, List, [], ◌∷◌, ◌++◌, Option, Some, None, Bool, true, false}
use Rattle.std.specs.Prelude.{codes, decimal}
use Rattle.std.specs.List.{list_any}
use Rattle.std.specs.Str.{bytes_eq}
use Rattle.std.specs.Str.Parse.{IsNumeral, digits_value, without_leading_plus}
use Rattle.squares.specs.declared.sides.Side.{Side}
use Rattle.squares.specs.declared.sides.Side.TheVariants.{First, Second}
use Rattle.squares.specs.declared.sides.Score.{Score}
use Rattle.squares.specs.declared.sides.Score.TheVariants.{Draw}
use Rattle.squares.specs.Sides.{same_side, same_score, score_text}
use Rattle.club_requests.specs.declared.rulings.Ruling.{Ruling}
use Rattle.club_requests.specs.declared.rulings.Ruling.TheVariants.{Grant, Award, Void}
use Rattle.club_requests.specs.declared.rulings.Verdict.{Verdict}
use Rattle.club_requests.specs.declared.rulings.Verdict.TheVariants.{Awarded, Voided}
use Rattle.club_requests.specs.Limits.{is_grant_time}

-- equality of rulings
abbrev pub same_ruling : Ruling → Ruling → Bool
same_ruling (Grant side seconds) (Grant another more) = same_side side another && seconds == more
same_ruling (Award score) (Award another) = same_score score another
same_ruling Void Void = true
same_ruling _ _ = false

-- the ruling grants time
abbrev pub is_grant : Ruling → Bool
is_grant (Grant side seconds) = true
is_grant (Award score) = false
is_grant Void = false

-- the time that the ruling grants, if any, is within its limits
abbrev pub has_grant_time : Ruling → Bool
has_grant_time (Grant side seconds) = is_grant_time seconds
has_grant_time (Award score) = true
has_grant_time Void = true

-- the end that the ruling gives to the game, if any
abbrev pub verdict_in : Ruling → Option Verdict
verdict_in (Grant side seconds) = None
verdict_in (Award score) = Some (Awarded score)
verdict_in Void = Some Voided

-- the name of a verdict, as it is printed and stored
abbrev pub verdict_text : Verdict → List ℕ
verdict_text (Awarded score) = codes "Awarded"
verdict_text Voided = codes "Void"

-- the verdicts; their names do not depend on the score
abbrev pub verdicts : List Verdict
verdicts = Awarded Draw ∷ Voided ∷ []

-- the name is that of a verdict
abbrev pub is_verdict : List ℕ → Bool
is_verdict name = list_any (λ verdict. bytes_eq (verdict_text verdict) name) verdicts

-- the score of a verdict; a void game has none
abbrev pub verdict_score : Verdict → Option Score
verdict_score (Awarded score) = Some score
verdict_score Voided = None

-- the printed form of a side
abbrev pub side_text : Side → List ℕ
side_text First = codes "first"
side_text Second = codes "second"

-- the printed form of a ruling
abbrev pub ruling_text : Ruling → List ℕ
ruling_text (Grant side seconds) = codes "grant " ++ side_text side ++ codes " " ++ decimal seconds
ruling_text (Award score) = codes "award " ++ score_text score
ruling_text Void = codes "void"

-- decimal digits, optionally after a plus sign, of this number, which fits 64 bits
abbrev pub IsNumberIn : List ℕ → ℕ → Type 0
IsNumberIn text n = IsNumeral 10 (without_leading_plus text) × (digits_value 10 (without_leading_plus text) < 2 ^ 64)
    × (n ≡ digits_value 10 (without_leading_plus text))

-- the words of a ruling: `grant first SECONDS`, `grant second SECONDS`, `award SCORE` or `void`
abbrev pub IsRulingIn : List (List ℕ) → Ruling → Type 0
IsRulingIn words (Grant side seconds) = (amount : List ℕ)
    × (words ≡ codes "grant" ∷ side_text side ∷ amount ∷ []) × IsNumberIn amount seconds
IsRulingIn words (Award score) = words ≡ codes "award" ∷ score_text score ∷ []
IsRulingIn words Void = words ≡ codes "void" ∷ []
