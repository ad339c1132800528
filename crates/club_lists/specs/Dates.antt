-- Timestamps as text.
use Rattle.std.specs.Prelude.{◌≡◌, ◌≤◌, ◌<◌, ◌⊎◌, ℕ, ◌/◌, ◌%◌, ◌+◌, List, [], ◌∷◌, ◌++◌, codes, unsigned_abs}
use Rattle.clocks.specs.Civil.{IsCivil}
use Rattle.clocks.specs.declared.dates.CivilTime.{CivilTime}
use Rattle.club_requests.specs.Limits.{last_moment}

-- the last two digits of a number
abbrev pub two_digits : ℕ → List ℕ
two_digits n = (48 + n / 10 % 10) ∷ (48 + n % 10) ∷ []

-- `YYYY-MM-DDTHH:MM:SSZ`
abbrev pub date_text : CivilTime → List ℕ
date_text at =
    two_digits (unsigned_abs at.year / 100)
    ++ (two_digits (unsigned_abs at.year)
    ++ (45 ∷ two_digits at.month ++ (45 ∷ two_digits at.day
    ++ (84 ∷ two_digits at.hour ++ (58 ∷ two_digits at.minute ++ (58 ∷ two_digits at.second ++ 90 ∷ []))))))

-- date and time of a timestamp in UTC
pub record IsDate (moment : ℕ) (text : List ℕ) : Type 0 where
  pub at : CivilTime
  pub shown : IsCivil moment at
  pub is : text ≡ date_text at

-- the same for a second that may be beyond the last timestamp, which is written as `never`
abbrev pub IsUntil : ℕ → List ℕ → Type 0
IsUntil second text = ((second ≤ last_moment) × IsDate second text) ⊎ ((last_moment < second) × (text ≡ codes "never"))
