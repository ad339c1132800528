-- The day number of the first moment's date.
use Rattle.std.proofs.Common.{◌≡◌, ℕ, arith, pos, ◌-ℤ◌}
use Rattle.std.proofs.lemmas.Int.{ints}
use Rattle.jiff_core.specs.Calendar.{days_from_civil, day_count}
use Rattle.jiff.specs.Words.{epoch_day, IsYmd}
use Rattle.jiff_core.specs.declared.civil.date.Date.{Date}

same-days : (n : ℕ) → pos n -ℤ pos n ≡ pos 0
same-days n = omega (arith, ints)

first-day : days_from_civil (pos 1970) 1 1 ≡ pos 0
unfolding days_from_civil
first-day = same-days (day_count (pos 1970) 1 1)

-- 1 January 1970 is day 0
pub epoch_day-1970 : (d : Date) → IsYmd (pos 1970) (pos 1) (pos 1) d → epoch_day d ≡ pos 0
epoch_day-1970 d is =
    let month : d.month ≡ 1 = omega (arith, ints, is.1) in
    let day : d.day ≡ 1 = omega (arith, ints, is.2) in
    rw (is.0, month, day) first-day
