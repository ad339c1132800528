-- UTC date and time of a timestamp: days of 86,400 seconds on the proleptic Gregorian calendar (ISO 8601).
use Rattle.std.specs.Prelude.{◌≡◌, ℕ, ◌/◌, ◌%◌, pos}
use Rattle.jiff_core.specs.Calendar.{IsCivilDate, days_from_civil}
use Rattle.clocks.specs.declared.dates.CivilTime.{CivilTime}

-- `shown` is the UTC date and time of the timestamp, in Unix seconds.
pub record IsCivil (moment : ℕ) (shown : CivilTime) : Type 0 where
  -- The date exists in the calendar.
  pub date : IsCivilDate shown.year shown.month shown.day
  -- The number of days since 1 January 1970 is the timestamp's number of whole days.
  pub day : days_from_civil shown.year shown.month shown.day ≡ pos (moment / 86_400)
  pub hour : shown.hour ≡ moment / 3600 % 24
  pub minute : shown.minute ≡ moment / 60 % 60
  pub second : shown.second ≡ moment % 60
