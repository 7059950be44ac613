-- A date and time, and when it is valid (document 01, "DateTime"; document 02, M-101).
use Rattle.std.specs.Prelude.{ℕ, ◌≡◌, Bool, true, ◌&&◌, cond, leb}
use Rattle.dates.specs.Calendar.{days_in}
use Rattle.dates.specs.declared.date.Date.{Date}

-- (01: "2000 to 2255") from low to high, both included
unfoldable pub is_between : ℕ → ℕ → ℕ → Bool
is_between low x high = leb low x && leb x high

-- (01) year 2000 to 2255, month 1 to 12; (02, M-101) and the day must exist in that month of that year
unfoldable pub day_valid : Date → Bool
day_valid d = is_between 2000 d.year 2255 && (is_between 1 d.month 12 && is_between 1 d.day (days_in d.year d.month))

-- (01) hour 0 to 23, minute 0 to 59
unfoldable pub time_valid : Date → Bool
time_valid d = is_between 0 d.hour 23 && is_between 0 d.minute 59

-- (01) the weekday 1 to 7; (02, M-101) it is still not compared with the day
unfoldable pub valid : Date → Bool
valid d = day_valid d && (is_between 1 d.weekday 7 && time_valid d)

-- (01) a date by its parts: year, month, day, weekday, hour, minute
abbrev pub date : ℕ → ℕ → ℕ → ℕ → ℕ → ℕ → Date
date y m d w h n = record { year = y; month = m; day = d; weekday = w; hour = h; minute = n }

-- (01) NA in every field: 0xFF, or 0xFFFF in 16 bits
unfoldable pub no_date : Date
no_date = date 0xFFFF 0xFF 0xFF 0xFF 0xFF 0xFF

-- (01) a valid date itself, else the other one: what DateTime stores, with the date stored before, and what it replies, with NA
unfoldable pub valid_or : Date → Date → Date
valid_or d other = cond (valid d) d other

-- (02, M-101) valid or NA: what is stored, whatever a controller sent
pub data ValidOrNA (d : Date) : Type 0 where
  is_valid : valid d ≡ true → ValidOrNA d
  is_na : d ≡ no_date → ValidOrNA d
