-- What document 02's M-101 changes of document 01's rule for a date: dates whose day is past their month's end are valid no more.
use Rattle.std.specs.Prelude.{◌≡◌, Bool, true, not, ◌&&◌, ltb}
use Rattle.dates.specs.Calendar.{days_in}
use Rattle.dates.specs.Date.{is_between, time_valid, valid}
use Rattle.dates.specs.declared.date.Date.{Date}

-- (01) valid by document 01 alone: each part by itself, the day 1 to 31
unfoldable pub was_valid : Date → Bool
was_valid d =
    (is_between 2000 d.year 2255 && (is_between 1 d.month 12 && is_between 1 d.day 31)) && (is_between 1 d.weekday 7 && time_valid d)

-- (02, M-101) the new rule beside the old one
pub record Narrowed (d : Date) : Type 0 where
  -- (02) a date that is valid was valid before
  pub before : valid d ≡ true → was_valid d ≡ true
  -- (02) one that was valid is refused now just where its day is past the end of its month
  pub refused : was_valid d ≡ true → not (valid d) ≡ ltb (days_in d.year d.month) d.day
