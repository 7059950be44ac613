-- Dates: what document 02's M-101 changed of the rule, and a date that is valid or NA. Assumes nothing.
use Prim.Native.Nat.{ℕ, ◌≤◌}
use native.Mathlib.Omega.{arith}
use mathlib.Core.Path.{◌≡◌, refl, sym}
use mathlib.Core.Bool.{Bool, true, false, not, ◌&&◌, cond, and-true}
use lib.Dec.{leb, ltb}
use borrow.Author.Tests.{leb-true, leb-false, le-leb, lt-ltb, le-ltb}
use Rattle.lists.proofs.Filters.{and_left, and_right}
use Rattle.dates.specs.Calendar.{days_in}
use Rattle.dates.specs.Date.{is_between, day_valid, time_valid, valid, no_date, valid_or, ValidOrNA}
use Rattle.dates.specs.Date.ValidOrNA.{is_valid, is_na}
use Rattle.dates.specs.Changed.{was_valid, Narrowed}
use Rattle.dates.specs.declared.date.Date.{Date}
use Rattle.dates.proofs.Months.{days_few}

-- ---- the rule, new and old

-- a day that is in a month is at most 31
between_wider : (x n : ℕ) → n ≤ 31 → is_between 1 x n ≡ true → is_between 1 x 31 ≡ true
unfolding is_between
between_wider x n h e =
    let low = and_left (leb 1 x) (leb x n) e in
    let high = leb-true x n (and_right (leb 1 x) (leb x n) e) in
    rw (low, le-leb x 31 (omega (arith, high, h)))

-- a day from 1 to 31 is out of a month just where it is past its end
between_cut : (x n : ℕ) → is_between 1 x 31 ≡ true → not (is_between 1 x n) ≡ ltb n x
unfolding is_between
between_cut x n e = rw (and_left (leb 1 x) (leb x 31) e) (past (leb x n) refl)
  where
    past : (t : Bool) → leb x n ≡ t → not t ≡ ltb n x
    past true p = sym (le-ltb n x (leb-true x n p))
    past false p = sym (lt-ltb n x (leb-false x n p))

-- the parts of the rule, where it holds: the year, the month, the day, and the rest
module _ (y m day w : Bool) (e : ((y && (m && day)) && w) ≡ true) where
  day_part : (y && (m && day)) ≡ true
  day_part = and_left (y && (m && day)) w e

  year_true : y ≡ true
  year_true = and_left y (m && day) day_part

  month_true : m ≡ true
  month_true = and_left m day (and_right y (m && day) day_part)

  day_true : day ≡ true
  day_true = and_right m day (and_right y (m && day) day_part)

  rest_true : w ≡ true
  rest_true = and_right (y && (m && day)) w e

pub narrowed : (d : Date) → Narrowed d
unfolding was_valid valid day_valid
narrowed d =
    let last = days_in d.year d.month in
    let y = is_between 2000 d.year 2255 in
    let m = is_between 1 d.month 12 in
    let w = is_between 1 d.weekday 7 && time_valid d in
    let now = is_between 1 d.day last in
    let old = is_between 1 d.day 31 in
    record {
      before =
          λ e.
          let wider = between_wider d.day last (days_few d.year d.month) (day_true y m now w e) in
          rw (year_true y m now w e, month_true y m now w e, wider) (rest_true y m now w e);
      refused =
          λ e.
          let cut = between_cut d.day last (day_true y m old w e) in
          rw (year_true y m old w e, month_true y m old w e, rest_true y m old w e, and-true now) cut;
    }

-- ---- valid or NA

-- NA is not valid, so that the two are never both
pub na_not_valid : valid no_date ≡ false
unfolding valid day_valid is_between no_date
na_not_valid = refl

-- a date that is valid or NA stays where the other one is NA
pub valid_or_same : (d : Date) → ValidOrNA d → valid_or d no_date ≡ d
unfolding valid_or
valid_or_same d (is_valid v) = rw v
valid_or_same d (is_na e) = rw (e, na_not_valid)

-- a date that is not valid leaves the other one
pub valid_or_other : (d other : Date) → valid d ≡ false → valid_or d other ≡ other
unfolding valid_or
valid_or_other d other v = rw v

-- one that is neither valid nor NA becomes NA
pub valid_or_cleared : (d : Date) → (ValidOrNA d → ⊥) → valid_or d no_date ≡ no_date
valid_or_cleared d n = go (valid d) refl
  where
    go : (t : Bool) → valid d ≡ t → valid_or d no_date ≡ no_date
    go true v = absurd (n (is_valid v))
    go false v = valid_or_other d no_date v

-- what may be stored, beside what is stored
pub valid_or_right : (d other : Date) → ValidOrNA other → ValidOrNA (valid_or d other)
unfolding valid_or
valid_or_right d other k = go (valid d) refl
  where
    go : (t : Bool) → valid d ≡ t → ValidOrNA (cond t d other)
    go true v = is_valid v
    go false v = k
