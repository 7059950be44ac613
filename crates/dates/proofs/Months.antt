-- The Gregorian calendar: the years and months that are named, four centuries of it, and no month over 31 days. Assumes nothing.
use Prim.Native.Nat.{ℕ, zero, suc, ◌-◌, ◌≤◌, ◌<◌}
use native.Mathlib.Omega.{arith}
use mathlib.Core.Path.{◌≡◌, refl, ap}
use mathlib.Core.Bool.{Bool, true, false, ◌&&◌, cond}
use mathlib.Core.List.{List, [], ◌∷◌, map}
use lib.Dec.{leb, eqb}
use lib.ListN.{get_or}
use borrow.Author.Tests.{leb-true}
use Rattle.lists.specs.Filter.{every}
use Rattle.lists.proofs.Filters.{and_left, and_right}
use Rattle.dates.specs.Calendar.{is_leap, month_days, common_days, days_in, days_of_months, days_of_years}

-- ---- what document 02 names

-- (02, M-101) 2000 has a 29 February, 2100 and 2200 have none; 2004 and 2096 have one, 2001 has none
pub february : map (λ y. days_in y 2) (2000 ∷ 2001 ∷ 2004 ∷ 2096 ∷ 2100 ∷ 2200 ∷ []) ≡ 29 ∷ 28 ∷ 29 ∷ 29 ∷ 28 ∷ 28 ∷ []
unfolding days_in is_leap common_days
february = refl

-- April, June, September and November have 30
pub thirty : map (λ m. days_in 2000 m) (4 ∷ 6 ∷ 9 ∷ 11 ∷ []) ≡ 30 ∷ 30 ∷ 30 ∷ 30 ∷ []
unfolding days_in is_leap common_days
thirty = refl

-- the calendar comes round after 400 years: 400 times 365 days, and 97 leap days
pub four_centuries : days_of_years 2000 400 ≡ 146097
unfolding days_of_years days_of_months days_in is_leap common_days
four_centuries = refl

-- ---- every month

-- no more days than the longest month
abbrev is_short : ℕ → Bool
is_short days = leb days 31

short_at : (l : List ℕ) (i : ℕ) → every is_short l ≡ true → get_or l i 0 ≤ 31
short_at [] i h = omega arith
short_at (x ∷ l) zero h = leb-true x 31 (and_left (is_short x) (every is_short l) h)
short_at (x ∷ l) (suc i) h = short_at l i (and_right (is_short x) (every is_short l) h)

common_few : (m : ℕ) → common_days m ≤ 31
unfolding common_days
common_few zero = omega arith
common_few (suc i) = short_at month_days i refl

pub days_few : (y m : ℕ) → days_in y m ≤ 31
unfolding days_in
days_few y m = go (eqb m 2 && is_leap y)
  where
    go : (t : Bool) → cond t 29 (common_days m) ≤ 31
    go true = omega arith
    go false = common_few m

-- ---- the table, as the code looks it up

-- a month has the place before its number
pub common_at : (m i : ℕ) → 0 < m → i ≡ m - 1 → common_days m ≡ get_or month_days i 0
unfolding common_days
common_at zero i h e = omega (arith, h)
common_at (suc k) i h e =
    let place : k ≡ i = omega arith in
    ap (λ (n : ℕ). get_or month_days n 0) place
