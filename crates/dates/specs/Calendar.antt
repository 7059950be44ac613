-- The Gregorian calendar (document 02, M-101): how many days a month has, and a row of years.
use Rattle.std.specs.Prelude.{ℕ, zero, suc, ◌+◌, ◌%◌, Bool, not, ◌&&◌, ◌||◌, cond, List, [], ◌∷◌, eqb, get_or}

-- (02, M-101) x is divisible by n
abbrev pub divides : (n x : ℕ) → Bool
divides n x = eqb (x % n) 0

-- (02, M-101) a leap year: divisible by 4, and not by 100 unless by 400
unfoldable pub is_leap : (year : ℕ) → Bool
is_leap y = divides 4 y && (not (divides 100 y) || divides 400 y)

-- (02, M-101) the days of the twelve months of a common year, January first
abbrev pub month_days : List ℕ
month_days = 31 ∷ 28 ∷ 31 ∷ 30 ∷ 31 ∷ 30 ∷ 31 ∷ 31 ∷ 30 ∷ 31 ∷ 30 ∷ 31 ∷ []

-- (02, M-101) the days of a month of a common year, months counted from 1; (ours) 0 where there is no such month
unfoldable pub common_days : (month : ℕ) → ℕ
common_days zero = 0
common_days (suc i) = get_or month_days i 0

-- (02, M-101) the days of a month of a year: February has 29 in a leap year
unfoldable pub days_in : (year month : ℕ) → ℕ
days_in y m = cond (eqb m 2 && is_leap y) 29 (common_days m)

-- (ours) the days of the first so many months of a year
unfoldable pub days_of_months : (year months : ℕ) → ℕ
days_of_months y zero = 0
days_of_months y (suc m) = days_of_months y m + days_in y (suc m)

-- (ours) the days of so many years, from this one on
unfoldable pub days_of_years : (first years : ℕ) → ℕ
days_of_years y zero = 0
days_of_years y (suc n) = days_of_years y n + days_of_months (y + n) 12
