-- Laws of `decimal`: a number below 10 is its digit, any other the text of its tenth and one digit more.
-- Assumes nothing.
use Prim.Native.Nat.{ℕ, zero, suc, ◌/◌, ◌%◌, ◌≤◌, ◌<◌}
use mathlib.Core.Path.{◌≡◌, refl, ap}
use mathlib.Core.List.{List, [], ◌∷◌, ◌++◌}
use native.Mathlib.Omega.{arith}
use Rattle.text.specs.Decimal.{digit, leading, decimal}

-- the digits are the same for any k that is not below the number
enough : (j k n : ℕ) → n ≤ j → n ≤ k → leading j n ≡ leading k n
unfolding leading
enough zero zero n h i = refl
enough zero (suc k) zero h i = refl
enough zero (suc k) (suc n) h i = absurd (omega arith)
enough (suc j) zero zero h i = refl
enough (suc j) zero (suc n) h i = absurd (omega arith)
enough (suc j) (suc k) zero h i = refl
enough (suc j) (suc k) (suc n) h i = rw (enough j k (suc n / 10) (omega arith) (omega arith))

leading_none : (k : ℕ) → leading k 0 ≡ []
unfolding leading
leading_none zero = refl
leading_none (suc k) = refl

-- those of a number above 0 are its text
leading_some : (k n : ℕ) → 0 < n → n ≤ k → leading k n ≡ decimal n
unfolding decimal leading
leading_some k zero h i = absurd (omega arith)
leading_some zero (suc n) h i = absurd (omega arith)
leading_some (suc k) (suc n) h i = rw (enough k (suc n) (suc n / 10) (omega arith) (omega arith))

pub decimal_digit : (n : ℕ) → n < 10 → decimal n ≡ digit n ∷ []
unfolding decimal
decimal_digit n h =
    let tenth : n / 10 ≡ 0 = omega arith in
    let last : n % 10 ≡ n = omega arith in
    rw (tenth, last, leading_none n)

pub decimal_more : (n : ℕ) → 10 ≤ n → decimal n ≡ decimal (n / 10) ++ digit (n % 10) ∷ []
unfolding decimal
decimal_more n h = ap (λ (front : List ℕ). front ++ digit (n % 10) ∷ []) (leading_some n (n / 10) (omega arith) (omega arith))
