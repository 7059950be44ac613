-- The lowest digit and the rest of a mask whose lowest place is cleared. Assumes nothing.
use Prim.Native.Nat.{ℕ, zero, suc, ◌-◌, ◌*◌, ◌/◌, ◌%◌, ◌^◌, ◌≤◌, ◌<◌}
use mathlib.Core.Path.{◌≡◌, refl, ◌∙◌}
use native.Mathlib.Nat.{pow-suc}
use native.Mathlib.Omega.{arith}
use lib.Pow.{shl_exact}
use lib.Count.{count_trailing_zeros, under}

pub double : (t : ℕ) → 2 ^ suc t ≡ 2 ^ t * 2
double t = pow-suc 2 t

pub half_below : (k m : ℕ) → m < 2 ^ suc k → m / 2 < 2 ^ k
half_below k m h = let e = double k in omega arith

-- the lowest digit and the rest of x are d and h
pub record Digits (x d h : ℕ) : Type 0 where
  pub lowest : x % 2 ≡ d
  pub higher : x / 2 ≡ h

-- an even mask, less a higher place
pub even_cleared : (m t : ℕ) → m % 2 ≡ 0 → Digits (m - 2 ^ suc t) 0 (m / 2 - 2 ^ t)
even_cleared m t e = let p = double t in record { lowest = omega arith; higher = omega arith }

-- an odd mask, less the lowest place
pub odd_cleared : (m d : ℕ) → m % 2 ≡ suc d → Digits (m - 2 ^ 0) 0 (m / 2)
odd_cleared m d e = record { lowest = omega arith; higher = omega arith }

-- the lowest place is in the mask
pub lowest_within : (k m : ℕ) → count_trailing_zeros k m < k → 2 ^ count_trailing_zeros k m ≤ m
unfolding count_trailing_zeros
lowest_within zero m h = absurd (omega arith)
lowest_within (suc k) m h = go (m % 2) refl h (lowest_within k (m / 2))
  where
    go : (d : ℕ) → m % 2 ≡ d → under d (count_trailing_zeros k (m / 2)) < suc k → (count_trailing_zeros k (m / 2) < k → 2 ^ count_trailing_zeros k (m / 2) ≤ m / 2)
        → 2 ^ under d (count_trailing_zeros k (m / 2)) ≤ m
    go zero e g ih = let p = double (count_trailing_zeros k (m / 2)) in let q = ih (omega arith) in omega arith
    go (suc d) e g ih = omega arith

-- ---- as the code computes them

-- a bit of 32
pub bit_is : (t : ℕ) → t < 32 → 1 * 2 ^ t % 4294967296 ≡ 2 ^ t
bit_is t h = let e = shl_exact {a = 1} 1 t 32 (omega arith) (omega arith) in e ∙ one
  where
    one : 1 * 2 ^ t ≡ 2 ^ t
    one = omega arith
