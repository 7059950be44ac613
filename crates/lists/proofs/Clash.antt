-- Two different constructors are not equal: congruence closure (`cc`) reads 0 ≡ 1 from such an equation, and `clash cc` closes the goal.
-- Assumes nothing.
use mathlib.Core.Path.{◌≡◌}
use Prim.Native.Nat.{ℕ}
use native.Mathlib.Omega.{arith}

pub clash : {A : Type 0} → ◌≡◌ {A = ℕ} 0 1 → A
clash z = absurd (omega arith)
