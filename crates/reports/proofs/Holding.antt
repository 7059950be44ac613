-- The struct that holds a list of Reports, and the lists that a struct holds. Assumes nothing.
use Prim.Native.Nat.{ℕ, zero, suc, ◌+◌, ◌*◌, ◌/◌, ◌%◌, ◌^◌, ◌≤◌, ◌<◌}
use mathlib.Core.Path.{◌≡◌, sym, ap, ◌∙◌}
use mathlib.Core.Bool.{Bool, true, false}
use mathlib.Core.List.{List}
use native.Mathlib.Nat.{add_comm, add-mul, mul_assoc, mul_comm, mul-one, zero-mul, div-add-mod'}
use native.Mathlib.Omega.{arith}
use lib.Arith.{lt-one}
use lib.Count.{ones, ones-le}
use lib.ListN.{length}
use Rattle.reports.specs.declared.due.Report.{Report}
use Rattle.reports.specs.declared.due.Report.TheVariants.{DeviceAttributes, SlabSetpoint, FanPercent}
use Rattle.reports.specs.declared.due.DueReports.{DueReports}
use Rattle.reports.specs.Mask.{if_set, digit}
use Rattle.reports.specs.Due.{rows_due, error_due, reports_of, due, held}
use Rattle.reports.proofs.Digits.{double, half_below}
use Rattle.reports.proofs.Rows.{due_count}

-- a mask of its lowest digit and the rest, at place i
recomposed : (m i : ℕ) → m % 2 * 2 ^ i + m / 2 * 2 ^ suc i ≡ m * 2 ^ i
recomposed m i =
    let q = 2 ^ i in
    ap (λ (x : ℕ). m % 2 * q + m / 2 * x) (double i ∙ mul_comm q 2)
    ∙ ap (λ (x : ℕ). m % 2 * q + x) (sym (mul_assoc (m / 2) 2 q))
    ∙ add_comm (m % 2 * q) (m / 2 * 2 * q)
    ∙ sym (add-mul (m / 2 * 2) (m % 2) q)
    ∙ ap (λ (x : ℕ). x * q) (div-add-mod' m 2)

module _ (n i : ℕ) (l : List Report) where
  held_attributes : (d : ℕ) → d < 2 → held n (if_set d (DeviceAttributes i) l)
      ≡ due (held n l).minute (held n l).error (d * 2 ^ i + (held n l).attributes) (held n l).slab (held n l).fan
  unfolding held
  held_attributes zero h = let e : (held n l).attributes ≡ 0 * 2 ^ i + (held n l).attributes = omega arith in λ j. due (held n l).minute (held n l).error (e j) (held n l).slab (held n l).fan
  held_attributes (suc zero) h = let e : 2 ^ i + (held n l).attributes ≡ 1 * 2 ^ i + (held n l).attributes = omega arith in λ j. due (held n l).minute (held n l).error (e j) (held n l).slab (held n l).fan
  held_attributes (suc (suc d)) h = absurd (omega arith)

  held_slab : (d : ℕ) → d < 2 → held n (if_set d (SlabSetpoint i) l)
      ≡ due (held n l).minute (held n l).error (held n l).attributes (d * 2 ^ i + (held n l).slab) (held n l).fan
  unfolding held
  held_slab zero h = let e : (held n l).slab ≡ 0 * 2 ^ i + (held n l).slab = omega arith in λ j. due (held n l).minute (held n l).error (held n l).attributes (e j) (held n l).fan
  held_slab (suc zero) h = let e : 2 ^ i + (held n l).slab ≡ 1 * 2 ^ i + (held n l).slab = omega arith in λ j. due (held n l).minute (held n l).error (held n l).attributes (e j) (held n l).fan
  held_slab (suc (suc d)) h = absurd (omega arith)

  held_fan : (d : ℕ) → d < 2 → held n (if_set d (FanPercent i) l)
      ≡ due (held n l).minute (held n l).error (held n l).attributes (held n l).slab (d * 2 ^ i + (held n l).fan)
  unfolding held
  held_fan zero h = let e : (held n l).fan ≡ 0 * 2 ^ i + (held n l).fan = omega arith in λ j. due (held n l).minute (held n l).error (held n l).attributes (held n l).slab (e j)
  held_fan (suc zero) h = let e : 2 ^ i + (held n l).fan ≡ 1 * 2 ^ i + (held n l).fan = omega arith in λ j. due (held n l).minute (held n l).error (held n l).attributes (held n l).slab (e j)
  held_fan (suc (suc d)) h = absurd (omega arith)

held_rows : (n k i a s f : ℕ) → a < 2 ^ k → s < 2 ^ k → f < 2 ^ k → held n (rows_due k i a s f) ≡ due n false (a * 2 ^ i) (s * 2 ^ i) (f * 2 ^ i)
unfolding rows_due held
held_rows n zero i a s f p q r = λ j. due n false (none a p j) (none s q j) (none f r j)
  where
    none : (m : ℕ) → m < 2 ^ 0 → 0 ≡ m * 2 ^ i
    none m h = sym (ap (λ (x : ℕ). x * 2 ^ i) (lt-one h) ∙ zero-mul (2 ^ i))
held_rows n (suc k) i a s f p q r =
    let l = rows_due k (suc i) (a / 2) (s / 2) (f / 2) in
    let l₁ = if_set (f % 2) (FanPercent i) l in
    let l₂ = if_set (s % 2) (SlabSetpoint i) l₁ in
    let ih = held_rows n k (suc i) (a / 2) (s / 2) (f / 2) (half_below k a p) (half_below k s q) (half_below k f r) in
    let e₁ = held_fan n i l (f % 2) (omega arith) in
    let e₂ = held_slab n i l₁ (s % 2) (omega arith) in
    let e₃ = held_attributes n i l₂ (a % 2) (omega arith) in
    e₃
    ∙ ap (λ (d : DueReports). due d.minute d.error (a % 2 * 2 ^ i + d.attributes) d.slab d.fan) e₂
    ∙ ap (λ (d : DueReports). due d.minute d.error (a % 2 * 2 ^ i + d.attributes) (s % 2 * 2 ^ i + d.slab) d.fan) e₁
    ∙ ap (λ (d : DueReports). due d.minute d.error (a % 2 * 2 ^ i + d.attributes) (s % 2 * 2 ^ i + d.slab) (f % 2 * 2 ^ i + d.fan)) ih
    ∙ (λ j. due n false (recomposed a i j) (recomposed s i j) (recomposed f i j))

-- masks of 32 digits
pub record Ranged (d : DueReports) : Type 0 where
  pub attributes : d.attributes < 2 ^ 32
  pub slab : d.slab < 2 ^ 32
  pub fan : d.fan < 2 ^ 32

-- the struct that holds a struct's own Reports, with another minute
pub held_own : (n : ℕ) (d : DueReports) → Ranged d → held n (reports_of d) ≡ due n d.error d.attributes d.slab d.fan
unfolding reports_of held
held_own n d g = go d.error
  where
    rows : held n (rows_due 32 0 d.attributes d.slab d.fan) ≡ due n false d.attributes d.slab d.fan
    rows =
        held_rows n 32 0 d.attributes d.slab d.fan g.attributes g.slab g.fan
        ∙ (λ j. due n false (mul-one d.attributes j) (mul-one d.slab j) (mul-one d.fan j))

    go : (e : Bool) → held n (error_due e (rows_due 32 0 d.attributes d.slab d.fan)) ≡ due n e d.attributes d.slab d.fan
    go true = ap (λ (x : DueReports). due x.minute true x.attributes x.slab x.fan) rows
    go false = rows

-- a struct that holds these Reports is the one
pub held_is : (d : DueReports) (l : List Report) → Ranged d → reports_of d ≡ l → d ≡ held d.minute l
held_is d l g e = sym (held_own d.minute d g) ∙ ap (held d.minute) e

-- the number of Reports: the ones of the masks, and the error's
pub reports_count : (d : DueReports) → Ranged d → length (reports_of d) ≡ digit d.error + (ones d.attributes + ones d.slab + ones d.fan)
unfolding reports_of
reports_count d g = go d.error (due_count 32 0 d.attributes d.slab d.fan g.attributes g.slab g.fan)
  where
    go : (e : Bool) → length (rows_due 32 0 d.attributes d.slab d.fan) ≡ ones d.attributes + ones d.slab + ones d.fan
        → length (error_due e (rows_due 32 0 d.attributes d.slab d.fan)) ≡ digit e + (ones d.attributes + ones d.slab + ones d.fan)
    go true h = omega arith
    go false h = omega arith

-- at most 97: the error's, and three for each of 32 rows
pub reports_most : (d : DueReports) → Ranged d → length (reports_of d) ≤ 97
reports_most d g =
    let e = reports_count d g in
    let x = ones-le 32 d.attributes g.attributes in
    let y = ones-le 32 d.slab g.slab in
    let z = ones-le 32 d.fan g.fan in
    go d.error e x y z
  where
    go : (b : Bool) → length (reports_of d) ≡ digit b + (ones d.attributes + ones d.slab + ones d.fan)
        → ones d.attributes ≤ 32 → ones d.slab ≤ 32 → ones d.fan ≤ 32 → length (reports_of d) ≤ 97
    go true e x y z = omega arith
    go false e x y z = omega arith
