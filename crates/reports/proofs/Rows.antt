-- Laws of the rows' due Reports: the first of them, their number, and those of a table. Assumes nothing.
use Prim.Native.Nat.{ℕ, zero, suc, ◌+◌, ◌-◌, ◌/◌, ◌%◌, ◌^◌, ◌≤◌, ◌<◌}
use mathlib.Core.Path.{◌≡◌, refl, sym, ap, ap₂, ◌∙◌}
use mathlib.Core.Bool.{Bool, true, false}
use mathlib.Core.List.{List, [], ◌∷◌}
use native.Mathlib.Omega.{arith}
use lib.Count.{count_trailing_zeros, under, ones, ones_step}
use lib.ListN.{length}
use Rattle.devices.specs.declared.row.Row.{Row}
use Rattle.reports.specs.declared.due.Report.{Report}
use Rattle.reports.specs.declared.due.Report.TheVariants.{DeviceAttributes, SlabSetpoint, FanPercent}
use Rattle.devices.specs.Row.{slab, fan}
use Rattle.reports.specs.Mask.{if_set, digit, mask_where}
use Rattle.reports.specs.Due.{rows_due, with_bit, row_reports, table_reports}
use Rattle.reports.proofs.Digits.{Digits, half_below, even_cleared, odd_cleared}
use Rattle.reports.proofs.Places.{length_if_set, ones_zero, where_digits}

-- the digits as they are
pub own : (x : ℕ) → Digits x (x % 2) (x / 2)
own x = record { lowest = refl; higher = refl }

-- the Reports by the digits of the masks: those of row i, then those of the rows behind
abbrev pub row_then : ℕ → ℕ → ℕ → ℕ → List Report → List Report
row_then i a s f l = if_set a (DeviceAttributes i) (if_set s (SlabSetpoint i) (if_set f (FanPercent i) l))

pub due_digits : (k i : ℕ) {a s f a₀ s₀ f₀ a₁ s₁ f₁ : ℕ} → Digits a a₀ a₁ → Digits s s₀ s₁ → Digits f f₀ f₁
    → rows_due (suc k) i a s f ≡ row_then i a₀ s₀ f₀ (rows_due k (suc i) a₁ s₁ f₁)
unfolding rows_due
due_digits k i x y z = rw (x.lowest, x.higher, y.lowest, y.higher, z.lowest, z.higher)

-- ---- the first: the least of the three lowest places, in the order of method IDs
pub first_attributes : (k i a s f : ℕ) → count_trailing_zeros k a < k → count_trailing_zeros k a ≤ count_trailing_zeros k s → count_trailing_zeros k a ≤ count_trailing_zeros k f
    → rows_due k i a s f ≡ DeviceAttributes (i + count_trailing_zeros k a) ∷ rows_due k i (a - 2 ^ count_trailing_zeros k a) s f
unfolding count_trailing_zeros
first_attributes zero i a s f h p q = absurd (omega arith)
first_attributes (suc k) i a s f h p q =
    due_digits k i (own a) (own s) (own f) ∙ go (a % 2) (s % 2) (f % 2) refl refl refl h p q (first_attributes k (suc i) (a / 2) (s / 2) (f / 2))
  where
    go : (x y z : ℕ) → a % 2 ≡ x → s % 2 ≡ y → f % 2 ≡ z
        → under x (count_trailing_zeros k (a / 2)) < suc k
        → under x (count_trailing_zeros k (a / 2)) ≤ under y (count_trailing_zeros k (s / 2))
        → under x (count_trailing_zeros k (a / 2)) ≤ under z (count_trailing_zeros k (f / 2))
        → (count_trailing_zeros k (a / 2) < k → count_trailing_zeros k (a / 2) ≤ count_trailing_zeros k (s / 2) → count_trailing_zeros k (a / 2) ≤ count_trailing_zeros k (f / 2)
        → rows_due k (suc i) (a / 2) (s / 2) (f / 2)
        ≡ DeviceAttributes (suc i + count_trailing_zeros k (a / 2)) ∷ rows_due k (suc i) (a / 2 - 2 ^ count_trailing_zeros k (a / 2)) (s / 2) (f / 2))
        → row_then i x y z (rows_due k (suc i) (a / 2) (s / 2) (f / 2))
        ≡ DeviceAttributes (i + under x (count_trailing_zeros k (a / 2))) ∷ rows_due (suc k) i (a - 2 ^ under x (count_trailing_zeros k (a / 2))) s f
    go zero zero zero ea es ef h p q ih =
        let t = count_trailing_zeros k (a / 2) in
        let n : suc i + t ≡ i + suc t = omega arith in
        ih (omega arith) (omega arith) (omega arith)
        ∙ ap₂ (λ (r : ℕ) (l : List Report). DeviceAttributes r ∷ l) n
        (sym (due_digits k i (even_cleared a t ea) (record { lowest = es; higher = refl }) (record { lowest = ef; higher = refl })))
    go zero (suc y) z ea es ef h p q ih = absurd (omega arith)
    go zero zero (suc z) ea es ef h p q ih = absurd (omega arith)
    go (suc x) y z ea es ef h p q ih =
        let n : i ≡ i + 0 = omega arith in
        ap₂ (λ (r : ℕ) (l : List Report). DeviceAttributes r ∷ l) n
        (sym (due_digits k i (odd_cleared a x ea) (record { lowest = es; higher = refl }) (record { lowest = ef; higher = refl })))

pub first_slab : (k i a s f : ℕ) → count_trailing_zeros k s < k → count_trailing_zeros k s < count_trailing_zeros k a → count_trailing_zeros k s ≤ count_trailing_zeros k f
    → rows_due k i a s f ≡ SlabSetpoint (i + count_trailing_zeros k s) ∷ rows_due k i a (s - 2 ^ count_trailing_zeros k s) f
unfolding count_trailing_zeros
first_slab zero i a s f h p q = absurd (omega arith)
first_slab (suc k) i a s f h p q =
    due_digits k i (own a) (own s) (own f) ∙ go (a % 2) (s % 2) (f % 2) refl refl refl h p q (first_slab k (suc i) (a / 2) (s / 2) (f / 2))
  where
    go : (x y z : ℕ) → a % 2 ≡ x → s % 2 ≡ y → f % 2 ≡ z
        → under y (count_trailing_zeros k (s / 2)) < suc k
        → under y (count_trailing_zeros k (s / 2)) < under x (count_trailing_zeros k (a / 2))
        → under y (count_trailing_zeros k (s / 2)) ≤ under z (count_trailing_zeros k (f / 2))
        → (count_trailing_zeros k (s / 2) < k → count_trailing_zeros k (s / 2) < count_trailing_zeros k (a / 2) → count_trailing_zeros k (s / 2) ≤ count_trailing_zeros k (f / 2)
        → rows_due k (suc i) (a / 2) (s / 2) (f / 2)
        ≡ SlabSetpoint (suc i + count_trailing_zeros k (s / 2)) ∷ rows_due k (suc i) (a / 2) (s / 2 - 2 ^ count_trailing_zeros k (s / 2)) (f / 2))
        → row_then i x y z (rows_due k (suc i) (a / 2) (s / 2) (f / 2))
        ≡ SlabSetpoint (i + under y (count_trailing_zeros k (s / 2))) ∷ rows_due (suc k) i a (s - 2 ^ under y (count_trailing_zeros k (s / 2))) f
    go zero zero zero ea es ef h p q ih =
        let t = count_trailing_zeros k (s / 2) in
        let n : suc i + t ≡ i + suc t = omega arith in
        ih (omega arith) (omega arith) (omega arith)
        ∙ ap₂ (λ (r : ℕ) (l : List Report). SlabSetpoint r ∷ l) n
        (sym (due_digits k i (record { lowest = ea; higher = refl }) (even_cleared s t es) (record { lowest = ef; higher = refl })))
    go zero zero (suc z) ea es ef h p q ih = absurd (omega arith)
    go zero (suc y) z ea es ef h p q ih =
        let n : i ≡ i + 0 = omega arith in
        ap₂ (λ (r : ℕ) (l : List Report). SlabSetpoint r ∷ l) n
        (sym (due_digits k i (record { lowest = ea; higher = refl }) (odd_cleared s y es) (record { lowest = ef; higher = refl })))
    go (suc x) y z ea es ef h p q ih = absurd (omega arith)

pub first_fan : (k i a s f : ℕ) → count_trailing_zeros k f < k → count_trailing_zeros k f < count_trailing_zeros k a → count_trailing_zeros k f < count_trailing_zeros k s
    → rows_due k i a s f ≡ FanPercent (i + count_trailing_zeros k f) ∷ rows_due k i a s (f - 2 ^ count_trailing_zeros k f)
unfolding count_trailing_zeros
first_fan zero i a s f h p q = absurd (omega arith)
first_fan (suc k) i a s f h p q =
    due_digits k i (own a) (own s) (own f) ∙ go (a % 2) (s % 2) (f % 2) refl refl refl h p q (first_fan k (suc i) (a / 2) (s / 2) (f / 2))
  where
    go : (x y z : ℕ) → a % 2 ≡ x → s % 2 ≡ y → f % 2 ≡ z
        → under z (count_trailing_zeros k (f / 2)) < suc k
        → under z (count_trailing_zeros k (f / 2)) < under x (count_trailing_zeros k (a / 2))
        → under z (count_trailing_zeros k (f / 2)) < under y (count_trailing_zeros k (s / 2))
        → (count_trailing_zeros k (f / 2) < k → count_trailing_zeros k (f / 2) < count_trailing_zeros k (a / 2) → count_trailing_zeros k (f / 2) < count_trailing_zeros k (s / 2)
        → rows_due k (suc i) (a / 2) (s / 2) (f / 2)
        ≡ FanPercent (suc i + count_trailing_zeros k (f / 2)) ∷ rows_due k (suc i) (a / 2) (s / 2) (f / 2 - 2 ^ count_trailing_zeros k (f / 2)))
        → row_then i x y z (rows_due k (suc i) (a / 2) (s / 2) (f / 2))
        ≡ FanPercent (i + under z (count_trailing_zeros k (f / 2))) ∷ rows_due (suc k) i a s (f - 2 ^ under z (count_trailing_zeros k (f / 2)))
    go zero zero zero ea es ef h p q ih =
        let t = count_trailing_zeros k (f / 2) in
        let n : suc i + t ≡ i + suc t = omega arith in
        ih (omega arith) (omega arith) (omega arith)
        ∙ ap₂ (λ (r : ℕ) (l : List Report). FanPercent r ∷ l) n
        (sym (due_digits k i (record { lowest = ea; higher = refl }) (record { lowest = es; higher = refl }) (even_cleared f t ef)))
    go zero zero (suc z) ea es ef h p q ih =
        let n : i ≡ i + 0 = omega arith in
        ap₂ (λ (r : ℕ) (l : List Report). FanPercent r ∷ l) n
        (sym (due_digits k i (record { lowest = ea; higher = refl }) (record { lowest = es; higher = refl }) (odd_cleared f z ef)))
    go zero (suc y) z ea es ef h p q ih = absurd (omega arith)
    go (suc x) y z ea es ef h p q ih = absurd (omega arith)

-- no lowest place in any mask: none due
pub none_due : (k i a s f : ℕ) → k ≤ count_trailing_zeros k a → k ≤ count_trailing_zeros k s → k ≤ count_trailing_zeros k f → rows_due k i a s f ≡ []
unfolding count_trailing_zeros rows_due
none_due zero i a s f p q r = refl
none_due (suc k) i a s f p q r = go (a % 2) (s % 2) (f % 2) p q r (none_due k (suc i) (a / 2) (s / 2) (f / 2))
  where
    go : (x y z : ℕ) → suc k ≤ under x (count_trailing_zeros k (a / 2)) → suc k ≤ under y (count_trailing_zeros k (s / 2)) → suc k ≤ under z (count_trailing_zeros k (f / 2))
        → (k ≤ count_trailing_zeros k (a / 2) → k ≤ count_trailing_zeros k (s / 2) → k ≤ count_trailing_zeros k (f / 2) → rows_due k (suc i) (a / 2) (s / 2) (f / 2) ≡ [])
        → row_then i x y z (rows_due k (suc i) (a / 2) (s / 2) (f / 2)) ≡ []
    go zero zero zero p q r ih = ih (omega arith) (omega arith) (omega arith)
    go (suc x) y z p q r ih = absurd (omega arith)
    go zero (suc y) z p q r ih = absurd (omega arith)
    go zero zero (suc z) p q r ih = absurd (omega arith)

-- ---- their number: the ones of the masks
pub due_count : (k i a s f : ℕ) → a < 2 ^ k → s < 2 ^ k → f < 2 ^ k → length (rows_due k i a s f) ≡ ones a + ones s + ones f
unfolding rows_due
due_count zero i a s f p q r = let x = ones_zero a p in let y = ones_zero s q in let z = ones_zero f r in omega arith
due_count (suc k) i a s f p q r =
    let l = rows_due k (suc i) (a / 2) (s / 2) (f / 2) in
    let n = due_count k (suc i) (a / 2) (s / 2) (f / 2) (half_below k a p) (half_below k s q) (half_below k f r) in
    let x = ones_step a in
    let y = ones_step s in
    let z = ones_step f in
    let u = length_if_set (a % 2) (DeviceAttributes i) (if_set (s % 2) (SlabSetpoint i) (if_set (f % 2) (FanPercent i) l)) (omega arith) in
    let v = length_if_set (s % 2) (SlabSetpoint i) (if_set (f % 2) (FanPercent i) l) (omega arith) in
    let w = length_if_set (f % 2) (FanPercent i) l (omega arith) in
    omega arith

-- ---- those of a table
pub zero_due : (k i : ℕ) → rows_due k i 0 0 0 ≡ []
unfolding rows_due
zero_due zero i = refl
zero_due (suc k) i = zero_due k (suc i)

pub table_due : (k i : ℕ) (l : List Row) → length l ≤ k
    → rows_due k i (mask_where (with_bit slab) l) (mask_where (with_bit slab) l) (mask_where (with_bit fan) l) ≡ table_reports i l
unfolding mask_where
table_due k i [] h = zero_due k i
table_due zero i (r ∷ l) h = absurd (omega arith)
table_due (suc k) i (r ∷ l) h =
    due_digits k i (where_digits (with_bit slab) r l) (where_digits (with_bit slab) r l) (where_digits (with_bit fan) r l)
    ∙ ap (row_then i (digit ((with_bit slab) r)) (digit ((with_bit slab) r)) (digit ((with_bit fan) r))) (table_due k (suc i) l (omega arith))
    ∙ go ((with_bit slab) r) ((with_bit fan) r) (table_reports (suc i) l)
  where
    go : (x y : Bool) (m : List Report) → row_then i (digit x) (digit x) (digit y) m ≡ row_reports i x y m
    go true true m = refl
    go true false m = refl
    go false true m = refl
    go false false m = refl
