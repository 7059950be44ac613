-- What a minute makes due: just what document 02 names, in its order. Assumes nothing.
use Prim.Native.Nat.{ℕ, zero, suc, ◌+◌, ◌*◌}
use mathlib.Core.Path.{◌≡◌, refl, sym, ◌∙◌, subst}
use mathlib.Core.Bool.{Bool, true, false, not}
use mathlib.Core.List.{List, [], ◌∷◌, Memᴰ}
use native.Mathlib.Nat.{zero-add}
use native.Mathlib.Omega.{arith}
use lib.Dec.{eqb}
use borrow.Author.Tests.{not-true, not-false, eqb-true, eqb-false}
use Rattle.devices.specs.declared.row.Row.{Row}
use Rattle.devices.specs.Row.{slab, fan}
use Rattle.devices.specs.Table.{row_at}
use Rattle.reports.specs.declared.due.Report.{Report}
use Rattle.reports.specs.declared.due.Report.TheVariants.{NetworkError, DeviceAttributes, SlabSetpoint, FanPercent}
use Rattle.reports.specs.Due.{error_due, with_bit, row_reports, table_reports, minute_reports}
use Rattle.reports.specs.Order.{Rising}
use Rattle.reports.specs.Minute.{HasAt, Wanted, MinuteRight}
use Rattle.reports.proofs.Orders.{rising_from}

-- ---- in order, none twice

row_rising : (i : ℕ) (s f : Bool) (l : List Report) → Rising (3 * i + 4) l → Rising (3 * i + 1) (row_reports i s f l)
row_rising i true true l r = (omega arith, (omega arith, (omega arith, rising_from (suc (3 * i + 3)) (3 * i + 4) l (omega arith) r)))
row_rising i true false l r = (omega arith, (omega arith, rising_from (suc (3 * i + 2)) (3 * i + 4) l (omega arith) r))
row_rising i false true l r = (omega arith, rising_from (suc (3 * i + 3)) (3 * i + 4) l (omega arith) r)
row_rising i false false l r = rising_from (3 * i + 1) (3 * i + 4) l (omega arith) r

table_rising : (i : ℕ) (t : List Row) → Rising (3 * i + 1) (table_reports i t)
table_rising i [] = tt
table_rising i (r ∷ t) =
    row_rising i (with_bit slab r) (with_bit fan r) (table_reports (suc i) t)
    (rising_from (3 * i + 4) (3 * suc i + 1) (table_reports (suc i) t) (omega arith) (table_rising (suc i) t))

pub minute_rising : (e : ℕ) (t : List Row) → Rising 0 (minute_reports e t)
unfolding minute_reports
minute_rising e t = go (not (eqb e 0))
  where
    go : (b : Bool) → Rising 0 (error_due b (table_reports 0 t))
    go true = (omega arith, table_rising 0 t)
    go false = rising_from 0 1 (table_reports 0 t) (omega arith) (table_rising 0 t)

-- ---- these and no others

-- of the rows from row i on
abbrev From : ℕ → List Row → (j bit : ℕ) → Type 0
From i t j bit = (k : ℕ) × (j ≡ i + k) × HasAt t k bit

abbrev WantedFrom : ℕ → List Row → Report → Type 0
WantedFrom i t NetworkError = ⊥
WantedFrom i t (DeviceAttributes j) = From i t j 4
WantedFrom i t (SlabSetpoint j) = From i t j 4
WantedFrom i t (FanPercent j) = From i t j 8

-- the first of them, and those behind
here : (i : ℕ) (r : Row) (t : List Row) (bit : ℕ) → with_bit bit r ≡ true → From i (r ∷ t) i bit
unfolding row_at
here i r t bit h = (0, omega arith, (omega arith, h))

later : (i : ℕ) (r : Row) (t : List Row) (j bit : ℕ) → From (suc i) t j bit → From i (r ∷ t) j bit
unfolding row_at
later i r t j bit (k, e, (l, h)) = (suc k, omega arith, (omega arith, h))

behind : (i : ℕ) (r : Row) (t : List Row) (x : Report) → WantedFrom (suc i) t x → WantedFrom i (r ∷ t) x
behind i r t NetworkError w = w
behind i r t (DeviceAttributes j) w = later i r t j 4 w
behind i r t (SlabSetpoint j) w = later i r t j 4 w
behind i r t (FanPercent j) w = later i r t j 8 w

module _ (i : ℕ) (r : Row) (t : List Row) (l : List Report) (x : Report) where
  -- a Report of the row is wanted, and one of those behind where it is wanted there
  only_row : (s : Bool) → with_bit slab r ≡ s → (f : Bool) → with_bit fan r ≡ f → Memᴰ x (row_reports i s f l) → (Memᴰ x l → WantedFrom (suc i) t x)
      → WantedFrom i (r ∷ t) x
  only_row true hs f hf (Memᴰ.head e) rest = subst (WantedFrom i (r ∷ t)) (sym e) (here i r t 4 hs)
  only_row true hs f hf (Memᴰ.tail (Memᴰ.head e)) rest = subst (WantedFrom i (r ∷ t)) (sym e) (here i r t 4 hs)
  only_row true hs true hf (Memᴰ.tail (Memᴰ.tail (Memᴰ.head e))) rest = subst (WantedFrom i (r ∷ t)) (sym e) (here i r t 8 hf)
  only_row true hs true hf (Memᴰ.tail (Memᴰ.tail (Memᴰ.tail m))) rest = behind i r t x (rest m)
  only_row true hs false hf (Memᴰ.tail (Memᴰ.tail m)) rest = behind i r t x (rest m)
  only_row false hs true hf (Memᴰ.head e) rest = subst (WantedFrom i (r ∷ t)) (sym e) (here i r t 8 hf)
  only_row false hs true hf (Memᴰ.tail m) rest = behind i r t x (rest m)
  only_row false hs false hf m rest = behind i r t x (rest m)

  -- what is wanted of those behind is there
  in_row : (s f : Bool) → Memᴰ x l → Memᴰ x (row_reports i s f l)
  in_row true true m = Memᴰ.tail (Memᴰ.tail (Memᴰ.tail m))
  in_row true false m = Memᴰ.tail (Memᴰ.tail m)
  in_row false true m = Memᴰ.tail m
  in_row false false m = m

only_from : (i : ℕ) (t : List Row) (x : Report) → Memᴰ x (table_reports i t) → WantedFrom i t x
only_from i [] x m = elim m [ ]
only_from i (r ∷ t) x m = only_row i r t (table_reports (suc i) t) x (with_bit slab r) refl (with_bit fan r) refl m (only_from (suc i) t x)

-- those of row i itself
module _ (i : ℕ) (l : List Report) where
  attributes_in : (f : Bool) → Memᴰ (DeviceAttributes i) (row_reports i true f l)
  attributes_in f = Memᴰ.head refl

  slab_in : (f : Bool) → Memᴰ (SlabSetpoint i) (row_reports i true f l)
  slab_in f = Memᴰ.tail (Memᴰ.head refl)

  fan_in : (s : Bool) → Memᴰ (FanPercent i) (row_reports i s true l)
  fan_in true = Memᴰ.tail (Memᴰ.tail (Memᴰ.head refl))
  fan_in false = Memᴰ.head refl

module _ (i : ℕ) (r : Row) (t : List Row) where
  abbrev others : List Report
  others = table_reports (suc i) t

  all_row : (x : Report) → (WantedFrom (suc i) t x → Memᴰ x others) → WantedFrom i (r ∷ t) x → Memᴰ x (table_reports i (r ∷ t))
  unfolding row_at
  all_row NetworkError rest w = elim w [ ]
  all_row (DeviceAttributes j) rest (zero, e, (l, h)) =
      let same : j ≡ i = omega arith in
      subst (λ (n : ℕ). Memᴰ (DeviceAttributes n) (table_reports i (r ∷ t))) (sym same) (rw h (attributes_in i others (with_bit fan r)))
  all_row (SlabSetpoint j) rest (zero, e, (l, h)) =
      let same : j ≡ i = omega arith in
      subst (λ (n : ℕ). Memᴰ (SlabSetpoint n) (table_reports i (r ∷ t))) (sym same) (rw h (slab_in i others (with_bit fan r)))
  all_row (FanPercent j) rest (zero, e, (l, h)) =
      let same : j ≡ i = omega arith in
      subst (λ (n : ℕ). Memᴰ (FanPercent n) (table_reports i (r ∷ t))) (sym same) (rw h (fan_in i others (with_bit slab r)))
  all_row (DeviceAttributes j) rest (suc k, e, (l, h)) = in_row i r t others (DeviceAttributes j) (with_bit slab r) (with_bit fan r) (rest (k, omega arith, (omega arith, h)))
  all_row (SlabSetpoint j) rest (suc k, e, (l, h)) = in_row i r t others (SlabSetpoint j) (with_bit slab r) (with_bit fan r) (rest (k, omega arith, (omega arith, h)))
  all_row (FanPercent j) rest (suc k, e, (l, h)) = in_row i r t others (FanPercent j) (with_bit slab r) (with_bit fan r) (rest (k, omega arith, (omega arith, h)))

none_from : (i : ℕ) (x : Report) → WantedFrom i [] x → ⊥
none_from i NetworkError w = elim w [ ]
none_from i (DeviceAttributes j) (k, e, (l, h)) = omega arith
none_from i (SlabSetpoint j) (k, e, (l, h)) = omega arith
none_from i (FanPercent j) (k, e, (l, h)) = omega arith

all_from : (i : ℕ) (t : List Row) (x : Report) → WantedFrom i t x → Memᴰ x (table_reports i t)
all_from i [] x w = absurd (none_from i x w)
all_from i (r ∷ t) x w = all_row i r t x (all_from (suc i) t x) w

-- from row 0 on
module _ (e : ℕ) (t : List Row) where
  wanted : (x : Report) → WantedFrom 0 t x → Wanted e t x
  wanted NetworkError w = elim w [ ]
  wanted (DeviceAttributes j) (k, h, w) = subst (λ (n : ℕ). HasAt t n 4) (sym (h ∙ zero-add k)) w
  wanted (SlabSetpoint j) (k, h, w) = subst (λ (n : ℕ). HasAt t n 4) (sym (h ∙ zero-add k)) w
  wanted (FanPercent j) (k, h, w) = subst (λ (n : ℕ). HasAt t n 8) (sym (h ∙ zero-add k)) w

  only_error : (b : Bool) → not (eqb e 0) ≡ b → (x : Report) → Memᴰ x (error_due b (table_reports 0 t)) → Wanted e t x
  only_error true h x (Memᴰ.head p) = subst (Wanted e t) (sym p) (λ z. eqb-false e 0 (not-true (eqb e 0) h) z)
  only_error true h x (Memᴰ.tail m) = wanted x (only_from 0 t x m)
  only_error false h x m = wanted x (only_from 0 t x m)

  in_table : (b : Bool) (x : Report) → Memᴰ x (table_reports 0 t) → Memᴰ x (error_due b (table_reports 0 t))
  in_table true x m = Memᴰ.tail m
  in_table false x m = m

  all_error : (b : Bool) → not (eqb e 0) ≡ b → (x : Report) → Wanted e t x → Memᴰ x (error_due b (table_reports 0 t))
  all_error true h NetworkError w = Memᴰ.head refl
  all_error false h NetworkError w = absurd (w (eqb-true e 0 (not-false (eqb e 0) h)))
  all_error b h (DeviceAttributes j) w = in_table b (DeviceAttributes j) (all_from 0 t (DeviceAttributes j) (j, sym (zero-add j), w))
  all_error b h (SlabSetpoint j) w = in_table b (SlabSetpoint j) (all_from 0 t (SlabSetpoint j) (j, sym (zero-add j), w))
  all_error b h (FanPercent j) w = in_table b (FanPercent j) (all_from 0 t (FanPercent j) (j, sym (zero-add j), w))

  pub minute_right : MinuteRight e t
  unfolding minute_reports
  minute_right = record { only = only_error (not (eqb e 0)) refl; all = all_error (not (eqb e 0)) refl; order = minute_rising e t }
