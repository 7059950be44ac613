-- The lists that some struct holds: what the calls make of one is one again, so the struct that holds it has just this list.
-- Assumes nothing.
use Prim.Native.Nat.{ℕ, zero, suc, ◌+◌, ◌*◌, ◌/◌, ◌%◌, ◌≤◌}
use mathlib.Core.Path.{◌≡◌, refl, sym, ap, ◌∙◌, subst}
use mathlib.Core.Bool.{Bool, true, false, not}
use mathlib.Core.List.{List, [], ◌∷◌}
use native.Mathlib.Omega.{arith}
use borrow.Author.Tests.{ltb-true, ltb-false}
use lib.Count.{count_trailing_zeros}
use lib.Dec.{eqb, ltb}
use lib.ListN.{length}
use Rattle.devices.specs.declared.row.Row.{Row}
use Rattle.devices.specs.Row.{slab, fan}
use Rattle.reports.specs.declared.due.Report.{Report}
use Rattle.reports.specs.declared.due.Report.TheVariants.{NetworkError, DeviceAttributes, SlabSetpoint, FanPercent}
use Rattle.reports.specs.declared.due.DueReports.{DueReports}
use Rattle.reports.specs.Mask.{mask_where, if_set}
use Rattle.reports.specs.Due.{rows_due, error_due, reports_of, due, held, rest, with_bit, minute_reports, or_else}
use Rattle.reports.specs.Order.{Rising}
use Rattle.reports.proofs.Holding.{Ranged, held_own}
use Rattle.reports.proofs.Rows.{row_then}
use Rattle.reports.proofs.Steps.{error_first, error_ranged, without_error, without_attributes, without_slab, without_fan, attributes_ranged, slab_ranged, fan_ranged, attributes_first, slab_first, fan_first, nothing_first, minute_ranged, minute_lists}

pub record Holds (l : List Report) : Type 0 where
  pub by : DueReports
  pub ranged : Ranged by
  pub lists : reports_of by ≡ l

pub holds : (d : DueReports) → Ranged d → Holds (reports_of d)
holds d g = record { by = d; ranged = g; lists = refl }

-- the struct that holds it
minute_free : (n : ℕ) (d : DueReports) → reports_of (due n d.error d.attributes d.slab d.fan) ≡ reports_of d
unfolding reports_of
minute_free n d = refl

module _ (n : ℕ) (l : List Report) (h : Holds l) where
  held_by : held n l ≡ due n h.by.error h.by.attributes h.by.slab h.by.fan
  held_by = ap (held n) (sym h.lists) ∙ held_own n h.by h.ranged

  pub held_lists : reports_of (held n l) ≡ l
  held_lists = ap reports_of held_by ∙ minute_free n h.by ∙ h.lists

  pub held_ranged : Ranged (held n l)
  held_ranged =
      subst (λ (d : DueReports). Ranged d) (sym held_by) (record { attributes = h.ranged.attributes; slab = h.ranged.slab; fan = h.ranged.fan })

-- ---- the first taken
module _ (d : DueReports) (g : Ranged d) where
  abbrev a : ℕ
  a = count_trailing_zeros 32 d.attributes

  abbrev s : ℕ
  s = count_trailing_zeros 32 d.slab

  abbrev f : ℕ
  f = count_trailing_zeros 32 d.fan

  pub rest_holds : Holds (rest (reports_of d))
  rest_holds = go d.error refl (ltb s a) refl (ltb f s) refl (ltb f a) refl (ltb a 32) refl
    where
      behind : (x : Report) (e : DueReports) → Ranged e → reports_of d ≡ x ∷ reports_of e → Holds (rest (reports_of d))
      behind x e r p = record { by = e; ranged = r; lists = sym (ap rest p) }

      go : (e : Bool) → d.error ≡ e → (x : Bool) → ltb s a ≡ x → (y : Bool) → ltb f s ≡ y → (z : Bool) → ltb f a ≡ z → (w : Bool) → ltb a 32 ≡ w → Holds (rest (reports_of d))
      go true p x hx y hy z hz w hw = behind NetworkError (without_error d g) (error_ranged d g) (error_first d p)
      go false p true hx true hy z hz w hw =
          behind (FanPercent f) (without_fan d g) (fan_ranged d g) (fan_first d g p (omega (arith, ltb-true s a hx, ltb-true f s hy)) (ltb-true f s hy))
      go false p true hx false hy z hz w hw = behind (SlabSetpoint s) (without_slab d g) (slab_ranged d g) (slab_first d g p (ltb-true s a hx) (ltb-false f s hy))
      go false p false hx y hy true hz w hw =
          behind (FanPercent f) (without_fan d g) (fan_ranged d g) (fan_first d g p (ltb-true f a hz) (omega (arith, ltb-false s a hx, ltb-true f a hz)))
      go false p false hx y hy false hz true hw =
          behind (DeviceAttributes a) (without_attributes d g) (attributes_ranged d g) (attributes_first d g p (ltb-true a 32 hw) (ltb-false s a hx) (ltb-false f a hz))
      go false p false hx y hy false hz false hw =
          let e = nothing_first d g p (ltb-false a 32 hw) (ltb-false s a hx) (ltb-false f a hz) in
          record { by = d; ranged = g; lists = e ∙ ap rest (sym e) }

-- ---- the minute
pub minute_holds : (e : ℕ) (t : List Row) → length t ≤ 32 → Holds (minute_reports e t)
minute_holds e t h = record {
  by = due 0 (not (eqb e 0)) (mask_where (with_bit slab) t) (mask_where (with_bit slab) t) (mask_where (with_bit fan) t);
  ranged = minute_ranged e t h;
  lists = minute_lists e t h;
}

pub either_holds : (l m : List Report) → Holds l → Holds m → Holds (or_else l m)
either_holds [] m x y = y
either_holds (z ∷ l) m x y = x

-- ---- the order: rising, so each at most once
pub rising_from : (m n : ℕ) (l : List Report) → m ≤ n → Rising n l → Rising m l
rising_from m n [] h r = tt
rising_from m n (x ∷ l) h r = (let y = r.0 in omega arith, r.1)

row_rising : (i x y z : ℕ) (l : List Report) → Rising (3 * i + 4) l → Rising (3 * i + 1) (row_then i x y z l)
row_rising i x y z l r = first x
  where
    third : (z : ℕ) → Rising (3 * i + 3) (if_set z (FanPercent i) l)
    third zero = rising_from (3 * i + 3) (3 * i + 4) l (omega arith) r
    third (suc z) = (omega arith, rising_from (suc (3 * i + 3)) (3 * i + 4) l (omega arith) r)

    second : (y : ℕ) → Rising (3 * i + 2) (if_set y (SlabSetpoint i) (if_set z (FanPercent i) l))
    second zero = rising_from (3 * i + 2) (3 * i + 3) (if_set z (FanPercent i) l) (omega arith) (third z)
    second (suc y) = (omega arith, rising_from (suc (3 * i + 2)) (3 * i + 3) (if_set z (FanPercent i) l) (omega arith) (third z))

    first : (x : ℕ) → Rising (3 * i + 1) (row_then i x y z l)
    first zero = rising_from (3 * i + 1) (3 * i + 2) (if_set y (SlabSetpoint i) (if_set z (FanPercent i) l)) (omega arith) (second y)
    first (suc x) = (omega arith, rising_from (suc (3 * i + 1)) (3 * i + 2) (if_set y (SlabSetpoint i) (if_set z (FanPercent i) l)) (omega arith) (second y))

rows_rising : (k i a s f : ℕ) → Rising (3 * i + 1) (rows_due k i a s f)
unfolding rows_due
rows_rising zero i a s f = tt
rows_rising (suc k) i a s f =
    row_rising i (a % 2) (s % 2) (f % 2) (rows_due k (suc i) (a / 2) (s / 2) (f / 2))
    (rising_from (3 * i + 4) (3 * suc i + 1) (rows_due k (suc i) (a / 2) (s / 2) (f / 2)) (omega arith) (rows_rising k (suc i) (a / 2) (s / 2) (f / 2)))

-- the due Reports stand in the order of document 02, each once
pub due_rising : (d : DueReports) → Rising 0 (reports_of d)
unfolding reports_of
due_rising d = go d.error
  where
    go : (e : Bool) → Rising 0 (error_due e (rows_due 32 0 d.attributes d.slab d.fan))
    go true = (omega arith, rows_rising 32 0 d.attributes d.slab d.fan)
    go false = rising_from 0 1 (rows_due 32 0 d.attributes d.slab d.fan) (omega arith) (rows_rising 32 0 d.attributes d.slab d.fan)
