-- What each call makes of the struct, by the list that it holds. Assumes nothing.
use Rattle.std.specs.Prelude.{Some, None}
use Prim.Native.Nat.{ℕ, suc, ◌+◌, ◌-◌, ◌^◌, ◌≤◌, ◌<◌}
use mathlib.Core.Path.{◌≡◌, refl, sym, ap, ◌∙◌}
use mathlib.Core.Bool.{Bool, true, false, not}
use mathlib.Core.List.{List, [], ◌∷◌}
use native.Mathlib.Nat.{zero-add}
use native.Mathlib.Numerals.{add-one}
use native.Mathlib.Omega.{arith}
use borrow.Author.Tests.{lt-ltb, le-ltb}
use lib.Count.{count_trailing_zeros, trailing_le}
use lib.Dec.{eqb}
use lib.ListN.{length}
use Rattle.devices.specs.declared.row.Row.{Row}
use Rattle.devices.specs.Row.{slab, fan}
use Rattle.reports.specs.declared.due.Report.{Report}
use Rattle.reports.specs.declared.due.Report.TheVariants.{NetworkError, DeviceAttributes, SlabSetpoint, FanPercent}
use Rattle.reports.specs.declared.due.DueReports.{DueReports}
use Rattle.reports.specs.declared.due.Taken.{Taken}
use Rattle.reports.specs.Mask.{mask_where}
use Rattle.reports.specs.Due.{rows_due, error_due, reports_of, due, held, first_of, rest, first, taking, with_bit, minute_reports, or_else, ticked}
use Rattle.reports.proofs.Places.{where_fits}
use Rattle.reports.proofs.Rows.{first_attributes, first_slab, first_fan, none_due, table_due}
use Rattle.reports.proofs.Holding.{Ranged, held_own, held_is}

-- ---- the first is taken

taking_first : (d : DueReports) (x : Report) (e : Bool) (a s f : ℕ) → Ranged (due d.minute e a s f) → reports_of d ≡ x ∷ reports_of (due d.minute e a s f)
    → first x (due d.minute e a s f) ≡ taking d
unfolding taking
taking_first d x e a s f g h =
    let n = d.minute in
    let p : due n e a s f ≡ held n (rest (reports_of d)) = sym (held_own n (due n e a s f) g) ∙ ap (λ (l : List Report). held n (rest l)) (sym h) in
    let q : Some x ≡ first_of (reports_of d) = ap first_of (sym h) in
    λ j. record { next = q j; due = p j }

pub error_first : (d : DueReports) → d.error ≡ true → reports_of d ≡ NetworkError ∷ reports_of (due d.minute false d.attributes d.slab d.fan)
unfolding reports_of
error_first d h = rw h

-- each case of the first Report: the masks without it, their digits, and the list
module _ (d : DueReports) (g : Ranged d) where
  abbrev pub without_error : DueReports
  without_error = due d.minute false d.attributes d.slab d.fan

  pub error_ranged : Ranged without_error
  error_ranged = record { attributes = g.attributes; slab = g.slab; fan = g.fan }

  pub take_error : d.error ≡ true → first NetworkError without_error ≡ taking d
  take_error h = taking_first d NetworkError false d.attributes d.slab d.fan error_ranged (error_first d h)

  abbrev a : ℕ
  a = count_trailing_zeros 32 d.attributes

  abbrev s : ℕ
  s = count_trailing_zeros 32 d.slab

  abbrev f : ℕ
  f = count_trailing_zeros 32 d.fan

  abbrev pub without_attributes : DueReports
  without_attributes = due d.minute d.error (d.attributes - 2 ^ a) d.slab d.fan

  abbrev pub without_slab : DueReports
  without_slab = due d.minute d.error d.attributes (d.slab - 2 ^ s) d.fan

  abbrev pub without_fan : DueReports
  without_fan = due d.minute d.error d.attributes d.slab (d.fan - 2 ^ f)

  pub attributes_ranged : Ranged without_attributes
  attributes_ranged = record { attributes = let r = g.attributes in omega arith; slab = g.slab; fan = g.fan }

  pub slab_ranged : Ranged without_slab
  slab_ranged = record { attributes = g.attributes; slab = let r = g.slab in omega arith; fan = g.fan }

  pub fan_ranged : Ranged without_fan
  fan_ranged = record { attributes = g.attributes; slab = g.slab; fan = let r = g.fan in omega arith }

  module _ (h : d.error ≡ false) where
    pub attributes_first : a < 32 → a ≤ s → a ≤ f → reports_of d ≡ DeviceAttributes a ∷ reports_of without_attributes
    unfolding reports_of
    attributes_first x y z =
        rw h
        (first_attributes 32 0 d.attributes d.slab d.fan x y z
        ∙ ap (λ (r : ℕ). DeviceAttributes r ∷ rows_due 32 0 (d.attributes - 2 ^ a) d.slab d.fan) (zero-add a))

    pub slab_first : s < a → s ≤ f → reports_of d ≡ SlabSetpoint s ∷ reports_of without_slab
    unfolding reports_of
    slab_first y z =
        let x = trailing_le 32 d.attributes in
        rw h
        (first_slab 32 0 d.attributes d.slab d.fan (omega arith) y z
        ∙ ap (λ (r : ℕ). SlabSetpoint r ∷ rows_due 32 0 d.attributes (d.slab - 2 ^ s) d.fan) (zero-add s))

    pub fan_first : f < a → f < s → reports_of d ≡ FanPercent f ∷ reports_of without_fan
    unfolding reports_of
    fan_first y z =
        let x = trailing_le 32 d.attributes in
        rw h
        (first_fan 32 0 d.attributes d.slab d.fan (omega arith) y z
        ∙ ap (λ (r : ℕ). FanPercent r ∷ rows_due 32 0 d.attributes d.slab (d.fan - 2 ^ f)) (zero-add f))

    pub nothing_first : 32 ≤ a → a ≤ s → a ≤ f → reports_of d ≡ []
    unfolding reports_of
    nothing_first x y z = rw h (none_due 32 0 d.attributes d.slab d.fan x (omega arith) (omega arith))

    pub take_attributes : a < 32 → a ≤ s → a ≤ f → first (DeviceAttributes a) without_attributes ≡ taking d
    take_attributes x y z = taking_first d (DeviceAttributes a) d.error (d.attributes - 2 ^ a) d.slab d.fan attributes_ranged (attributes_first x y z)

    pub take_slab : s < a → s ≤ f → first (SlabSetpoint s) without_slab ≡ taking d
    take_slab y z = taking_first d (SlabSetpoint s) d.error d.attributes (d.slab - 2 ^ s) d.fan slab_ranged (slab_first y z)

    pub take_fan : f < a → f < s → first (FanPercent f) without_fan ≡ taking d
    take_fan y z = taking_first d (FanPercent f) d.error d.attributes d.slab (d.fan - 2 ^ f) fan_ranged (fan_first y z)

    pub take_none : 32 ≤ a → a ≤ s → a ≤ f → ◌≡◌ {A = Taken} (record { next = None; due = d }) (taking d)
    unfolding taking
    take_none x y z =
        let e = nothing_first x y z in
        let p : d ≡ held d.minute (rest (reports_of d)) = held_is d (rest (reports_of d)) g (e ∙ ap rest (sym e)) in
        let q : None ≡ first_of (reports_of d) = ap first_of (sym e) in
        λ j. record { next = q j; due = p j }

-- ---- the tick

-- what the minute makes due
module _ (e : ℕ) (t : List Row) (h : length t ≤ 32) where
  abbrev minute_due : DueReports
  minute_due = due 0 (not (eqb e 0)) (mask_where (with_bit slab) t) (mask_where (with_bit slab) t) (mask_where (with_bit fan) t)

  pub minute_ranged : Ranged minute_due
  minute_ranged =
      let x : mask_where (with_bit slab) t < 2 ^ 32 = where_fits (with_bit slab) t 0 h in
      let y : mask_where (with_bit fan) t < 2 ^ 32 = where_fits (with_bit fan) t 0 h in
      record { attributes = x; slab = x; fan = y }

  pub minute_lists : reports_of minute_due ≡ minute_reports e t
  unfolding reports_of minute_reports
  minute_lists = ap (error_due (not (eqb e 0))) (table_due 32 0 t h)

  pub minute_held : minute_due ≡ held 0 (minute_reports e t)
  minute_held = held_is minute_due (minute_reports e t) minute_ranged minute_lists

module _ (d : DueReports) (g : Ranged d) (e : ℕ) (t : List Row) where
  pub tick_more : d.minute < 59 → due (d.minute + 1) d.error d.attributes d.slab d.fan ≡ ticked true e t d
  unfolding ticked
  tick_more h = rw (lt-ltb d.minute 59 h) (rw (add-one d.minute) (sym (held_own (suc d.minute) d g)))

  pub tick_minute : 59 ≤ d.minute → length (reports_of d) ≡ 0 → held 0 (minute_reports e t) ≡ ticked true e t d
  unfolding ticked
  tick_minute h n = rw (le-ltb d.minute 59 h) (go (reports_of d) n)
    where
      go : (l : List Report) → length l ≡ 0 → held 0 (minute_reports e t) ≡ held 0 (or_else l (minute_reports e t))
      go [] n = refl
      go (x ∷ l) n = absurd (omega arith)

  pub tick_kept : 59 ≤ d.minute → (length (reports_of d) ≡ 0 → ⊥) → due 0 d.error d.attributes d.slab d.fan ≡ ticked true e t d
  unfolding ticked
  tick_kept h n = rw (le-ltb d.minute 59 h) (sym (held_own 0 d g) ∙ go (reports_of d) n)
    where
      go : (l : List Report) → (length l ≡ 0 → ⊥) → held 0 l ≡ held 0 (or_else l (minute_reports e t))
      go [] n = absurd (n refl)
      go (x ∷ l) n = refl
