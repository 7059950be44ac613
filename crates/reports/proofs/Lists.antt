-- What a tick and a Report sent leave due, as lists. Assumes nothing.
use Prim.Native.Nat.{ℕ, suc, ◌≤◌}
use mathlib.Core.Path.{◌≡◌, refl}
use mathlib.Core.Bool.{Bool, true, false, cond}
use mathlib.Core.List.{List, [], ◌∷◌}
use native.Mathlib.Omega.{arith}
use lib.Dec.{ltb}
use lib.ListN.{length}
use Rattle.devices.specs.declared.row.Row.{Row}
use Rattle.reports.specs.declared.due.Report.{Report}
use Rattle.reports.specs.declared.due.Report.TheVariants.{NetworkError, DeviceAttributes, SlabSetpoint, FanPercent}
use Rattle.reports.specs.declared.due.DueReports.{DueReports}
use Rattle.reports.specs.Due.{rows_due, reports_of, held, fresh_due, first_of, rest, taking, minute_reports, or_else, ticked}
use Rattle.reports.proofs.Holding.{Ranged}
use Rattle.reports.proofs.Orders.{holds, held_lists, held_ranged, rest_holds, minute_holds, either_holds}

pub taken_next : (d : DueReports) → (taking d).next ≡ first_of (reports_of d)
unfolding taking
taken_next d = refl

-- the struct that holds a list has the minute that it is given
held_minute : (n : ℕ) (l : List Report) → (held n l).minute ≡ n
unfolding held
held_minute n [] = refl
held_minute n (NetworkError ∷ l) = held_minute n l
held_minute n (DeviceAttributes i ∷ l) = held_minute n l
held_minute n (SlabSetpoint i ∷ l) = held_minute n l
held_minute n (FanPercent i ∷ l) = held_minute n l

pub taken_minute : (d : DueReports) → (taking d).due.minute ≡ d.minute
unfolding taking
taken_minute d = held_minute d.minute (rest (reports_of d))

-- while reporting, the minute goes on, and after its last tick it starts anew
pub ticked_minute : (e : ℕ) (t : List Row) (d : DueReports) → (ticked true e t d).minute ≡ cond (ltb d.minute 59) (suc d.minute) 0
unfolding ticked
ticked_minute e t d = go (ltb d.minute 59)
  where
    go : (b : Bool) → (cond b (held (suc d.minute) (reports_of d)) (held 0 (or_else (reports_of d) (minute_reports e t)))).minute ≡ cond b (suc d.minute) 0
    go true = held_minute (suc d.minute) (reports_of d)
    go false = held_minute 0 (or_else (reports_of d) (minute_reports e t))

pub fresh_minute : fresh_due.minute ≡ 0
unfolding fresh_due held
fresh_minute = refl

module _ (d : DueReports) (g : Ranged d) where
  pub taken_lists : reports_of (taking d).due ≡ rest (reports_of d)
  unfolding taking
  taken_lists = held_lists d.minute (rest (reports_of d)) (rest_holds d g)

  pub taken_ranged : Ranged (taking d).due
  unfolding taking
  taken_ranged = held_ranged d.minute (rest (reports_of d)) (rest_holds d g)

  -- the tick: the minute adds where none is due
  abbrev pub after_tick : Bool → Bool → ℕ → List Row → List Report
  after_tick false m e t = reports_of d
  after_tick true true e t = reports_of d
  after_tick true false e t = or_else (reports_of d) (minute_reports e t)

  module _ (e : ℕ) (t : List Row) (few : length t ≤ 32) where
    pub ticked_lists : (b : Bool) → reports_of (ticked b e t d) ≡ after_tick b (ltb d.minute 59) e t
    unfolding ticked
    ticked_lists false = refl
    ticked_lists true = go (ltb d.minute 59)
      where
        go : (m : Bool) → reports_of (cond m (held (suc d.minute) (reports_of d)) (held 0 (or_else (reports_of d) (minute_reports e t)))) ≡ after_tick true m e t
        go true = held_lists (suc d.minute) (reports_of d) (holds d g)
        go false = held_lists 0 (or_else (reports_of d) (minute_reports e t)) (either_holds (reports_of d) (minute_reports e t) (holds d g) (minute_holds e t few))

    pub ticked_ranged : (b : Bool) → Ranged (ticked b e t d)
    unfolding ticked
    ticked_ranged false = g
    ticked_ranged true = go (ltb d.minute 59)
      where
        go : (m : Bool) → Ranged (cond m (held (suc d.minute) (reports_of d)) (held 0 (or_else (reports_of d) (minute_reports e t))))
        go true = held_ranged (suc d.minute) (reports_of d) (holds d g)
        go false = held_ranged 0 (or_else (reports_of d) (minute_reports e t)) (either_holds (reports_of d) (minute_reports e t) (holds d g) (minute_holds e t few))

pub fresh_lists : reports_of fresh_due ≡ []
unfolding fresh_due held reports_of rows_due
fresh_lists = refl

pub fresh_ranged : Ranged fresh_due
unfolding fresh_due held
fresh_ranged = record { attributes = omega arith; slab = omega arith; fan = omega arith }
