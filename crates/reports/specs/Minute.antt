-- What a minute makes due, Report by Report, on which tick, and what setting reporting does (document 02, M-105). Proved of every
-- error and rows in proofs/Minutes.antt and proofs/Ticks.antt.
use Rattle.std.specs.Prelude.{ℕ, zero, suc, ◌%◌, ◌<◌, ◌≡◌, Bool, true, false, cond, ltb, length}
use mathlib.Core.List.{List, [], Memᴰ}
use Rattle.devices.specs.declared.row.Row.{Row}
use Rattle.devices.specs.Row.{has_bit}
use Rattle.devices.specs.Table.{row_at}
use Rattle.reports.specs.declared.due.Report.{Report}
use Rattle.reports.specs.declared.due.Report.TheVariants.{NetworkError, DeviceAttributes, SlabSetpoint, FanPercent}
use Rattle.reports.specs.declared.due.DueReports.{DueReports}
use Rattle.reports.specs.Due.{due, reports_of, minute_reports, ticked, enabled}
use Rattle.reports.specs.Order.{Rising}

-- (01) there is a row i, and it has the attribute with this bit
abbrev pub HasAt : List Row → (i bit : ℕ) → Type 0
HasAt t i bit = (i < length t) × (has_bit (row_at t i).mask bit ≡ true)

-- (02) "NetworkError if it is not zero then, and for each device SlabSetpoint (current state) and DeviceAttributes if it has slab,
-- FanPercent (current state) if it has fan"; (01) slab is bit 4, fan 8
abbrev pub Wanted : (error : ℕ) → List Row → Report → Type 0
Wanted e t NetworkError = e ≡ 0 → ⊥
Wanted e t (DeviceAttributes i) = HasAt t i 4
Wanted e t (SlabSetpoint i) = HasAt t i 4
Wanted e t (FanPercent i) = HasAt t i 8

-- (02) these and no others, in the order in which they are sent, none twice
pub record MinuteRight (error : ℕ) (t : List Row) : Type 0 where
  pub only : (x : Report) → Memᴰ x (minute_reports error t) → Wanted error t x
  pub all : (x : Report) → Wanted error t x → Memᴰ x (minute_reports error t)
  pub order : Rising 0 (minute_reports error t)

-- ---- on which tick

-- (02) none due, and no tick of the minute yet
abbrev pub none : DueReports
none = due 0 false 0 0 0

-- (02) so many ticks since reporting was set from 0 to 1, with this error and these rows, and no report call among them
unfoldable pub ticks : ℕ → (error : ℕ) → List Row → DueReports
ticks zero e t = none
ticks (suc n) e t = ticked true e t (ticks n e t)

-- (02) "every sixtieth tick"; "a minute that comes while some are due adds none, and the count of ticks goes on"
pub record TicksRight (error : ℕ) (t : List Row) : Type 0 where
  pub sixtieth : (n : ℕ) → reports_of (ticks n error t) ≡ cond (ltb n 60) [] (minute_reports error t)
  pub goes_on : (n : ℕ) → (ticks n error t).minute ≡ n % 60

-- ---- setting reporting

-- (02) "Setting reporting to 0 clears all; 1 while 1 restarts nothing; 0 to 1 starts the count at 0"
pub record SettingRight (d : DueReports) : Type 0 where
  pub off : (before : Bool) → enabled before false d ≡ none
  pub stays : enabled true true d ≡ d
  pub starts : enabled false true d ≡ none
