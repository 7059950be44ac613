-- The Reports that are due (document 02, M-105): the list in the order sent, the masks that hold it, and what a tick, a Report sent
-- and setting reporting make of them.
use Rattle.std.specs.Prelude.{Option, Some, None, ℕ, zero, suc, ◌+◌, ◌/◌, ◌%◌, ◌^◌, Bool, true, false, not, cond, List, [], ◌∷◌, eqb, ltb}
use Rattle.devices.specs.declared.row.Row.{Row}
use Rattle.devices.specs.Row.{has_bit, slab, fan}
use Rattle.reports.specs.Mask.{if_set}
use Rattle.reports.specs.declared.due.Report.{Report}
use Rattle.reports.specs.declared.due.Report.TheVariants.{NetworkError, DeviceAttributes, SlabSetpoint, FanPercent}
use Rattle.reports.specs.declared.due.DueReports.{DueReports}
use Rattle.reports.specs.declared.due.Taken.{Taken}

-- ---- the list that the masks hold

-- (02, M-105) of k rows from row i on, by the masks of attributes, slab and fan: the lowest row first, "within a row in the order of
-- method IDs", 0x11F, 0x14F, 0x157
unfoldable pub rows_due : (k i attributes slab fan : ℕ) → List Report
rows_due zero i a s f = []
rows_due (suc k) i a s f =
    if_set (a % 2) (DeviceAttributes i)
    (if_set (s % 2) (SlabSetpoint i)
    (if_set (f % 2) (FanPercent i)
    (rows_due k (suc i) (a / 2) (s / 2) (f / 2))))

-- (02, M-105) "NetworkError first"
abbrev pub error_due : Bool → List Report → List Report
error_due e l = cond e (NetworkError ∷ l) l

-- (02, M-105) the due Reports, in the order sent; there are 32 rows
unfoldable pub reports_of : DueReports → List Report
reports_of d = error_due d.error (rows_due 32 0 d.attributes d.slab d.fan)

-- (ours) the struct by its parts
abbrev pub due : (minute : ℕ) → (error : Bool) → (attributes slab fan : ℕ) → DueReports
due m e a s f = record { minute = m; error = e; attributes = a; slab = s; fan = f }

-- (ours) one Report more
abbrev pub with_report : Report → DueReports → DueReports
with_report NetworkError d = due d.minute true d.attributes d.slab d.fan
with_report (DeviceAttributes i) d = due d.minute d.error (2 ^ i + d.attributes) d.slab d.fan
with_report (SlabSetpoint i) d = due d.minute d.error d.attributes (2 ^ i + d.slab) d.fan
with_report (FanPercent i) d = due d.minute d.error d.attributes d.slab (2 ^ i + d.fan)

-- (ours) the struct that holds these Reports, with so many ticks of the minute
unfoldable pub held : ℕ → List Report → DueReports
held m [] = due m false 0 0 0
held m (x ∷ l) = with_report x (held m l)

-- (02, M-105) none due, the minute anew
unfoldable pub fresh_due : DueReports
fresh_due = held 0 []

-- ---- a Report is sent

-- (02, M-105) the first, where there is one
abbrev pub first_of : List Report → Option Report
first_of [] = None
first_of (x ∷ l) = Some x

-- (02, M-105) those behind the first: they remain due
abbrev pub rest : List Report → List Report
rest [] = []
rest (x ∷ l) = l

-- (ours) this Report, and what is due without it
abbrev pub first : Report → DueReports → Taken
first x d = record { next = Some x; due = d }

-- (02, M-105) the first is out, the others stay, and the count of ticks too
unfoldable pub taking : DueReports → Taken
taking d = record { next = first_of (reports_of d); due = held d.minute (rest (reports_of d)) }

-- ---- a tick

-- (01) the device has the attribute
abbrev pub with_bit : ℕ → Row → Bool
with_bit bit r = has_bit r.mask bit

-- (02, M-105) of row i: "SlabSetpoint and DeviceAttributes if it has slab, FanPercent if it has fan"; those of the rows behind follow
abbrev pub row_reports : ℕ → (slabs fans : Bool) → List Report → List Report
row_reports i slabs fans l =
    cond slabs (DeviceAttributes i ∷ SlabSetpoint i ∷ cond fans (FanPercent i ∷ l) l) (cond fans (FanPercent i ∷ l) l)

-- (02, M-105) of the rows, of which the first is row i
abbrev pub table_reports : ℕ → List Row → List Report
table_reports i [] = []
table_reports i (r ∷ l) = row_reports i (with_bit slab r) (with_bit fan r) (table_reports (suc i) l)

-- (02, M-105) what a minute makes due: "NetworkError if it is not zero then", and each device's
unfoldable pub minute_reports : (error : ℕ) → List Row → List Report
minute_reports e t = error_due (not (eqb e 0)) (table_reports 0 t)

-- (02, M-105) "a minute that comes while some are due adds none"
abbrev pub or_else : List Report → (made : List Report) → List Report
or_else [] made = made
or_else (x ∷ l) made = x ∷ l

-- (02, M-105) while reporting, the sixtieth tick makes due, "and the count of ticks goes on"; (ours, D-122) without reporting nothing is
-- counted, and a count above 59, which no call leaves, counts as 59
unfoldable pub ticked : (reporting : Bool) → (error : ℕ) → List Row → DueReports → DueReports
ticked false e t d = d
ticked true e t d =
    cond (ltb d.minute 59) (held (suc d.minute) (reports_of d))
    (held 0 (or_else (reports_of d) (minute_reports e t)))

-- ---- setting reporting

-- (02, M-105) from what it was to what it is: "0 clears all; 1 while 1 restarts nothing; 0 to 1 starts the count at 0"
abbrev pub enabled : (before after : Bool) → DueReports → DueReports
enabled false after d = fresh_due
enabled true false d = fresh_due
enabled true true d = d
