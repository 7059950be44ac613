-- The order in which Reports are sent (document 02, M-105), by numbers: each has one of its own, so a list that rises has none twice.
use Rattle.std.specs.Prelude.{ℕ, suc, ◌+◌, ◌*◌, ◌≤◌, List, [], ◌∷◌}
use Rattle.reports.specs.declared.due.Report.{Report}
use Rattle.reports.specs.declared.due.Report.TheVariants.{NetworkError, DeviceAttributes, SlabSetpoint, FanPercent}

-- (02, M-105) "NetworkError first, then the lowest row still due, within a row in the order of method IDs (0x11F, 0x14F, 0x157)"
abbrev pub order_of : Report → ℕ
order_of NetworkError = 0
order_of (DeviceAttributes i) = 3 * i + 1
order_of (SlabSetpoint i) = 3 * i + 2
order_of (FanPercent i) = 3 * i + 3

-- (02, M-105) in this order from n on, each at most once
abbrev pub Rising : ℕ → List Report → Type 0
Rising n [] = Unit {0}
Rising n (x ∷ l) = (n ≤ order_of x) × Rising (suc (order_of x)) l
