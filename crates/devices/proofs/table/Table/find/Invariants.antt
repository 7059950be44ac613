-- `devices::Table::find` meets its contract: the loop looks at the rows in order. The invariant: the place among all rows is the
-- place among those from `place` on.
use Rattle.std.proofs.Common.{◌≡◌, ◌-◌, ◌≤◌, length, drop}
use Rattle.lists.specs.Search.{place_from}
use Rattle.devices.specs.Table.{addressed, find}
use Rattle.devices.proofs.Places.{found}
use Rattle.devices.proofs.table.Table.find.Given as goal

abbrev pub invariant-loop-place : goal.invariant-loop-place
invariant-loop-place l = (l.place ≤ length l.rows) × (find l.rows l.address ≡ found (place_from (addressed l.address) (drop l.place l.rows) l.place))

abbrev pub decreases-loop-place : goal.decreases-loop-place
decreases-loop-place l = length l.rows - l.place
