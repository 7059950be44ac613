-- `devices::Row::values_held` meets its contract: the outer loop goes through the seven states, the inner one through cool, slab and
-- fan, and the first value that breaks the rules leaves both. The invariants: all before it are held.
use Rattle.std.proofs.Common.{◌≡◌, true, take}
use Rattle.lists.specs.Filter.{every}
use Rattle.devices.specs.Row.{holds, holds_at}
use Rattle.devices.proofs.row.Row.values_held.Given as goal

abbrev pub invariant-loop-setting : goal.invariant-loop-setting
invariant-loop-setting l = every (holds l.self) (take l.setting-index l.setting-items) ≡ true

abbrev pub invariant-loop-state : goal.invariant-loop-state
invariant-loop-state l = every (holds_at l.self) (take l.state-index l.state-items) ≡ true
