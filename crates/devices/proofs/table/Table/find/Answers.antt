-- `devices::Table::find` meets its contract, at the start of the loop: the place among all rows is std's.
use Rattle.std.proofs.Common.{arith}
use Rattle.devices.specs.Table.{addressed, find}
use Rattle.devices.proofs.Places.{position_is}
use Rattle.devices.proofs.table.Table.find.Goals as goal

pub loop-place-init : goal.loop-place-init
unfolding find
loop-place-init c = (omega arith, position_is (addressed c.args.address) c.in_use-rows.result.now)
