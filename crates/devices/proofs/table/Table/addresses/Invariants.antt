-- `devices::Table::addresses` meets its contract: the loop puts the address of each row in use at the row's place. The invariant:
-- the list has the addresses of the rows passed so far.
use lib.ListN.{take, replicate}
use Rattle.lists.proofs.Filling.{Filled}
use Rattle.devices.proofs.Addresses.{column}
use Rattle.devices.specs.Table.{table_places, rows_of}
use Rattle.devices.proofs.table.Table.addresses.Given as goal

abbrev pub invariant-loop-place : goal.invariant-loop-place
invariant-loop-place l = Filled (replicate table_places 0) (column (take l.place (rows_of l.fn.self))) l.list l.place
