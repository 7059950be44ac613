-- `devices::Table::addresses` meets its contract: the loop puts the address of each row in use at the row's place. The invariant:
-- the list has the addresses of the rows passed so far.
use Prim.Native.Nat.{◌<◌, ◌≤◌}
use lib.ListN.{length, replicate, get_or}
use mathlib.Core.List.{List}
use mathlib.Core.Path.{ap, ◌∙◌}
use native.Mathlib.Omega.{arith}
use Rattle.std.proofs.Common.{rules}
use Rattle.lists.proofs.Filling.{filled_none, filled_next}
use Rattle.devices.proofs.Addresses.{column_next, column_all}
use Rattle.devices.proofs.Rows.{used_most}
use Rattle.devices.specs.Table.{table_places, rows_of}
use Rattle.devices.specs.declared.row.Row.{Row}
use Rattle.devices.proofs.table.Table.addresses.Goals as goal

pub loop-place-init : goal.loop-place-init
loop-place-init c = filled_none (replicate table_places 0)

pub bounds-list-place : goal.bounds-list-place
bounds-list-place c = omega (arith, used_most c.args.self (search rules), ap length c.in_use-row-items.ensures)

pub loop-place-preserved : goal.loop-place-preserved
loop-place-preserved c =
    let h : c.loop-place.place < length (rows_of c.args.self) = rw c.in_use-row-items.ensures at c.loop-place-test.true in
    filled_next c.loop-place.invariant _ (omega (arith, used_most c.args.self (search rules), h))
    (ap (λ (l : List Row). (get_or l c.loop-place.place _).address) c.in_use-row-items.ensures)
    (column_next (rows_of c.args.self) c.loop-place.place _ h)

pub returns : goal.returns
returns c =
    let h : length (rows_of c.args.self) ≤ c.loop-place.place = rw c.in_use-row-items.ensures at c.loop-place-test.false in
    c.loop-place.invariant.laid ∙ column_all c.args.self c.loop-place.place h
