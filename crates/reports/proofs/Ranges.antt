-- What owning tells: the masks of due Reports have 32 digits, and a table has at most 32 rows. Assumes nothing.
use Prim.Native.Nat.{◌≤◌}
use native.Mathlib.Omega.{arith}
use lib.ListN.{length, length-take}
use mathlib.Core.List.{List}
use mir.Val.{Val}
use denote.Laws.{Is}
use Rattle.devices.specs.declared.table.Table.{Table}
use Rattle.devices.specs.Table.{rows_of}
use Rattle.devices.proofs.Arrays.{table_length}
use Rattle.devices.specs.contracts.table.Table as own-table
use Rattle.reports.specs.declared.due.DueReports.{DueReports}
use Rattle.reports.proofs.Holding.{Ranged}
use Rattle.reports.specs.contracts.due.DueReports as own-due

pub due_ranged : (d : DueReports) (vs : List Val) → Is own-due.the_row d vs → Ranged d
due_ranged d vs p = record {
  attributes = p.1.1.1.1.0.1;
  slab = p.1.1.1.1.1.0.1;
  fan = p.1.1.1.1.1.1.0.1;
}

pub rows_most : (t : Table) (vs : List Val) → Is own-table.the_row t vs → length (rows_of t) ≤ 32
unfolding rows_of
rows_most t vs p = omega (arith, length-take t.count t.rows, table_length t vs p)
