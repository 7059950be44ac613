-- What owning a table tells of its array: it has 32 rows. Assumes nothing.
use mathlib.Core.Path.{◌≡◌}
use mathlib.Core.List.{List}
use lib.ListN.{length}
use mir.Val.{Val}
use denote.Laws.{Is}
use Rattle.devices.specs.declared.table.Table.{Table}
use Rattle.devices.specs.contracts.table.Table.{the_row}

pub table_length : (t : Table) (vs : List Val) → Is the_row t vs → length t.rows ≡ 32
table_length t vs p = p.1.1.1.0.1.0.1
