-- What owning a list of fields, and the counts of a block, tells: how many elements its array has. Assumes nothing.
use mathlib.Core.Path.{◌≡◌}
use mathlib.Core.List.{List}
use lib.ListN.{length}
use mir.Val.{Val}
use denote.Laws.{Is}
use Rattle.updates.specs.declared.tick.Fields.{Fields}
use Rattle.updates.specs.Queue.{capacity}
use Rattle.updates.specs.contracts.tick.Fields as own-fields
use Rattle.blocks.specs.declared.counts.Counts.{Counts}
use Rattle.blocks.specs.contracts.counts.Counts as own-counts

pub list_length : (f : Fields) (vs : List Val) → Is own-fields.the_row f vs → length f.list ≡ capacity
list_length f vs p = p.1.1.1.0.1.0.1

pub numbers_length : (c : Counts) (vs : List Val) → Is own-counts.the_row c vs → length c.numbers ≡ 14
numbers_length c vs p = p.1.1.0.1.0.1
