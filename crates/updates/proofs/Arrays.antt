-- What owning a queue tells of its array: it has sixteen slots. Assumes nothing.
use mathlib.Core.Path.{◌≡◌}
use mathlib.Core.List.{List}
use lib.ListN.{length}
use mir.Val.{Val}
use denote.Laws.{Is}
use Rattle.updates.specs.declared.queue.Queue.{Queue}
use Rattle.updates.specs.contracts.queue.Queue.{the_row}

pub queue_length : (q : Queue) (vs : List Val) → Is the_row q vs → length q.slots ≡ 16
queue_length q vs p = p.1.1.1.0.1.0.1
