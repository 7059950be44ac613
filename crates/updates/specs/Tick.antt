-- The tick: which updates stay, and the fields of those that leave (document 01's tick, one second).
use Rattle.std.specs.Prelude.{List, map, length, replicate}
use Rattle.lists.specs.Overlay.{overlay}
use Rattle.lists.specs.Filter.{filter}
use Rattle.updates.specs.declared.update.Update.{Update}
use Rattle.updates.specs.declared.update.LineField.{LineField}
use Rattle.updates.specs.declared.queue.Queue.{Queue}
use Rattle.updates.specs.declared.tick.Fields.{Fields}
use Rattle.updates.specs.declared.tick.Ticked.{Ticked}
use Rattle.updates.specs.Update.{named, older, old, young, blank_named}
use Rattle.updates.specs.Queue.{waiting, refill, capacity}

-- (01) all ages rise by 1, and those that reach two minutes leave
unfoldable pub keeping : List Update → List Update
keeping l = filter young (map older l)

-- (01) the fields of those that leave, in the order of the queue, (02, M-106) each with its line
unfoldable pub leaving : List Update → List LineField
leaving l = map named (filter old (map older l))

-- (ours, D-44) a list of fields as an array; after the list it is blank
unfoldable pub listed : List LineField → Fields
listed l = record { count = length l; list = overlay l (replicate capacity blank_named) }

-- (01) the queue with those that stay, and the list of those that leave
unfoldable pub tick : Queue → Ticked
tick q = record { queue = refill q (keeping (waiting q)); fields = listed (leaving (waiting q)) }
