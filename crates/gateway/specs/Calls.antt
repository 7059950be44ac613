-- The calls that lend no buffer: adding a row, a tick, reading the head, setting the network error, checking the stored date.
use Rattle.std.specs.Prelude as std
use Rattle.std.specs.Prelude.{List, [], ◌∷◌, ◌++◌, ℕ, Ok, Err}
use Rattle.devices.specs.declared.row.Row.{Row}
use Rattle.devices.specs.declared.table.RowRefusal.{RowRefusal}
use Rattle.devices.specs.Table.{row_answer}
use Rattle.updates.specs.declared.update.Update.{Update}
use Rattle.updates.specs.declared.update.LineField.{LineField}
use Rattle.updates.specs.Update.{line_in}
use Rattle.updates.specs.Tick.{keeping, leaving}
use Rattle.trpc.specs.Properties.{with_error, with_checked_date}
use Rattle.gateway.specs.declared.answers.Waiting.{Waiting}
use Rattle.gateway.specs.declared.answers.HeadRefusal.{HeadRefusal}
use Rattle.gateway.specs.declared.answers.HeadRefusal.TheVariants.{NoneWaits}
use Rattle.gateway.specs.State.{State, nothing, new_table, new_queue, new_properties, Result, result}

-- (01) 19, 20, 21, or the row after the last
unfoldable pub add_row_by : State → Row → std.Result (Unit {0}) RowRefusal → Result (std.Result (Unit {0}) RowRefusal)
add_row_by g r (Ok u) = result (new_table (g.table ++ (r ∷ []))) (Ok u)
add_row_by g r (Err e) = result nothing (Err e)

-- (01) a row is offered: whether it is added is asked of the rows there are
unfoldable pub add_row : State → Row → Result (std.Result (Unit {0}) RowRefusal)
add_row g r = add_row_by g r (row_answer g.table r)

-- (01) all ages rise by 1; those that reach 120 leave, and their fields are listed, (02, M-106) each with its line
unfoldable pub tick : State → Result (List LineField)
tick g = result (new_queue (keeping g.queue)) (leaving g.queue)

-- (01) the head's field and the value asked for, (02, M-106) with its line; 17 with none waiting
unfoldable pub head_in : List Update → std.Result Waiting HeadRefusal
head_in [] = Err NoneWaits
head_in (u ∷ q) = Ok (record { line = line_in u; field = u.field; value = u.value })

-- (01) reading the head changes nothing, so it is an answer alone
unfoldable pub head_of : State → std.Result Waiting HeadRefusal
head_of g = head_in g.queue

-- (01) the owner may set the network error at any time
unfoldable pub set_network_error : State → ℕ → Result (Unit {0})
set_network_error g n = result (new_properties (with_error g.properties n)) tt

-- (02, M-101) the owner has the stored date checked: one that is neither valid nor NA becomes NA, and nothing else changes; (ours,
-- D-85) it answers nothing and is never refused
unfoldable pub check_date : State → Result (Unit {0})
check_date g = result (new_properties (with_checked_date g.properties)) tt
