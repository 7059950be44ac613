-- The state that a gateway of the code holds, and an effect put into it.
use Rattle.trpc.specs.Properties as properties
use Rattle.std.specs.Prelude.{List}
use Rattle.std.proofs.Math.Option.{Option, none, some}
use Rattle.tpck.specs.declared.receiver.Receiver.{Receiver}
use Rattle.tpck.specs.Receive as receive
use Rattle.devices.specs.declared.row.Row.{Row}
use Rattle.devices.specs.declared.table.Table.{Table}
use Rattle.devices.specs.Table.{rows_of, refill_rows}
use Rattle.updates.specs.declared.line.Line.{Line}
use Rattle.updates.specs.declared.line.Line.TheVariants.{Controller, Panel}
use Rattle.updates.specs.declared.update.Update.{Update}
use Rattle.updates.specs.declared.queue.Queue.{Queue}
use Rattle.updates.specs.Queue.{waiting, refill}
use Rattle.gateway.specs.declared.lines.Receivers.{Receivers}
use Rattle.gateway.specs.declared.gateway.Gateway.{Gateway}
use Rattle.gateway.specs.Lines as lines
use Rattle.gateway.specs.State.{State, LineStep, Effect, or_else}

-- (02, M-106) the receiver of a line
abbrev pub receiver_on : Receivers → Line → Receiver
receiver_on r Controller = r.controller
receiver_on r Panel = r.panel

-- (02, M-106) another receiver on a line; the other line's stays
abbrev pub receivers_with : Receivers → Line → Receiver → Receivers
receivers_with r Controller x = record { controller = x; panel = r.panel }
receivers_with r Panel x = record { controller = r.controller; panel = x }

-- (ours) what both receivers hold
abbrev pub view_receivers : Receivers → lines.Receivers
view_receivers r = record { controller = receive.view r.controller; panel = receive.view r.panel }

-- (ours, D-43) the state, for every value of the struct: counts over an array's length count as that length
abbrev pub view : Gateway → State
view g = record { receivers = view_receivers g.receivers; table = rows_of g.table; queue = waiting g.queue; properties = g.properties }

-- (ours) the state by which a turn goes: it reads the rows and the updates, and no other part (`turn_joined`); the others are those
-- of a fresh gateway
abbrev pub turn_view : Table → Queue → State
turn_view t q = record { receivers = lines.both_fresh; table = rows_of t; queue = waiting q; properties = properties.fresh 0 0 }

-- (ours) the receivers with one at a new state, where the effect names one
abbrev pub put_receiver : Receivers → Option LineStep → Receivers
put_receiver r none = r
put_receiver r (some s) = receivers_with r s.line (receive.store (receiver_on r s.line) s.next)

-- (ours, D-43) the table with new rows in front, where the effect names them; the places after them stay
abbrev pub put_table : Table → Option (List Row) → Table
put_table t none = t
put_table t (some l) = refill_rows t l

-- (ours, D-43) the queue with new updates in front, where the effect names them; the slots after them stay
abbrev pub put_queue : Queue → Option (List Update) → Queue
put_queue q none = q
put_queue q (some l) = refill q l

-- (ours) the gateway with the parts that the effect names, all others as they are
abbrev pub put : Gateway → Effect → Gateway
put g e =
    record {
      receivers = put_receiver g.receivers e.receiver;
      table = put_table g.table e.table;
      queue = put_queue g.queue e.queue;
      properties = or_else g.properties e.properties;
    }
