-- What the code hands back: the effect put into the struct, beside the answer; and a fresh gateway.
use Rattle.std.specs.Prelude as std
use Rattle.std.specs.Prelude.{List, ℕ}
use Rattle.tpck.specs.Receive as receive
use Rattle.devices.specs.declared.table.Table.{Table}
use Rattle.devices.specs.declared.table.RowRefusal.{RowRefusal}
use Rattle.devices.specs.Table.{fresh_table}
use Rattle.updates.specs.declared.update.LineField.{LineField}
use Rattle.updates.specs.declared.queue.Queue.{Queue}
use Rattle.updates.specs.Queue.{fresh_queue}
use Rattle.updates.specs.Tick.{listed}
use Rattle.trpc.specs.Properties as properties
use Rattle.gateway.specs.declared.lines.Receivers.{Receivers}
use Rattle.gateway.specs.declared.gateway.Gateway.{Gateway}
use Rattle.gateway.specs.declared.gateway.Added.{Added}
use Rattle.gateway.specs.declared.gateway.Ticked.{Ticked}
use Rattle.gateway.specs.declared.turn.Turned.{Turned}
use Rattle.gateway.specs.declared.admission.Admitted.{Admitted}
use Rattle.gateway.specs.declared.byte.Fed.{Fed}
use Rattle.gateway.specs.declared.answers.ByteAnswer.{ByteAnswer}
use Rattle.gateway.specs.declared.answers.TurnAnswer.{TurnAnswer}
use Rattle.gateway.specs.State.{Result}
use Rattle.gateway.specs.View.{put_table, put_queue, put}

-- (02, M-106) both lines' receivers start fresh
unfoldable pub fresh_receivers : Receivers
fresh_receivers = record { controller = receive.fresh; panel = receive.fresh }

-- (01) no rows, none waiting, fresh receivers; network error and reporting 0, no date, and the owner's numbers
unfoldable pub fresh : ℕ → ℕ → Gateway
fresh firmware protocol =
    record { receivers = fresh_receivers; table = fresh_table; queue = fresh_queue; properties = properties.fresh firmware protocol }

-- (ours) the struct after a row was added or refused, and the answer
abbrev pub adding : Gateway → Result (std.Result (Unit {0}) RowRefusal) → Added
adding g x = record { gateway = put g x.effect; answer = x.answer }

-- (ours) the struct after a tick, and the fields that timed out, each with its line, as an array with a count
abbrev pub ticking : Gateway → Result (List LineField) → Ticked
ticking g x = record { gateway = put g x.effect; fields = listed x.answer }

-- (ours) the struct after a turn, and the answer
abbrev pub turned : Gateway → Result TurnAnswer → Turned
turned g x = record { gateway = put g x.effect; answer = x.answer }

-- (ours) the table and the queue after a turn, and the answer
pub record Tried : Type 0 where
  pub table : Table
  pub queue : Queue
  pub answer : TurnAnswer

-- (ours) those of a turn of a table and a queue
abbrev pub tried : Table → Queue → Result TurnAnswer → Tried
tried t q x = record { table = put_table t x.effect.table; queue = put_queue q x.effect.queue; answer = x.answer }

-- (ours) the queue after steps 3 and 4 of an Update, and the answer
abbrev pub admitted : Queue → Result ByteAnswer → Admitted
admitted q x = record { queue = put_queue q x.effect.queue; answer = x.answer }

-- (ours) the struct after a byte, and the answer
abbrev pub fed : Gateway → Result ByteAnswer → Fed
fed g x = record { gateway = put g x.effect; answer = x.answer }
