-- The gateway's state in the words of the papers, and the result of a call: the parts that change, the answer, the reply's bytes.
use Rattle.std.specs.Prelude.{List, [], ℕ}
use Rattle.std.proofs.Math.Option.{Option, none, some}
use Rattle.tpck.specs.Receive as receive
use Rattle.devices.specs.declared.row.Row.{Row}
use Rattle.updates.specs.declared.line.Line.{Line}
use Rattle.updates.specs.declared.update.Update.{Update}
use Rattle.trpc.specs.declared.properties.Properties.{Properties}
use Rattle.gateway.specs.Lines.{Receivers, with_receiver}

-- (01) the rows in the order added, the updates that wait with the head first, and what the gateway holds itself; (02, M-106) the
-- receiver of each line
pub record State : Type 0 where
  pub receivers : Receivers
  pub table : List Row
  pub queue : List Update
  pub properties : Properties

-- (ours) the receiver of a line steps to another state
pub record LineStep : Type 0 where
  pub line : Line
  pub next : receive.State

-- (ours) the receiver that steps, and the new value of each other part that a call changes; `none` where it stays
pub record Effect : Type 0 where
  pub receiver : Option LineStep
  pub table : Option (List Row)
  pub queue : Option (List Update)
  pub properties : Option Properties

-- (ours) no part changes: every refusal, and a byte that does nothing, a receiver's own step (`after_step`) left aside
abbrev pub nothing : Effect
nothing = record { receiver = none; table = none; queue = none; properties = none }

-- (ours) the rows change alone: a row is added
abbrev pub new_table : List Row → Effect
new_table t = record { receiver = none; table = some t; queue = none; properties = none }

-- (ours) the queue changes alone: an update is queued, goes to the tail, or times out
abbrev pub new_queue : List Update → Effect
new_queue q = record { receiver = none; table = none; queue = some q; properties = none }

-- (ours) the properties change alone: by an Update that is answered at once, or by the owner
abbrev pub new_properties : Properties → Effect
new_properties s = record { receiver = none; table = none; queue = none; properties = some s }

-- (ours) rows and queue change together: a confirmed value is stored and its update leaves
abbrev pub new_table_queue : List Row → List Update → Effect
new_table_queue t q = record { receiver = none; table = some t; queue = some q; properties = none }

-- (ours) an effect after the step of a line's receiver to r
abbrev pub after_step : Line → receive.State → Effect → Effect
after_step l r e = record { receiver = some (record { line = l; next = r }); table = e.table; queue = e.queue; properties = e.properties }

-- (ours) a part after an effect: the new value, or the old one where the effect has none
abbrev pub or_else : {A : Type 0} → A → Option A → A
or_else x none = x
or_else x (some y) = y

-- (ours) the receivers after an effect: the one that steps is at its new state
abbrev pub after_line_step : Receivers → Option LineStep → Receivers
after_line_step r none = r
after_line_step r (some s) = with_receiver r s.line s.next

-- (ours) the state after an effect
abbrev pub applied : State → Effect → State
applied g e =
    record {
      receivers = after_line_step g.receivers e.receiver;
      table = or_else g.table e.table;
      queue = or_else g.queue e.queue;
      properties = or_else g.properties e.properties;
    }

-- (ours) the result of a call: its effect, its answer and the bytes of its reply (none where there is no reply)
pub record Result (A : Type 0) : Type 0 where
  pub effect : Effect
  pub answer : A
  pub reply : List ℕ

-- (ours) a call that writes no reply
abbrev pub result : {A : Type 0} → Effect → A → Result A
result e a = record { effect = e; answer = a; reply = [] }

-- (ours) a call that writes a reply of these bytes
abbrev pub replying : {A : Type 0} → Effect → A → List ℕ → Result A
replying e a bytes = record { effect = e; answer = a; reply = bytes }
