-- An effect put into a gateway and read off again. Assumes nothing.
use mathlib.Core.Path.{◌≡◌, refl, ap}
use mathlib.Core.List.{List, [], ◌∷◌}
use mathlib.Core.Option.{Option, none, some}
use Rattle.std.specs.Prelude.{Some, Ok}
use Rattle.lists.proofs.Clash.{clash}
use Rattle.tpck.specs.Receive as receive
use Rattle.tpck.proofs.Theorems.{view_store}
use Rattle.devices.specs.declared.row.Row.{Row}
use Rattle.devices.specs.declared.table.Table.{Table}
use Rattle.devices.specs.Table.{rows_of}
use Rattle.devices.proofs.Rows.{rows_refill}
use Rattle.updates.specs.declared.line.Line.{Line}
use Rattle.updates.specs.declared.line.Line.TheVariants.{Controller, Panel}
use Rattle.updates.specs.declared.update.Update.{Update}
use Rattle.updates.specs.declared.queue.Queue.{Queue}
use Rattle.updates.specs.Update.{line_in}
use Rattle.updates.specs.Queue.{waiting, head_of}
use Rattle.updates.proofs.Slots.{waiting_refill}
use Rattle.gateway.specs.declared.lines.Receivers.{Receivers}
use Rattle.gateway.specs.declared.gateway.Gateway.{Gateway}
use Rattle.gateway.specs.Lines as lines
use Rattle.gateway.specs.Lines.{receiver_of, with_receiver}
use Rattle.gateway.specs.Calls.{head_in}
use Rattle.gateway.specs.State.{LineStep, Effect, or_else, after_line_step, applied}
use Rattle.gateway.specs.View.{receiver_on, receivers_with, view_receivers, view, put_receiver, put_table, put_queue, put}

-- what a line's receiver holds
pub view_on : (r : Receivers) (l : Line) → receiver_of (view_receivers r) l ≡ receive.view (receiver_on r l)
view_on r Controller = refl
view_on r Panel = refl

-- a line's receiver once it has stepped
pub on_same : (r : lines.Receivers) (l : Line) (s : receive.State) → receiver_of (with_receiver r l s) l ≡ s
on_same r Controller s = refl
on_same r Panel s = refl

step_put : (r : Receivers) (l : Line) (s : receive.State)
    → view_receivers (receivers_with r l (receive.store (receiver_on r l) s)) ≡ with_receiver (view_receivers r) l s
step_put r Controller s = λ i. record { controller = view_store r.controller s i; panel = receive.view r.panel }
step_put r Panel s = λ i. record { controller = receive.view r.controller; panel = view_store r.panel s i }

receiver_put : (r : Receivers) (e : Option LineStep) → view_receivers (put_receiver r e) ≡ after_line_step (view_receivers r) e
receiver_put r none = refl
receiver_put r (some s) = step_put r s.line s.next

table_put : (t : Table) (e : Option (List Row)) → rows_of (put_table t e) ≡ or_else (rows_of t) e
table_put t none = refl
table_put t (some l) = rows_refill t l

queue_put : (q : Queue) (e : Option (List Update)) → waiting (put_queue q e) ≡ or_else (waiting q) e
queue_put q none = refl
queue_put q (some l) = waiting_refill q l

pub view_put : (g : Gateway) (e : Effect) → view (put g e) ≡ applied (view g) e
view_put g e = λ i. record {
  receivers = receiver_put g.receivers e.receiver i;
  table = table_put g.table e.table i;
  queue = queue_put g.queue e.queue i;
  properties = or_else g.properties e.properties;
}

-- the head, by what the queue answers
pub head_first : (q : List Update) (u : Update) → head_of q ≡ Some u → head_in q ≡ Ok (record { line = line_in u; field = u.field; value = u.value })
unfolding head_in
head_first [] u e = clash cc
head_first (x ∷ q) u e = let same : x ≡ u = cc in ap (λ (y : Update). Ok (record { line = line_in y; field = y.field; value = y.value })) same
