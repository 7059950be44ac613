-- What owning a gateway tells: the sizes that bound its text. Assumes nothing.
use Prim.Native.Nat.{ℕ, zero, suc, ◌^◌, ◌≤◌, ◌<◌}
use mathlib.Core.Path.{sym, subst}
use mathlib.Core.Bool.{Bool, true, false}
use mathlib.Core.List.{List, [], ◌∷◌}
use native.Mathlib.Omega.{arith}
use lib.ListN.{length, take, get_or, length-take}
use lib.Seq.{get_or-take}
use mir.Val.{Val}
use denote.Laws.{Is}
use denote.Array.{each}
use denote.Shadow.{shadow}
use Rattle.lists.proofs.Arrays.{array_length, array_below}
use Rattle.tpck.specs.declared.receiver.Receiver.{Receiver}
use Rattle.tpck.specs.Receive as receive
use Rattle.tpck.specs.contracts.receiver.Receiver as own_receiver
use Rattle.tpck.proofs.Owned.{receiver_length}
use Rattle.devices.specs.declared.field.Field.{Field}
use Rattle.devices.specs.declared.row.Row.{Row}
use Rattle.devices.specs.declared.table.Table.{Table}
use Rattle.devices.specs.Row.{state_count, blank_row}
use Rattle.devices.specs.Table.{table_places, rows_of}
use Rattle.devices.specs.contracts.field.Field as own_field
use Rattle.devices.specs.contracts.row.Row as own_row
use Rattle.devices.specs.contracts.table.Table as own_table
use Rattle.devices.proofs.Arrays.{table_length}
use Rattle.updates.specs.declared.update.Update.{Update}
use Rattle.updates.specs.declared.queue.Queue.{Queue}
use Rattle.updates.specs.Update.{blank_update}
use Rattle.updates.specs.Queue.{capacity, waiting}
use Rattle.updates.specs.contracts.update.Update as own_update
use Rattle.updates.specs.contracts.queue.Queue as own_queue
use Rattle.updates.proofs.Arrays.{queue_length}
use Rattle.trpc.specs.declared.properties.Properties.{Properties}
use Rattle.trpc.specs.contracts.properties.Properties as own_properties
use Rattle.gateway.specs.declared.gateway.Gateway.{Gateway}
use Rattle.gateway.specs.View.{view}
use Rattle.gateway.specs.contracts.gateway.Gateway as own_gateway
use Rattle.transcript.specs.State.{properties_numbers, row_numbers, flag_number}
use Rattle.transcript.proofs.FieldLengths.{Below, FieldFits}
use Rattle.transcript.proofs.StateLengths.{RowFits, UpdateFits, StateFits}

-- ---- numbers of at most 32 bits, one more in front at a time

none : Below (2 ^ 64) []
none = record { each = λ i. omega arith }

one_more : (n : ℕ) (l : List ℕ) → n < 2 ^ 32 → Below (2 ^ 64) l → Below (2 ^ 64) (n ∷ l)
one_more n l h k = record { each = go }
  where
    go : (i : ℕ) → get_or (n ∷ l) i 0 < 2 ^ 64
    go zero = omega arith
    go (suc i) = k.each i

wide8 : {n : ℕ} → n < 2 ^ 8 → n < 2 ^ 32
wide8 h = omega arith

wide16 : {n : ℕ} → n < 2 ^ 16 → n < 2 ^ 32
wide16 h = omega arith

-- ---- a row

row_fits : (r : Row) (vs : List Val) → Is own_row.the_row r vs → RowFits r
unfolding row_numbers
row_fits r vs p =
    let address = p.1.1 in
    let version = address.1 in
    let mask = version.1 in
    let mode = mask.1 in
    let state = mode.1 in
    let events = state.1 in
    let cool = events.1 in
    let slab = cool.1 in
    let fan = slab.1 in
    record {
      numbers =
          one_more r.address _ (wide16 address.0.1)
          (one_more r.version _ version.0.1
          (one_more r.mask _ (wide16 mask.0.1)
          (one_more r.mode _ (wide8 mode.0.1)
          (one_more r.state _ (wide8 state.0.1)
          (one_more r.events _ (wide8 events.0.1) none)))));
      cool = record { seven = array_length state_count r.cool _ cool.0; small = record { each = array_below state_count r.cool _ cool.0 } };
      slab = record { seven = array_length state_count r.slab _ slab.0; small = record { each = array_below state_count r.slab _ slab.0 } };
      fan = record { seven = array_length state_count r.fan _ fan.0; small = record { each = array_below state_count r.fan _ fan.0 } };
    }

each_row : (rows : List Row) (us : List Val) → shadow (each (own_row.the_row).Denot (own_row.the_row).own_val rows us) → (i : ℕ) → i < length rows → RowFits (get_or rows i blank_row)
each_row [] us p i h = absurd (omega arith)
each_row (r ∷ rows) [] p i h = absurd p
each_row (r ∷ rows) (u ∷ us) p zero h = row_fits r (u ∷ []) p.0
each_row (r ∷ rows) (u ∷ us) p (suc i) h = each_row rows us p.1 i (omega arith)

-- ---- an update

field_fits : (f : Field) (vs : List Val) → Is own_field.the_row f vs → FieldFits f
field_fits f vs p =
    let address : f.address < 2 ^ 16 = p.1.1.0.1 in
    record { address = omega arith; state = p.1.1.1.1.0.1 }

update_fits : (u : Update) (vs : List Val) → Is own_update.the_row u vs → UpdateFits u
update_fits u vs p =
    let line = p.1.1 in
    let field = line.1 in
    let value = field.1 in
    record { field = field_fits u.field _ field.0; value = value.0.1; age = value.1.0.1 }

each_update : (l : List Update) (us : List Val) → shadow (each (own_update.the_row).Denot (own_update.the_row).own_val l us) → (i : ℕ) → i < length l → UpdateFits (get_or l i blank_update)
each_update [] us p i h = absurd (omega arith)
each_update (u ∷ l) [] p i h = absurd p
each_update (u ∷ l) (v ∷ vs) p zero h = update_fits u (v ∷ []) p.0
each_update (u ∷ l) (v ∷ vs) p (suc i) h = each_update l vs p.1 i (omega arith)

-- ---- the parts of a gateway

module _ {A : Type 0} (P : A → Type 0) (d : A) (l : List A) (fits : (i : ℕ) → i < length l → P (get_or l i d)) where
  -- of the first n too
  first_fit : (n i : ℕ) → i < length (take n l) → P (get_or (take n l) i d)
  first_fit n i h =
      let k = length-take n l in
      subst P (sym (get_or-take n l i d (omega arith))) (fits i (omega arith))

module _ (t : Table) (vs : List Val) (p : Is own_table.the_row t vs) where
  table_few : length (rows_of t) ≤ table_places
  unfolding rows_of
  table_few = omega (arith, length-take t.count t.rows, table_length t vs p)

  table_fits : (i : ℕ) → i < length (rows_of t) → RowFits (get_or (rows_of t) i blank_row)
  unfolding rows_of
  table_fits = first_fit RowFits blank_row t.rows (each_row t.rows _ p.1.1.1.0.1.1) t.count

module _ (q : Queue) (vs : List Val) (p : Is own_queue.the_row q vs) where
  queue_few : length (waiting q) ≤ capacity
  unfolding waiting
  queue_few = omega (arith, length-take q.count q.slots, queue_length q vs p)

  queue_fits : (i : ℕ) → i < length (waiting q) → UpdateFits (get_or (waiting q) i blank_update)
  unfolding waiting
  queue_fits = first_fit UpdateFits blank_update q.slots (each_update q.slots _ p.1.1.1.0.1.1) q.count

flag_fits : (on : Bool) → flag_number on < 2 ^ 32
flag_fits true = omega arith
flag_fits false = omega arith

properties_fits : (s : Properties) (vs : List Val) → Is own_properties.the_row s vs → Below (2 ^ 64) (properties_numbers s)
unfolding properties_numbers
properties_fits s vs p =
    let error = p.1.1 in
    let firmware = error.1.1 in
    let protocol = firmware.1 in
    let date = protocol.1 in
    let year = date.0.1.1 in
    let month = year.1 in
    let day = month.1 in
    let weekday = day.1 in
    let hour = weekday.1 in
    let minute = hour.1 in
    one_more s.error _ (wide16 error.0.1)
    (one_more (flag_number s.reporting) _ (flag_fits s.reporting)
    (one_more s.firmware _ (wide16 firmware.0.1)
    (one_more s.protocol _ (wide16 protocol.0.1)
    (one_more s.date.year _ (wide16 year.0.1)
    (one_more s.date.month _ (wide8 month.0.1)
    (one_more s.date.day _ (wide8 day.0.1)
    (one_more s.date.weekday _ (wide8 weekday.0.1)
    (one_more s.date.hour _ (wide8 hour.0.1)
    (one_more s.date.minute _ (wide8 minute.0.1) none)))))))))

body_fits : (r : Receiver) (vs : List Val) → Is own_receiver.the_row r vs → length (receive.view r).body ≤ 258
body_fits r vs p = omega (arith, length-take r.len r.bytes, receiver_length r vs p)

-- the state of every gateway has these sizes, so its text has at most 8,192 bytes
pub gateway_fits : (g : Gateway) (vs : List Val) → Is own_gateway.the_row g vs → StateFits (view g)
gateway_fits g vs p =
    let receivers = p.1.1 in
    let table = receivers.1 in
    let queue = table.1 in
    let properties = queue.1 in
    let controller = receivers.0.1.1 in
    let panel = controller.1 in
    record {
      controller = body_fits g.receivers.controller _ controller.0;
      panel = body_fits g.receivers.panel _ panel.0;
      properties = properties_fits g.properties _ properties.0;
      few_rows = table_few g.table _ table.0;
      rows = table_fits g.table _ table.0;
      few_updates = queue_few g.queue _ queue.0;
      updates = queue_fits g.queue _ queue.0;
    }
