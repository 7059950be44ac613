-- The text of a line fits the room that the program keeps for it, whatever the line and the gateway. Assumes nothing.
use Prim.Native.Nat.{ℕ, zero, suc, ◌+◌, ◌*◌, ◌^◌, ◌≤◌, ◌<◌}
use mathlib.Core.Path.{◌≡◌}
use mathlib.Core.Bool.{Bool, true, false, cond}
use mathlib.Core.List.{List, [], ◌∷◌, map}
use native.Mathlib.Omega.{arith}
use Rattle.std.proofs.Common.{Option, Some, None, is_ok}
use lib.ListN.{length, take, get_or, length-append, length-map, length-take}
use Rattle.lists.specs.Filter.{All, filter}
use Rattle.lists.specs.Overlay.{overlay}
use Rattle.lists.proofs.Overlays.{overlay_take}
use Rattle.lists.proofs.Permutations.{perm_length}
use Rattle.updates.specs.declared.update.Update.{Update}
use Rattle.updates.specs.declared.update.LineField.{LineField}
use Rattle.updates.specs.Update.{named, older, old, young, blank_named, blank_update}
use Rattle.updates.specs.Queue.{waiting}
use Rattle.updates.specs.Tick.{keeping, leaving, listed}
use Rattle.updates.proofs.Slots.{waiting_refill}
use Rattle.updates.proofs.Ticks.{tick_fields}
use Rattle.gateway.specs.declared.gateway.Gateway.{Gateway}
use Rattle.gateway.specs.View.{view}
use Rattle.gateway.specs.Calls.{tick, head_of, head_in, add_row}
use Rattle.gateway.specs.Results.{fresh, adding}
use Rattle.blocks.specs.Block.{feed_of}
use Rattle.script.specs.Place.{Place}
use Rattle.script.specs.declared.names.Call.{Call}
use Rattle.script.specs.declared.names.Call.TheVariants as call
use Rattle.script.specs.Names.{read_call}
use Rattle.script.specs.Reading.{ended, read_number, read_bytes, bytes_after}
use Rattle.script.specs.Arguments.{read_line, read_row, read_field, read_heard, read_date}
use Rattle.script.proofs.Readings.{read_most}
use Rattle.transcript.specs.Answers.{gateway_answer_text, error_answer_text, date_answer_text, plant_answer_text, head_answer_text, tick_answer_text}
use Rattle.transfer.specs.Reading.{read}
use Rattle.transcript.specs.State.{state_text}
use Rattle.transcript.proofs.FieldLengths.{FieldFits}
use Rattle.transcript.proofs.AnswerLengths.{row_most, HeadFits, head_most, tick_most, read_answer_most}
use Rattle.transcript.proofs.BlockSizes.{block_line_most}
use Rattle.transcript.proofs.StateLengths.{StateFits, UpdateFits, state_most}
use Rattle.interpreter.specs.Done.{Done, served, if_good}
use Rattle.interpreter.specs.Bytes.{lent, bytes_done}
use Rattle.interpreter.specs.Ticks.{ticked, tick_said, after_ticks, ticks_said, ticks_done}
use Rattle.interpreter.specs.Calls.{gateway_call, row_done, row_call, byte_call, tick_call, turn_done, turn_call, head_call, error_call, write_said, write_call, dump_call, date_call, plant_call, hand_said, hand_call}
use Rattle.interpreter.specs.Keeping.{gathering, more_call, block_done, block_call, read_done, handover_call}
use Rattle.interpreter.specs.Line.{call_done, run_line}
use Rattle.interpreter.specs.Limits.{longest, most_lent, most_area, most_text}
use Rattle.interpreter.proofs.ReplySizes.{bytes_most, few_held, turn_done_most, write_said_most, hand_said_most}

-- ---- lists by place and by element

module _ {A : Type 0} (P : A → Type 0) (d : A) where
  each_all : (l : List A) → ((i : ℕ) → i < length l → P (get_or l i d)) → All P l
  each_all [] f = tt
  each_all (x ∷ l) f = (f 0 (omega arith), each_all l (λ i h. f (suc i) (omega arith)))

  all_each : (l : List A) → All P l → (i : ℕ) → i < length l → P (get_or l i d)
  all_each [] h i k = absurd (omega arith)
  all_each (x ∷ l) h zero k = h.0
  all_each (x ∷ l) h (suc i) k = all_each l h.1 i (omega arith)

-- ---- ticks: what leaves was waiting

abbrev Fit : List Update → Type 0
Fit l = All (λ u. FieldFits u.field) l

abbrev NamedFit : List LineField → Type 0
NamedFit l = All (λ f. FieldFits f.field) l

leave_fit : (l : List Update) → Fit l → NamedFit (leaving l)
unfolding leaving
leave_fit [] h = tt
leave_fit (u ∷ l) h = go (old (older u)) (leave_fit l h.1)
  where
    go : (t : Bool) → NamedFit (map named (filter old (map older l))) → NamedFit (map named (cond t (older u ∷ filter old (map older l)) (filter old (map older l))))
    go true i = (h.0, i)
    go false i = i

keep_fit : (l : List Update) → Fit l → Fit (keeping l)
unfolding keeping
keep_fit [] h = tt
keep_fit (u ∷ l) h = go (young (older u)) (keep_fit l h.1)
  where
    go : (t : Bool) → Fit (filter young (map older l)) → Fit (cond t (older u ∷ filter young (map older l)) (filter young (map older l)))
    go true i = (h.0, i)
    go false i = i

split_length : (l : List Update) → length (leaving l) + length (keeping l) ≡ length l
split_length l =
    let p = perm_length (tick_fields l) in
    omega (arith, length-append (leaving l) (map named (keeping l)), length-map (keeping l) named, length-map l named)

-- a tick prints at most 69 bytes for each field that leaves
tick_text_most : (place : ℕ) (l : List LineField) → place < 2 ^ 64 → NamedFit l → length (tick_answer_text place l) ≤ 69 * length l
tick_text_most place [] h k = omega arith
tick_text_most place (f ∷ l) h k = omega (arith, tick_most place (f ∷ l) h (all_each (λ x. FieldFits x.field) blank_named (f ∷ l) k))

tick_said_most : (place : ℕ) (g : Gateway) → place < 2 ^ 64 → Fit (waiting g.queue) → length (tick_said place g) ≤ 69 * length (leaving (waiting g.queue))
unfolding tick listed
tick_said_most place g h k =
    let l = leaving (waiting g.queue) in
    rw (overlay_take l) (tick_text_most place l h (leave_fit (waiting g.queue) k))

tick_waiting : (g : Gateway) → waiting (ticked g).queue ≡ keeping (waiting g.queue)
unfolding tick
tick_waiting g = waiting_refill g.queue (keeping (waiting g.queue))

module _ (g : Gateway) (fit : Fit (waiting g.queue)) where
  record Ticking (i : ℕ) : Type 0 where
    fits : Fit (waiting (after_ticks i g).queue)
    said : length (ticks_said i g) + 69 * length (waiting (after_ticks i g).queue) ≤ 69 * length (waiting g.queue)

  ticking : (i : ℕ) → i < 2 ^ 64 → Ticking i
  unfolding after_ticks ticks_said
  ticking zero h = record { fits = fit; said = omega arith }
  ticking (suc i) h = go (ticking i (omega arith))
    where
      go : Ticking i → Ticking (suc i)
      go t =
          let here = after_ticks i g in
          let l = waiting here.queue in
          let w = tick_waiting here in
          let s = tick_said_most (suc i) here h t.fits in
          record {
            fits = rw w (keep_fit l t.fits);
            said = rw w (omega (arith, t.said, s, split_length l, length-append (ticks_said i g) (tick_said (suc i) here)));
          }

-- ---- each call

if_good_most : (n : ℕ) (t : Bool) (g : Gateway) (d : Done) → length d.text ≤ n → length (if_good t g d).text ≤ n
if_good_most n true g d h = h
if_good_most n false g d h = omega arith

head_in_fits : (l : List Update) → ((i : ℕ) → i < length l → UpdateFits (get_or l i blank_update)) → HeadFits (head_in l)
unfolding head_in
head_in_fits [] f = tt
head_in_fits (u ∷ l) f = let h = f 0 (omega arith) in (h.field, h.value)

fields_fit : (l : List Update) → ((i : ℕ) → i < length l → UpdateFits (get_or l i blank_update)) → Fit l
fields_fit l f = each_all (λ u. FieldFits u.field) blank_update l (λ i h. (f i h).field)

taken_few : (l : List ℕ) → length (take longest l) ≤ longest
taken_few l = omega (arith, length-take longest l)

module _ (g : Gateway) (l : List ℕ) (c : Place) where
  byte_fits : StateFits (view g) → length (byte_call g l c).text ≤ most_text
  unfolding byte_call
  byte_fits f =
      let on = read_line l c in
      let size = read_number most_lent l on.next in
      let fed = take longest (bytes_after l size.next) in
      let few = taken_few (bytes_after l size.next) in
      let most = bytes_most on.value size.value g fed (omega (arith, few_held (view g) on.value f, few)) in
      if_good_most most_text (is_ok (read_bytes longest l size.next)) g (bytes_done on.value size.value g fed) (omega (arith, most, few))

  tick_fits : StateFits (view g) → length (tick_call g l c).text ≤ most_text
  unfolding tick_call ticks_done
  tick_fits f =
      let n = read_number 65535 l c in
      let t = ticking g (fields_fit (waiting g.queue) f.updates) n.value (omega (arith, read_most 65535 l c)) in
      if_good_most most_text (ended l n.next) g (ticks_done n.value g) (omega (arith, t.said, f.few_updates))

  turn_fits : length (turn_call g l c).text ≤ most_text
  unfolding turn_call
  turn_fits =
      let size = read_number most_lent l c in
      let named = read_field l size.next in
      let brought = read_heard l named.next in
      if_good_most most_text (ended l brought.next) g (turn_done size.value g named.value brought.value) (omega (arith, turn_done_most size.value g named.value brought.value))

  write_fits : length (write_call g l c).text ≤ most_text
  unfolding write_call
  write_fits =
      let size = read_number most_lent l c in
      let ptype = read_number 255 l size.next in
      let given = take longest (bytes_after l ptype.next) in
      if_good_most most_text (is_ok (read_bytes longest l ptype.next)) g (served g (write_said size.value ptype.value given)) (omega (arith, write_said_most size.value ptype.value given (read_most most_lent l c)))

  row_fits : length (row_call g l c).text ≤ most_text
  unfolding row_call
  row_fits =
      let read = read_row l c in
      if_good_most most_text (ended l read.next) g (row_done g read.value) (omega (arith, row_most (adding g (add_row (view g) read.value)).answer))

  head_fits : StateFits (view g) → length (head_call g l c).text ≤ most_text
  unfolding head_call head_of
  head_fits f = if_good_most most_text (ended l c) g (served g (head_answer_text (head_of (view g)))) (omega (arith, head_most (head_of (view g)) (head_in_fits (waiting g.queue) f.updates)))

  dump_fits : StateFits (view g) → length (dump_call g l c).text ≤ most_text
  unfolding dump_call
  dump_fits f = if_good_most most_text (ended l c) g (served g (state_text (view g))) (omega (arith, state_most (view g) f))

  gateway_fits : length (gateway_call g l c).text ≤ most_text
  unfolding gateway_call
  gateway_fits =
      let firmware = read_number 65535 l c in
      let protocol = read_number 65535 l firmware.next in
      if_good_most most_text (ended l protocol.next) g (served (fresh firmware.value protocol.value) gateway_answer_text) (omega arith)

  error_fits : length (error_call g l c).text ≤ most_text
  unfolding error_call
  error_fits =
      let error = read_number 65535 l c in
      if_good_most most_text (ended l error.next) g (served _ error_answer_text) (omega arith)

  date_fits : length (date_call g l c).text ≤ most_text
  unfolding date_call
  date_fits = if_good_most most_text (ended l c) g (served _ date_answer_text) (omega arith)

  plant_fits : length (plant_call g l c).text ≤ most_text
  unfolding plant_call
  plant_fits = if_good_most most_text (ended l (read_date l c).next) g (served _ plant_answer_text) (omega arith)

  hand_fits : length (hand_call g l c).text ≤ most_text
  unfolding hand_call
  hand_fits =
      let size = read_number most_lent l c in
      let place = read_number 65535 l size.next in
      if_good_most most_text (ended l place.next) g (served g (hand_said size.value g place.value)) (omega (arith, hand_said_most size.value g place.value))

  -- the long calls, with any bytes kept
  module _ (most : ℕ) (kept : List ℕ) where
    more_fits : length (more_call g most kept l c).done.text ≤ most_text
    unfolding more_call
    more_fits = omega arith

    block_fits : StateFits (view g) → length (block_call g most kept l c).done.text ≤ most_text
    unfolding block_call block_done
    block_fits f =
        let on = read_line l c in
        let size = read_number most_area l on.next in
        let x = gathering most kept l size.next in
        let area = overlay (feed_of g on.value x.bytes size.value).replies (lent size.value) in
        let small = read_most most_area l on.next in
        let text = block_line_most on.value g x.bytes size.value area (few_held (view g) on.value f) (omega arith) in
        if_good_most most_text x.good g (block_done on.value size.value g x.bytes) (omega arith)

    handover_fits : length (handover_call g most kept l c).done.text ≤ most_text
    unfolding handover_call
    handover_fits =
        let firmware = read_number 65535 l c in
        let protocol = read_number 65535 l firmware.next in
        let count = read_number 65535 l protocol.next in
        let x = gathering most kept l count.next in
        let handed = read firmware.value protocol.value count.value x.bytes in
        if_good_most most_text x.good g (read_done handed) (omega (arith, read_answer_most handed.answer))

    call_fits : (k : Option Call) → StateFits (view g) → length (call_done k g most kept l c).done.text ≤ most_text
    call_fits (Some call.Nothing) f = omega arith
    call_fits (Some call.Gateway) f = gateway_fits
    call_fits (Some call.Row) f = row_fits
    call_fits (Some call.Byte) f = byte_fits f
    call_fits (Some call.Tick) f = tick_fits f
    call_fits (Some call.Turn) f = turn_fits
    call_fits (Some call.Head) f = head_fits f
    call_fits (Some call.Error) f = error_fits
    call_fits (Some call.Write) f = write_fits
    call_fits (Some call.Dump) f = dump_fits f
    call_fits (Some call.Date) f = date_fits
    call_fits (Some call.Plant) f = plant_fits
    call_fits (Some call.Hand) f = hand_fits
    call_fits (Some call.Read) f = handover_fits
    call_fits (Some call.Block) f = block_fits f
    call_fits (Some call.More) f = more_fits
    call_fits None f = omega arith

-- the text of every line, run on a gateway of the sizes that every gateway has, with any bytes kept
pub line_fits : (g : Gateway) (most : ℕ) (kept l : List ℕ) → StateFits (view g) → length (run_line g most kept l).done.text ≤ most_text
unfolding run_line
line_fits g most kept l f = call_fits g l (read_call l).next most kept (read_call l).value f
