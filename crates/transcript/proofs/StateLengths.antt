-- The text of a state has at most 8,192 bytes. Assumes nothing.
use Prim.Native.Nat.{ℕ, ◌^◌, ◌≤◌, ◌<◌}
use mathlib.Core.Path.{◌≡◌, refl}
use mathlib.Core.Bool.{Bool, true, false, cond}
use mathlib.Core.List.{List, [], ◌∷◌, ◌++◌}
use native.Mathlib.Omega.{arith}
use lib.ListN.{length, get_or, length-append}
use Rattle.text.specs.Place.{space, newline}
use Rattle.text.specs.Texts.{texts}
use Rattle.text.specs.Words.{row_word}
use Rattle.text.proofs.Texts.{texts_most}
use Rattle.tpck.specs.Receive as receiver
use Rattle.devices.specs.declared.row.Row.{Row}
use Rattle.devices.specs.Row.{state_count, blank_row}
use Rattle.devices.specs.Table.{table_places}
use Rattle.updates.specs.declared.line.Line.{Line}
use Rattle.updates.specs.declared.line.Line.TheVariants.{Controller, Panel}
use Rattle.updates.specs.declared.update.Update.{Update}
use Rattle.updates.specs.Update.{line_in, blank_update}
use Rattle.updates.specs.Queue.{capacity}
use Rattle.trpc.specs.declared.properties.Properties.{Properties}
use Rattle.gateway.specs.Lines.{Receivers}
use Rattle.gateway.specs.State.{State}
use Rattle.transcript.specs.Words.{receiver_word, inside_word, hunting_word, escape_word, plain_word, settings_word, waiting_word}
use Rattle.transcript.specs.Lines.{line_text}
use Rattle.transcript.specs.Fields.{number_text, numbers_text, line_field_text}
use Rattle.transcript.specs.Answers.{last_text}
use Rattle.transcript.specs.State.{body_length, receiver_text, receivers_text, properties_numbers, properties_text, row_numbers, row_values_text, row_text, update_text, carried_text, state_text}
use Rattle.transcript.proofs.FieldLengths.{Below, FieldFits, last_most, small_most, small_last_most, numbers_most, values_most, line_most, line_field_most}

-- seven values of 8 bits
pub record Seven (l : List ℕ) : Type 0 where
  pub seven : length l ≡ state_count
  pub small : Below 256 l

pub record RowFits (r : Row) : Type 0 where
  pub numbers : Below (2 ^ 64) (row_numbers r)
  pub cool : Seven r.cool
  pub slab : Seven r.slab
  pub fan : Seven r.fan

pub record UpdateFits (u : Update) : Type 0 where
  pub field : FieldFits u.field
  pub value : u.value < 256
  pub age : u.age < 256

-- the sizes that the parts of a gateway's struct have
pub record StateFits (s : State) : Type 0 where
  pub controller : length s.receivers.controller.body ≤ 258
  pub panel : length s.receivers.panel.body ≤ 258
  pub properties : Below (2 ^ 64) (properties_numbers s.properties)
  pub few_rows : length s.table ≤ table_places
  pub rows : (i : ℕ) → i < length s.table → RowFits (get_or s.table i blank_row)
  pub few_updates : length s.queue ≤ capacity
  pub updates : (i : ℕ) → i < length s.queue → UpdateFits (get_or s.queue i blank_update)

either_most : (first : Bool) (one other : List ℕ) (most : ℕ) → length one ≤ most → length other ≤ most → length (cond first one other) ≤ most
either_most true one other most h k = h
either_most false one other most h k = k

body_most : (s : receiver.State) → body_length s ≤ length s.body
unfolding body_length
body_most s = go s.inside
  where
    go : (inside : Bool) → cond inside (length s.body) 0 ≤ length s.body
    go true = omega arith
    go false = omega arith

receiver_most : (l : Line) (s : receiver.State) → length s.body ≤ 258 → length (receiver_text l s) ≤ 56
unfolding receiver_text
receiver_most l s h =
    let t0 = receiver_word ++ space ∷ line_text l in
    let t1 = cond s.inside (space ∷ inside_word) (space ∷ hunting_word) in
    let t2 = cond s.escaped (space ∷ escape_word) (space ∷ plain_word) in
    let last = last_text (body_length s) in
    let small = body_most s in
    omega (
      arith,
      length-append (t0 ++ t1 ++ t2) last,
      length-append (t0 ++ t1) t2,
      length-append t0 t1,
      line_most l,
      either_most s.inside (space ∷ inside_word) (space ∷ hunting_word) 8 (omega arith) (omega arith),
      either_most s.escaped (space ∷ escape_word) (space ∷ plain_word) 7 (omega arith) (omega arith),
      last_most (body_length s) (omega arith),
    )

receivers_most : (r : Receivers) → length r.controller.body ≤ 258 → length r.panel.body ≤ 258 → length (receivers_text r) ≤ 112
unfolding receivers_text
receivers_most r h k =
    omega (
      arith,
      length-append (receiver_text Controller r.controller) (receiver_text Panel r.panel),
      receiver_most Controller r.controller h,
      receiver_most Panel r.panel k,
    )

ten_numbers : (s : Properties) → length (properties_numbers s) ≡ 10
unfolding properties_numbers
ten_numbers s = refl

properties_most : (s : Properties) → Below (2 ^ 64) (properties_numbers s) → length (properties_text s) ≤ 219
unfolding properties_text
properties_most s h =
    let l = properties_numbers s in
    let ten = ten_numbers s in
    omega (
      arith,
      length-append (settings_word ++ numbers_text l) (newline ∷ []),
      length-append settings_word (numbers_text l),
      numbers_most l h,
    )

six_numbers : (r : Row) → length (row_numbers r) ≡ 6
unfolding row_numbers
six_numbers r = refl

seven_most : (l : List ℕ) → Seven l → length (numbers_text l) ≤ 28
seven_most l h = omega (arith, h.seven, values_most l h.small)

pub row_line_most : (r : Row) → RowFits r → length (row_text r) ≤ 214
unfolding row_text row_values_text
row_line_most r h =
    let t0 = row_word ++ numbers_text (row_numbers r) in
    let two = numbers_text r.cool ++ numbers_text r.slab in
    let three = two ++ numbers_text r.fan in
    let six = six_numbers r in
    omega (
      arith,
      length-append (t0 ++ three) (newline ∷ []),
      length-append t0 three,
      length-append two (numbers_text r.fan),
      length-append (numbers_text r.cool) (numbers_text r.slab),
      length-append row_word (numbers_text (row_numbers r)),
      numbers_most (row_numbers r) h.numbers,
      seven_most r.cool h.cool,
      seven_most r.slab h.slab,
      seven_most r.fan h.fan,
    )

pub update_line_most : (u : Update) → UpdateFits u → length (update_text u) ≤ 57
unfolding update_text
update_line_most u h =
    let t0 = waiting_word ++ space ∷ line_field_text (line_in u) u.field in
    let t1 = t0 ++ number_text u.value in
    omega (
      arith,
      length-append t1 (last_text u.age),
      length-append t0 (number_text u.value),
      line_field_most (line_in u) u.field h.field,
      small_most u.value h.value,
      small_last_most u.age h.age,
    )

-- what a hand-over carries: no more rows than a table has
pub carried_most : (p : Properties) (rows : List Row) → Below (2 ^ 64) (properties_numbers p) → length rows ≤ table_places → ((i : ℕ) → i < length rows → RowFits (get_or rows i blank_row)) → length (carried_text p rows) ≤ 7067
unfolding carried_text
carried_most p rows h few k =
    omega (
      arith,
      length-append (properties_text p) (texts row_text rows),
      properties_most p h,
      texts_most row_text 214 blank_row rows (λ i j. row_line_most (get_or rows i blank_row) (k i j)),
    )

pub state_most : (s : State) → StateFits s → length (state_text s) ≤ 8192
unfolding state_text
state_most s h =
    let t0 = receivers_text s.receivers in
    let t1 = carried_text s.properties s.table in
    let few_updates = h.few_updates in
    omega (
      arith,
      length-append (t0 ++ t1) (texts update_text s.queue),
      length-append t0 t1,
      receivers_most s.receivers h.controller h.panel,
      carried_most s.properties s.table h.properties h.few_rows h.rows,
      texts_most update_text 57 blank_update s.queue (λ i k. update_line_most (get_or s.queue i blank_update) (h.updates i k)),
    )
