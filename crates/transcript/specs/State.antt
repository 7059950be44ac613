-- The state of a gateway as text: its receivers, its properties, its rows, and the updates that wait (ours: docs/REPLAY.md, `dump`).
use Rattle.std.specs.Prelude.{ℕ, Bool, cond, List, [], ◌∷◌, ◌++◌, length}
use Rattle.text.specs.Place.{space, newline}
use Rattle.text.specs.Texts.{texts}
use Rattle.text.specs.Words.{row_word}
use Rattle.tpck.specs.Receive as receiver
use Rattle.devices.specs.declared.row.Row.{Row}
use Rattle.updates.specs.declared.line.Line.{Line}
use Rattle.updates.specs.declared.line.Line.TheVariants.{Controller, Panel}
use Rattle.updates.specs.declared.update.Update.{Update}
use Rattle.updates.specs.Update.{line_in}
use Rattle.trpc.specs.declared.properties.Properties.{Properties}
use Rattle.gateway.specs.Lines.{Receivers}
use Rattle.gateway.specs.State.{State}
use Rattle.transcript.specs.Words.{receiver_word, inside_word, hunting_word, escape_word, plain_word, settings_word, waiting_word}
use Rattle.transcript.specs.Lines.{line_text}
use Rattle.transcript.specs.Fields.{number_text, numbers_text, line_field_text}
use Rattle.transcript.specs.Answers.{last_text}

-- (ours) the length of the body so far; 0 where the receiver hunts
unfoldable pub body_length : receiver.State → ℕ
body_length s = cond s.inside (length s.body) 0

-- (ours) receiver LINE, then inside or hunting, then escape or plain, then the length of the body so far
unfoldable pub receiver_text : Line → receiver.State → List ℕ
receiver_text l s =
    receiver_word
    ++ space ∷ line_text l
    ++ cond s.inside (space ∷ inside_word) (space ∷ hunting_word)
    ++ cond s.escaped (space ∷ escape_word) (space ∷ plain_word)
    ++ last_text (body_length s)

-- (02, M-106) the lines of both receivers, the controller's first
unfoldable pub receivers_text : Receivers → List ℕ
receivers_text r = receiver_text Controller r.controller ++ receiver_text Panel r.panel

-- (ours) 1 for on, 0 for off
abbrev pub flag_number : Bool → ℕ
flag_number on = cond on 1 0

-- (ours) ERROR REPORTING FIRMWARE PROTOCOL YEAR MONTH DAY WEEKDAY HOUR MINUTE
unfoldable pub properties_numbers : Properties → List ℕ
properties_numbers s =
    s.error
    ∷ flag_number s.reporting
    ∷ s.firmware
    ∷ s.protocol
    ∷ s.date.year
    ∷ s.date.month
    ∷ s.date.day
    ∷ s.date.weekday
    ∷ s.date.hour
    ∷ s.date.minute
    ∷ []

-- (ours) the word settings and the ten numbers of the properties
unfoldable pub properties_text : Properties → List ℕ
properties_text s = settings_word ++ numbers_text (properties_numbers s) ++ newline ∷ []

-- (ours) ADDRESS VERSION MASK MODE STATE EVENTS
unfoldable pub row_numbers : Row → List ℕ
row_numbers r = r.address ∷ r.version ∷ r.mask ∷ r.mode ∷ r.state ∷ r.events ∷ []

-- (ours) seven values each of cool, slab and fan
unfoldable pub row_values_text : Row → List ℕ
row_values_text r = numbers_text r.cool ++ numbers_text r.slab ++ numbers_text r.fan

-- (ours) row and its 27 numbers, as in a script: those six and the values
unfoldable pub row_text : Row → List ℕ
row_text r = row_word ++ numbers_text (row_numbers r) ++ row_values_text r ++ newline ∷ []

-- (02, M-106) waiting LINE FIELD VALUE AGE
unfoldable pub update_text : Update → List ℕ
update_text u = waiting_word ++ space ∷ line_field_text (line_in u) u.field ++ number_text u.value ++ last_text u.age

-- (ours) the lines of what a hand-over carries: the properties, and the rows in the table's order
unfoldable pub carried_text : Properties → List Row → List ℕ
carried_text p rows = properties_text p ++ texts row_text rows

-- (ours) the lines of the whole state: rows in the table's order, updates in the queue's
unfoldable pub state_text : State → List ℕ
state_text s = receivers_text s.receivers ++ carried_text s.properties s.table ++ texts update_text s.queue
