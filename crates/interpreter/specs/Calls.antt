-- One call a line (ours: docs/REPLAY.md): what each line results in, from the words after its first one.
use Rattle.std.specs.Prelude.{ℕ, List, take, is_ok, Option}
use Rattle.lists.specs.Overlay.{overlay}
use Rattle.tpck.specs.Write as writer
use Rattle.devices.specs.declared.row.Row.{Row}
use Rattle.devices.specs.declared.field.Field.{Field}
use Rattle.dates.specs.declared.date.Date.{Date}
use Rattle.trpc.specs.Properties.{properties}
use Rattle.gateway.specs.declared.gateway.Gateway.{Gateway}
use Rattle.gateway.specs.declared.answers.TurnAnswer.{TurnAnswer}
use Rattle.gateway.specs.State.{Result}
use Rattle.gateway.specs.View.{view, put}
use Rattle.gateway.specs.Calls.{add_row, head_of, set_network_error, check_date}
use Rattle.gateway.specs.Turn.{turn}
use Rattle.gateway.specs.Results.{fresh, adding, turned}
use Rattle.transfer.specs.Hand.{hand}
use Rattle.script.specs.Place.{Place}
use Rattle.script.specs.Reading.{ended, read_number, read_bytes, bytes_after}
use Rattle.script.specs.Arguments.{read_line, read_row, read_field, read_heard, read_date}
use Rattle.transcript.specs.Answers.{gateway_answer_text, row_answer_text, turn_answer_text, head_answer_text, error_answer_text, date_answer_text, plant_answer_text, written_text, hand_answer_text}
use Rattle.transcript.specs.State.{state_text}
use Rattle.interpreter.specs.Limits.{longest, most_lent}
use Rattle.interpreter.specs.Done.{Done, served, if_good}
use Rattle.interpreter.specs.Bytes.{lent, bytes_done}
use Rattle.interpreter.specs.Ticks.{ticks_done}

-- (ours) gateway FIRMWARE PROTOCOL
unfoldable pub gateway_call : Gateway → List ℕ → Place → Done
gateway_call g l c =
    let firmware = read_number 65535 l c in
    let protocol = read_number 65535 l firmware.next in
    if_good (ended l protocol.next) g (served (fresh firmware.value protocol.value) gateway_answer_text)

-- (ours) a row is offered to the gateway
abbrev pub row_done : Gateway → Row → Done
row_done g row = let x = adding g (add_row (view g) row) in served x.gateway (row_answer_text x.answer)

-- (ours) row and its 27 numbers
unfoldable pub row_call : Gateway → List ℕ → Place → Done
row_call g l c = let read = read_row l c in if_good (ended l read.next) g (row_done g read.value)

-- (02, M-106) byte [LINE] ROOM BYTE BYTE ..
unfoldable pub byte_call : Gateway → List ℕ → Place → Done
byte_call g l c =
    let on = read_line l c in
    let room = read_number most_lent l on.next in
    if_good (is_ok (read_bytes longest l room.next)) g (bytes_done on.value room.value g (take longest (bytes_after l room.next)))

-- (ours) tick N
unfoldable pub tick_call : Gateway → List ℕ → Place → Done
tick_call g l c = let n = read_number 65535 l c in if_good (ended l n.next) g (ticks_done n.value g)

-- (ours) what a turn results in, with a reply buffer of ROOM bytes
abbrev pub turn_result : ℕ → Gateway → Field → Option ℕ → Result TurnAnswer
turn_result room g f h = turn (view g) f h room

-- (ours) a turn; its reply is laid over the buffer that was lent
abbrev pub turn_done : ℕ → Gateway → Field → Option ℕ → Done
turn_done room g f h =
    let x = turn_result room g f h in
    served (turned g x).gateway (turn_answer_text x.answer (overlay x.reply (lent room)))

-- (ours) turn ROOM FIELD silence, turn ROOM FIELD VALUE
unfoldable pub turn_call : Gateway → List ℕ → Place → Done
turn_call g l c =
    let room = read_number most_lent l c in
    let named = read_field l room.next in
    let brought = read_heard l named.next in
    if_good (ended l brought.next) g (turn_done room.value g named.value brought.value)

-- (ours) head
unfoldable pub head_call : Gateway → List ℕ → Place → Done
head_call g l c = if_good (ended l c) g (served g (head_answer_text (head_of (view g))))

-- (ours) error NUMBER
unfoldable pub error_call : Gateway → List ℕ → Place → Done
error_call g l c =
    let error = read_number 65535 l c in
    if_good (ended l error.next) g (served (put g (set_network_error (view g) error.value).effect) error_answer_text)

-- (ours) the frame writer alone, with a buffer of ROOM bytes
unfoldable pub write_said : ℕ → ℕ → List ℕ → List ℕ
write_said room ptype bytes = written_text (writer.write ptype bytes (lent room)) (writer.buffer ptype bytes (lent room))

-- (ours) write ROOM TYPE BYTE BYTE ..
unfoldable pub write_call : Gateway → List ℕ → Place → Done
write_call g l c =
    let room = read_number most_lent l c in
    let ptype = read_number 255 l room.next in
    if_good (is_ok (read_bytes longest l ptype.next)) g
    (served g (write_said room.value ptype.value (take longest (bytes_after l ptype.next))))

-- (ours) dump
unfoldable pub dump_call : Gateway → List ℕ → Place → Done
dump_call g l c = if_good (ended l c) g (served g (state_text (view g)))

-- (ours) date
unfoldable pub date_call : Gateway → List ℕ → Place → Done
date_call g l c = if_good (ended l c) g (served (put g (check_date (view g)).effect) date_answer_text)

-- (ours) the gateway with this stored date, as it stands
abbrev pub planted : Gateway → Date → Gateway
planted g d =
    let s = g.properties in
    record { receivers = g.receivers; table = g.table; queue = g.queue; properties = properties s.error s.reporting s.firmware s.protocol d }

-- (ours) plant date YEAR MONTH DAY WEEKDAY HOUR MINUTE
unfoldable pub plant_call : Gateway → List ℕ → Place → Done
plant_call g l c = let read = read_date l c in if_good (ended l read.next) g (served (planted g read.value) plant_answer_text)

-- (ours) the writer of a hand-over, with a buffer of ROOM bytes; its frame is laid over the buffer that was lent
unfoldable pub hand_said : ℕ → Gateway → ℕ → List ℕ
hand_said room g place = let x = hand (view g) place room in hand_answer_text x.answer (overlay x.reply (lent room))

-- (ours) hand ROOM PLACE
unfoldable pub hand_call : Gateway → List ℕ → Place → Done
hand_call g l c =
    let room = read_number most_lent l c in
    let place = read_number 65535 l room.next in
    if_good (ended l place.next) g (served g (hand_said room.value g place.value))
