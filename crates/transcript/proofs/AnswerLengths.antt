-- How long an answer is at most: for a program that makes room for what it prints. Assumes nothing.
use Prim.Native.Nat.{ℕ, ◌+◌, ◌*◌, ◌^◌, ◌≤◌, ◌<◌}
use mathlib.Core.Bool.{Bool, true, false, cond}
use mathlib.Core.List.{List, [], ◌∷◌, ◌++◌}
use Rattle.std.specs.Prelude.{Result, Ok, Err}
use native.Mathlib.Omega.{arith}
use lib.ListN.{length, take, get_or, length-append, length-take}
use Rattle.text.specs.Place.{space, newline}
use Rattle.text.specs.Hex.{hex_bytes}
use Rattle.text.specs.Event.{event_text, refused_word, reply_word, queued_word}
use Rattle.text.specs.Words.{row_word, tick_word, turn_word, head_word, write_word, hand_word, read_word}
use Rattle.text.proofs.Lengths.{hex_length, event_most, event_line_most, drop_line_most}
use Rattle.tpck.specs.declared.event.Drop.{Drop}
use Rattle.tpck.specs.declared.event.Drop.TheVariants.{Restarted, Early, TooLong, Checksum}
use Rattle.tpck.specs.declared.writer.Refusal.{Refusal}
use Rattle.tpck.specs.declared.writer.Refusal.TheVariants.{NoRoom, TooMuchData}
use Rattle.tpck.specs.Event.{drop_number, is_drop}
use Rattle.tpck.specs.Write.{refusal_number}
use Rattle.devices.specs.declared.field.Field.{Field}
use Rattle.devices.specs.declared.table.RowRefusal.{RowRefusal}
use Rattle.devices.specs.declared.table.RowRefusal.TheVariants.{BadRow, AddressInTable, TableFull}
use Rattle.devices.specs.Table.{row_number}
use Rattle.updates.specs.declared.line.Line.{Line}
use Rattle.updates.specs.declared.update.LineField.{LineField}
use Rattle.updates.specs.Update.{blank_named}
use Rattle.trpc.specs.declared.judging.FrameError.{FrameError}
use Rattle.trpc.specs.declared.judging.FrameError.TheVariants.{WrongType, TooShort, WrongService, UnknownMethod, ServiceNotUsed, WrongWidth, UnknownAddress, StateTooHigh}
use Rattle.trpc.specs.Judging.{number_of}
use Rattle.gateway.specs.declared.answers.ByteRefusal.{ByteRefusal}
use Rattle.gateway.specs.declared.answers.ByteRefusal.TheVariants as refusal
use Rattle.gateway.specs.declared.answers.ByteAnswer.{ByteAnswer}
use Rattle.gateway.specs.declared.answers.ByteAnswer.TheVariants as byte
use Rattle.gateway.specs.declared.answers.TurnRefusal.{TurnRefusal}
use Rattle.gateway.specs.declared.answers.TurnRefusal.TheVariants as refused
use Rattle.gateway.specs.declared.answers.TurnAnswer.{TurnAnswer}
use Rattle.gateway.specs.declared.answers.TurnAnswer.TheVariants as turn
use Rattle.gateway.specs.declared.answers.Waiting.{Waiting}
use Rattle.gateway.specs.declared.answers.HeadRefusal.{HeadRefusal}
use Rattle.gateway.specs.declared.answers.HeadRefusal.TheVariants.{NoneWaits}
use Rattle.gateway.specs.Answers.{byte_number, turn_number, body_taken}
use Rattle.transfer.specs.declared.writer.HandRefusal.{HandRefusal}
use Rattle.transfer.specs.declared.writer.HandRefusal.TheVariants as hands
use Rattle.transfer.specs.declared.reader.ReadRefusal.{ReadRefusal}
use Rattle.transfer.specs.declared.reader.ReadRefusal.TheVariants as reads
use Rattle.transfer.specs.Hand.{HandAnswer, hand_number}
use Rattle.transfer.specs.Reading.{ReadAnswer, read_number}
use Rattle.transcript.specs.Words.{line_word, bad_word}
use Rattle.transcript.specs.Lines.{line_text}
use Rattle.transcript.specs.Fields.{number_text, line_field_text, fields_text}
use Rattle.transcript.specs.Answers.{last_text, frame_text, row_answer_text, byte_event_text, byte_drop_text, byte_refusal_text, byte_reply_text, byte_answer_text, tick_answer_text, turn_reply_text, turn_answer_text, waiting_head_text, head_answer_text, written_text, hand_answer_text, read_answer_text, bad_line_text}
use Rattle.transcript.proofs.FieldLengths.{FieldFits, number_most, small_last_most, line_most, line_field_most, fields_most}

-- ---- the numbers of refusals

drop_small : (d : Drop) → drop_number d < 256
drop_small Restarted = omega arith
drop_small Early = omega arith
drop_small TooLong = omega arith
drop_small Checksum = omega arith

frame_small : (e : FrameError) → number_of e < 256
frame_small WrongType = omega arith
frame_small TooShort = omega arith
frame_small WrongService = omega arith
frame_small UnknownMethod = omega arith
frame_small ServiceNotUsed = omega arith
frame_small WrongWidth = omega arith
frame_small UnknownAddress = omega arith
frame_small StateTooHigh = omega arith

byte_small : (e : ByteRefusal) → byte_number e < 256
byte_small refusal.Short = omega arith
byte_small (refusal.Dropped d n) = drop_small d
byte_small (refusal.Rejected e) = frame_small e
byte_small refusal.FieldWaits = omega arith
byte_small refusal.QueueFull = omega arith

turn_small : (e : TurnRefusal) → turn_number e < 256
turn_small refused.Short = omega arith
turn_small refused.NoneWaits = omega arith
turn_small refused.NotHead = omega arith

row_small : (e : RowRefusal) → row_number e < 256
row_small BadRow = omega arith
row_small AddressInTable = omega arith
row_small TableFull = omega arith

write_small : (e : Refusal) → refusal_number e < 256
write_small NoRoom = omega arith
write_small TooMuchData = omega arith

hand_small : (e : HandRefusal) → hand_number e < 256
hand_small hands.Short = omega arith
hand_small hands.UpdatesWait = omega arith

pub read_small : (e : ReadRefusal) → read_number e < 256
read_small reads.NotDue = omega arith
read_small (reads.Row e) = row_small e
read_small reads.Length = omega arith

-- ---- the answers

-- the front n bytes of a buffer, as text
front_most : (n : ℕ) (buffer : List ℕ) → length (hex_bytes (take n buffer)) ≤ 3 * n
front_most n buffer = omega (arith, hex_length (take n buffer), length-take n buffer)

pub frame_most : (n : ℕ) (buffer : List ℕ) → n < 2 ^ 64 → length (frame_text n buffer) ≤ 22 + 3 * n
unfolding frame_text
frame_most n buffer h =
    let front = hex_bytes (take n buffer) in
    omega (arith, length-append (number_text n ++ front) (newline ∷ []), length-append (number_text n) front, number_most n h, front_most n buffer)

pub row_most : (a : Result (Unit {0}) RowRefusal) → length (row_answer_text a) ≤ 16
row_most (Ok _) = omega arith
row_most (Err e) = omega (arith, length-append (row_word ++ space ∷ refused_word) (last_text (row_number e)), small_last_most (row_number e) (row_small e))

-- the bytes of a reply that an answer to a byte tells
abbrev pub byte_shown : ByteAnswer → ℕ
byte_shown byte.Nothing = 0
byte_shown (byte.Refused e) = 0
byte_shown (byte.Queued n) = 0
byte_shown (byte.Replied n) = n

-- the number that it tells has 64 bits at most; that of a refusal is how many body bytes were taken
abbrev pub ByteFits : ByteAnswer → Type 0
ByteFits byte.Nothing = Unit {0}
ByteFits (byte.Refused e) = body_taken e < 2 ^ 64
ByteFits (byte.Queued n) = n < 2 ^ 64
ByteFits (byte.Replied n) = n < 2 ^ 64

byte_event_most : (place : ℕ) (word : List ℕ) (n : ℕ) → length word ≤ 7 → place < 2 ^ 64 → n < 2 ^ 64 → length (byte_event_text place word n) ≤ 55
unfolding byte_event_text
byte_event_most place word n w h k = omega (arith, event_line_most place word n h k)

byte_drop_most : (place number taken : ℕ) → place < 2 ^ 64 → number < 2 ^ 64 → taken < 2 ^ 64 → length (byte_drop_text place number taken) ≤ 73
unfolding byte_drop_text
byte_drop_most place number taken h i k = omega (arith, drop_line_most place number taken h i k)

byte_refusal_most : (place : ℕ) (e : ByteRefusal) → place < 2 ^ 64 → body_taken e < 2 ^ 64 → length (byte_refusal_text place e) ≤ 73
unfolding byte_refusal_text
byte_refusal_most place e h k = go (is_drop (byte_number e))
  where
    small : byte_number e < 256
    small = byte_small e

    go : (d : Bool) → length (cond d (byte_drop_text place (byte_number e) (body_taken e)) (byte_event_text place refused_word (byte_number e))) ≤ 73
    go true = byte_drop_most place (byte_number e) (body_taken e) h (omega (arith, small)) k
    go false = omega (arith, byte_event_most place refused_word (byte_number e) (omega arith) h (omega (arith, small)))

byte_reply_most : (place n : ℕ) (reply : List ℕ) → place < 2 ^ 64 → n < 2 ^ 64 → length (byte_reply_text place n reply) ≤ 53 + 3 * n
unfolding byte_reply_text
byte_reply_most place n reply h k =
    let t = event_text place reply_word n in
    let front = hex_bytes (take n reply) in
    omega (arith, length-append (t ++ front) (newline ∷ []), length-append t front, event_most place reply_word n h k, front_most n reply)

-- with a reply of at most 32 bytes, the longest there is
pub byte_most : (place : ℕ) (a : ByteAnswer) (reply : List ℕ) → place < 2 ^ 64 → ByteFits a → byte_shown a ≤ 32 → length (byte_answer_text place a reply) ≤ 151
byte_most place byte.Nothing reply h k s = omega arith
byte_most place (byte.Refused e) reply h k s = omega (arith, byte_refusal_most place e h k)
byte_most place (byte.Queued n) reply h k s = omega (arith, byte_event_most place queued_word n (omega arith) h k)
byte_most place (byte.Replied n) reply h k s = omega (arith, byte_reply_most place n reply h k)

pub tick_most : (place : ℕ) (l : List LineField) → place < 2 ^ 64 → ((i : ℕ) → i < length l → FieldFits (get_or l i blank_named).field) → length (tick_answer_text place l) ≤ 27 + length l * 42
tick_most place [] h k = omega arith
tick_most place (f ∷ l) h k =
    let t = tick_word ++ number_text place in
    let all = fields_text (f ∷ l) in
    omega (arith, length-append (t ++ space ∷ all) (newline ∷ []), length-append t (space ∷ all), length-append tick_word (number_text place), number_most place h, fields_most (f ∷ l) k)

-- the bytes of a reply that an answer to a turn tells
abbrev pub turn_shown : TurnAnswer → ℕ
turn_shown (turn.Refused e) = 0
turn_shown turn.Failed = 0
turn_shown (turn.Replied l n) = n

turn_reply_most : (l : Line) (n : ℕ) (reply : List ℕ) → n < 2 ^ 64 → length (turn_reply_text l n reply) ≤ 43 + 3 * n
unfolding turn_reply_text
turn_reply_most l n reply h =
    let front = turn_word ++ space ∷ reply_word ++ space ∷ [] in
    omega (arith, length-append (front ++ line_text l) (frame_text n reply), length-append front (line_text l), line_most l, frame_most n reply h)

pub turn_most : (a : TurnAnswer) (reply : List ℕ) → turn_shown a < 2 ^ 64 → length (turn_answer_text a reply) ≤ 43 + 3 * turn_shown a
turn_most (turn.Refused e) reply h = omega (arith, length-append (turn_word ++ space ∷ refused_word) (last_text (turn_number e)), small_last_most (turn_number e) (turn_small e))
turn_most turn.Failed reply h = omega arith
turn_most (turn.Replied l n) reply h = turn_reply_most l n reply h

-- the update at the head has a field and a value of these sizes
abbrev pub HeadFits : Result Waiting HeadRefusal → Type 0
HeadFits (Ok head) = FieldFits head.field × (head.value < 256)
HeadFits (Err e) = Unit {0}

head_waiting_most : (l : Line) (f : Field) (v : ℕ) → FieldFits f → v < 256 → length (waiting_head_text l f v) ≤ 50
unfolding waiting_head_text
head_waiting_most l f v h k = omega (arith, length-append (head_word ++ space ∷ line_field_text l f) (last_text v), line_field_most l f h, small_last_most v k)

pub head_most : (a : Result Waiting HeadRefusal) → HeadFits a → length (head_answer_text a) ≤ 50
head_most (Err NoneWaits) h = omega (arith, length-append (head_word ++ space ∷ refused_word) (last_text 17), small_last_most 17 (omega arith))
head_most (Ok head) h = head_waiting_most head.line head.field head.value h.0 h.1

-- the bytes of a frame that the writer's answer tells
abbrev pub written_shown : Result ℕ Refusal → ℕ
written_shown (Ok n) = n
written_shown (Err e) = 0

pub written_most : (a : Result ℕ Refusal) (frame : List ℕ) → written_shown a < 2 ^ 64 → length (written_text a frame) ≤ 27 + 3 * written_shown a
written_most (Ok n) frame h = omega (arith, length-append write_word (frame_text n frame), frame_most n frame h)
written_most (Err e) frame h = omega (arith, length-append (write_word ++ space ∷ refused_word) (last_text (refusal_number e)), small_last_most (refusal_number e) (write_small e))

-- the bytes of a frame that the answer of a hand-over's writer tells
abbrev pub hand_shown : HandAnswer → ℕ
hand_shown (Ok n) = n
hand_shown (Err e) = 0

pub hand_most : (a : HandAnswer) (frame : List ℕ) → hand_shown a < 2 ^ 64 → length (hand_answer_text a frame) ≤ 26 + 3 * hand_shown a
hand_most (Ok n) frame h = omega (arith, length-append hand_word (frame_text n frame), frame_most n frame h)
hand_most (Err e) frame h = omega (arith, length-append (hand_word ++ space ∷ refused_word) (last_text (hand_number e)), small_last_most (hand_number e) (hand_small e))

pub read_answer_most : (a : ReadAnswer) → length (read_answer_text a) ≤ 17
read_answer_most (Ok _) = omega arith
read_answer_most (Err e) = omega (arith, length-append (read_word ++ space ∷ refused_word) (last_text (read_number e.why)), small_last_most (read_number e.why) (read_small e.why))

pub bad_line_most : (line : ℕ) → line < 2 ^ 64 → length (bad_line_text line) ≤ 30
unfolding bad_line_text
bad_line_most line h = omega (arith, length-append (line_word ++ number_text line) (space ∷ bad_word ++ newline ∷ []), length-append line_word (number_text line), number_most line h)
