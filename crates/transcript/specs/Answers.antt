-- The text of what each call answers (ours: docs/REPLAY.md, "The answers").
use Rattle.std.specs.Prelude.{ℕ, cond, List, [], ◌∷◌, ◌++◌, take, Result, Ok, Err}
use Rattle.text.specs.Place.{space, newline}
use Rattle.text.specs.Hex.{hex_bytes}
use Rattle.text.specs.Event.{event_text, event_line, drop_line, refused_word, reply_word, queued_word}
use Rattle.text.specs.Words.{gateway_word, row_word, byte_word, tick_word, turn_word, head_word, error_word, date_word, plant_word, write_word, hand_word, read_word}
use Rattle.tpck.specs.declared.writer.Refusal.{Refusal}
use Rattle.tpck.specs.Event.{is_drop}
use Rattle.tpck.specs.Write.{refusal_number}
use Rattle.devices.specs.declared.field.Field.{Field}
use Rattle.devices.specs.declared.table.RowRefusal.{RowRefusal}
use Rattle.devices.specs.Table.{row_number}
use Rattle.updates.specs.declared.line.Line.{Line}
use Rattle.updates.specs.declared.update.LineField.{LineField}
use Rattle.updates.specs.declared.tick.Fields.{Fields}
use Rattle.gateway.specs.declared.answers.ByteRefusal.{ByteRefusal}
use Rattle.gateway.specs.declared.answers.ByteAnswer.{ByteAnswer}
use Rattle.gateway.specs.declared.answers.ByteAnswer.TheVariants as byte
use Rattle.gateway.specs.declared.answers.TurnAnswer.{TurnAnswer}
use Rattle.gateway.specs.declared.answers.TurnAnswer.TheVariants as turn
use Rattle.gateway.specs.declared.answers.Waiting.{Waiting}
use Rattle.gateway.specs.declared.answers.HeadRefusal.{HeadRefusal}
use Rattle.gateway.specs.Answers.{byte_number, turn_number, head_number, body_taken}
use Rattle.transfer.specs.Hand.{HandAnswer, hand_number}
use Rattle.transfer.specs.Reading.{ReadAnswer, read_number}
use Rattle.transcript.specs.Words.{line_word, bad_word, added_word, failed_word, accepted_word}
use Rattle.transcript.specs.Lines.{line_text}
use Rattle.transcript.specs.Fields.{number_text, line_field_text, fields_text}

-- (ours) a number, and the end of the line
unfoldable pub last_text : ℕ → List ℕ
last_text n = number_text n ++ newline ∷ []

-- (ours) LENGTH BYTES, and the end of the line; the bytes are the first n of a buffer
unfoldable pub frame_text : ℕ → List ℕ → List ℕ
frame_text n buffer = number_text n ++ hex_bytes (take n buffer) ++ newline ∷ []

-- (ours) gateway
abbrev pub gateway_answer_text : List ℕ
gateway_answer_text = gateway_word ++ newline ∷ []

-- (ours) row added, or row refused N
abbrev pub row_answer_text : Result (Unit {0}) RowRefusal → List ℕ
row_answer_text (Ok _) = row_word ++ space ∷ added_word ++ newline ∷ []
row_answer_text (Err e) = row_word ++ space ∷ refused_word ++ last_text (row_number e)

-- (ours) byte I WORD N: the listing's line of an event, with the byte's place for the offset, after the word "byte"
unfoldable pub byte_event_text : ℕ → List ℕ → ℕ → List ℕ
byte_event_text place word n = byte_word ++ space ∷ event_line place word n

-- (02, M-102) byte I drop N BODY: the listing's line of a drop, in the same way
unfoldable pub byte_drop_text : (place number taken : ℕ) → List ℕ
byte_drop_text place number taken = byte_word ++ space ∷ drop_line place number taken

-- (ours) that, or byte I refused N
unfoldable pub byte_refusal_text : ℕ → ByteRefusal → List ℕ
byte_refusal_text place e =
    cond (is_drop (byte_number e)) (byte_drop_text place (byte_number e) (body_taken e)) (byte_event_text place refused_word (byte_number e))

-- (ours) byte I reply LENGTH BYTES
unfoldable pub byte_reply_text : ℕ → ℕ → List ℕ → List ℕ
byte_reply_text place n reply = byte_word ++ space ∷ event_text place reply_word n ++ hex_bytes (take n reply) ++ newline ∷ []

-- (ours) what the byte at a place of its line did: nothing is printed where it did nothing; a reply's bytes are the first of
-- the buffer that was lent for it
abbrev pub byte_answer_text : ℕ → ByteAnswer → List ℕ → List ℕ
byte_answer_text place byte.Nothing reply = []
byte_answer_text place (byte.Refused e) reply = byte_refusal_text place e
byte_answer_text place (byte.Queued n) reply = byte_event_text place queued_word n
byte_answer_text place (byte.Replied n) reply = byte_reply_text place n reply

-- (ours) the fields that a tick lists: the first of the array, as many as it counts, at most all sixteen
abbrev pub list_of : Fields → List LineField
list_of fields = take fields.count fields.list

-- (ours) tick K LINE FIELD, LINE FIELD, ..; nothing where there is no field
abbrev pub tick_answer_text : ℕ → List LineField → List ℕ
tick_answer_text place [] = []
tick_answer_text place (f ∷ l) = tick_word ++ number_text place ++ space ∷ fields_text (f ∷ l) ++ newline ∷ []

-- (02, M-106) turn reply LINE LENGTH BYTES: the serial line of the update that was confirmed
unfoldable pub turn_reply_text : Line → ℕ → List ℕ → List ℕ
turn_reply_text l n reply = turn_word ++ space ∷ reply_word ++ space ∷ line_text l ++ frame_text n reply

-- (ours) that, turn failed, or turn refused N
abbrev pub turn_answer_text : TurnAnswer → List ℕ → List ℕ
turn_answer_text (turn.Refused e) reply = turn_word ++ space ∷ refused_word ++ last_text (turn_number e)
turn_answer_text turn.Failed reply = turn_word ++ space ∷ failed_word ++ newline ∷ []
turn_answer_text (turn.Replied l n) reply = turn_reply_text l n reply

-- (02, M-106) head LINE FIELD VALUE
unfoldable pub waiting_head_text : Line → Field → ℕ → List ℕ
waiting_head_text l f v = head_word ++ space ∷ line_field_text l f ++ last_text v

-- (ours) that, or head refused 17
abbrev pub head_answer_text : Result Waiting HeadRefusal → List ℕ
head_answer_text (Ok head) = waiting_head_text head.line head.field head.value
head_answer_text (Err e) = head_word ++ space ∷ refused_word ++ last_text (head_number e)

-- (ours) error
abbrev pub error_answer_text : List ℕ
error_answer_text = error_word ++ newline ∷ []

-- (ours) date
abbrev pub date_answer_text : List ℕ
date_answer_text = date_word ++ newline ∷ []

-- (ours) plant
abbrev pub plant_answer_text : List ℕ
plant_answer_text = plant_word ++ newline ∷ []

-- (ours) write LENGTH BYTES, or write refused N
abbrev pub written_text : Result ℕ Refusal → List ℕ → List ℕ
written_text (Ok n) frame = write_word ++ frame_text n frame
written_text (Err e) frame = write_word ++ space ∷ refused_word ++ last_text (refusal_number e)

-- (ours) hand LENGTH BYTES, hand 0 past the last frame, or hand refused N
abbrev pub hand_answer_text : HandAnswer → List ℕ → List ℕ
hand_answer_text (Ok n) frame = hand_word ++ frame_text n frame
hand_answer_text (Err e) frame = hand_word ++ space ∷ refused_word ++ last_text (hand_number e)

-- (ours) read accepted, or read refused N
abbrev pub read_answer_text : ReadAnswer → List ℕ
read_answer_text (Ok _) = read_word ++ space ∷ accepted_word ++ newline ∷ []
read_answer_text (Err e) = read_word ++ space ∷ refused_word ++ last_text (read_number e.why)

-- (ours) line L bad
unfoldable pub bad_line_text : ℕ → List ℕ
bad_line_text line = line_word ++ number_text line ++ (space ∷ bad_word ++ newline ∷ [])
