-- Answers without enums: an outcome (ours, D-60), document 01's number where the call is refused, else 0, a line's number (02, M-106)
-- where a turn's reply is for it, else 0, and a count.
use Rattle.std.specs.Prelude.{ℕ, cond, Option, Some, None, Result, Ok, Err}
use Rattle.tpck.specs.declared.writer.Refusal.{Refusal}
use Rattle.tpck.specs.Write.{refusal_number}
use Rattle.devices.specs.declared.field.Field.{Field}
use Rattle.devices.specs.Table.{row_number}
use Rattle.updates.specs.declared.line.Line.{Line}
use Rattle.updates.specs.Line.{line_number}
use Rattle.updates.specs.Update.{blank_field}
use Rattle.gateway.specs.declared.answers.ByteAnswer.{ByteAnswer}
use Rattle.gateway.specs.declared.answers.ByteAnswer.TheVariants as byte
use Rattle.gateway.specs.declared.answers.TurnAnswer.{TurnAnswer}
use Rattle.gateway.specs.declared.answers.TurnAnswer.TheVariants as turn
use Rattle.gateway.specs.Answers.{byte_number, turn_number, head_number, body_taken}
use Rattle.blocks.specs.declared.answers.Blocked as blocks
use Rattle.blocks.specs.Block.{block_number, used_in, written_in}
use Rattle.transfer.specs.Hand.{HandAnswer, hand_number}
use Rattle.transfer.specs.Reading.{ReadAnswer, read_number}
use Rattle.ledger.specs.Call.{AddAnswer, HeadAnswer, Heard}
use Rattle.capi.specs.declared.answers.CallAnswer.{CallAnswer}
use Rattle.capi.specs.declared.answers.HeadResult.{HeadResult}
use Rattle.capi.specs.declared.answers.Blocked.{Blocked}
use Rattle.capi.specs.declared.answers.DeviceAnswer.{DeviceAnswer}

-- (ours) an outcome, a number and a count, and no line
abbrev pub answer : ℕ → ℕ → ℕ → CallAnswer
answer k n c = record { outcome = k; number = n; line = 0; count = c }

-- (ours) outcome 0: the byte did nothing yet
abbrev pub nothing : CallAnswer
nothing = answer 0 0 0

-- (ours) outcome 1: refused, with the number and a count
abbrev pub refused_with : (number count : ℕ) → CallAnswer
refused_with n c = answer 1 n c

-- (ours) the same with no count
abbrev pub refused : ℕ → CallAnswer
refused n = refused_with n 0

-- (ours) outcome 2: an update is queued, with how many now wait
abbrev pub queued : ℕ → CallAnswer
queued n = answer 2 0 n

-- (ours) outcome 3: a reply, with how many bytes it has
abbrev pub replied : ℕ → CallAnswer
replied n = answer 3 0 n

-- (02, M-106) outcome 3 for a line, by the line's number
abbrev pub replied_to : Line → ℕ → CallAnswer
replied_to l n = record { outcome = 3; number = 0; line = line_number l; count = n }

-- (ours) outcome 4: the try failed, and the update is at the tail
abbrev pub failed : CallAnswer
failed = answer 4 0 0

-- (ours) outcome 5: the row is in the table
abbrev pub added : CallAnswer
added = answer 5 0 0

-- (ours) outcome 6: a frame, with how many bytes it has
abbrev pub frame_written : ℕ → CallAnswer
frame_written n = answer 6 0 n

-- (ours) outcome 7: the hand-over is accepted
abbrev pub accepted : CallAnswer
accepted = answer 7 0 0

-- (01) what a byte answers, with document 01's numbers; (02, M-102) a drop counts the body bytes taken since its SOF
abbrev pub of_byte : ByteAnswer → CallAnswer
of_byte byte.Nothing = nothing
of_byte (byte.Refused e) = refused_with (byte_number e) (body_taken e)
of_byte (byte.Queued n) = queued n
of_byte (byte.Replied n) = replied n

-- (02, M-100) what a block call hands back: 1 where it is refused, (ours, D-45) else 0, the bytes used and written, and the counts
abbrev pub of_block : blocks.Blocked → Blocked
of_block x =
    record {
      gateway = x.gateway;
      number = block_number x.answer;
      used = used_in x.answer;
      written = written_in x.answer;
      counts = x.counts;
    }

-- (01) what a turn answers, with document 01's numbers; (02, M-106) a reply names its line
abbrev pub of_turn : TurnAnswer → CallAnswer
of_turn (turn.Refused e) = refused (turn_number e)
of_turn turn.Failed = failed
of_turn (turn.Replied l n) = replied_to l n

-- (01) what adding a row answers, with document 01's numbers
abbrev pub of_add : AddAnswer → CallAnswer
of_add (Ok u) = added
of_add (Err e) = refused (row_number e)

-- (01) what the frame writer answers, with document 01's numbers
abbrev pub of_written : Result ℕ Refusal → CallAnswer
of_written (Ok n) = frame_written n
of_written (Err e) = refused (refusal_number e)

-- (02, M-112) what the writer of a hand-over answers, with document 02's numbers
abbrev pub of_hand : HandAnswer → CallAnswer
of_hand (Ok n) = frame_written n
of_hand (Err e) = refused (hand_number e)

-- (02, M-112) what its reader answers, with document 02's numbers, (ours, D-95) a refusal with the place of the byte that caused it
abbrev pub of_read : ReadAnswer → CallAnswer
of_read (Ok u) = accepted
of_read (Err x) = refused_with (read_number x.why) x.at

-- (ours) a number, a line's number, a value and a field
abbrev pub head_result : (number line value : ℕ) → Field → HeadResult
head_result n l v f = record { number = n; line = l; value = v; field = f }

-- (01) the head's field and the value asked for, (02, M-106) with its line; 17 where none waits, (ours, D-44) with all else 0
abbrev pub of_head : HeadAnswer → HeadResult
of_head (Err e) = head_result (head_number e) 0 0 blank_field
of_head (Ok w) = head_result 0 (line_number w.line) w.value w.field

-- (01) what a device answered to a try: silence, or a value; (ours) the value is read only where it answered
abbrev pub heard : DeviceAnswer → Heard
heard h = cond h.answered (Some h.value) None
