-- The calls on a gateway as one step, with the answer in document 01's words; and a list of calls.
--
-- `run g c` is what the promises of the code say: the gateway that the call hands back, and its answer. The answer is read off what
-- the call hands back and off the lent buffer after it. `src/steps.rt` proves it of each function of the gateway.
use Rattle.std.specs.Prelude.{cond, List, [], ◌∷◌, map, ℕ, zero, suc, length, take, Option, Result, Ok, Err}
use Rattle.lists.specs.Overlay.{overlay}
use Rattle.tpck.specs.Event.{is_drop}
use Rattle.devices.specs.declared.row.Row.{Row}
use Rattle.devices.specs.declared.field.Field.{Field}
use Rattle.devices.specs.declared.table.RowRefusal.{RowRefusal}
use Rattle.devices.specs.Table.{row_number}
use Rattle.updates.specs.declared.line.Line.{Line}
use Rattle.updates.specs.declared.update.LineField.{LineField}
use Rattle.updates.specs.declared.tick.Fields.{Fields}
use Rattle.updates.specs.Line.{line_of}
use Rattle.gateway.specs.declared.gateway.Gateway.{Gateway}
use Rattle.gateway.specs.declared.gateway.Added.{Added}
use Rattle.gateway.specs.declared.gateway.Ticked.{Ticked}
use Rattle.gateway.specs.declared.turn.Turned.{Turned}
use Rattle.gateway.specs.declared.byte.Fed.{Fed}
use Rattle.gateway.specs.declared.answers.Waiting.{Waiting}
use Rattle.gateway.specs.declared.answers.HeadRefusal.{HeadRefusal}
use Rattle.gateway.specs.declared.answers.TurnAnswer.{TurnAnswer}
use Rattle.gateway.specs.declared.answers.TurnAnswer.TheVariants as turns
use Rattle.gateway.specs.declared.answers.ByteAnswer.{ByteAnswer}
use Rattle.gateway.specs.declared.answers.ByteAnswer.TheVariants as bytes
use Rattle.gateway.specs.Answers.{byte_number, turn_number, head_number, body_taken}
use Rattle.gateway.specs.Calls.{add_row, tick, head_of, set_network_error, check_date}
use Rattle.gateway.specs.Turn.{turn}
use Rattle.gateway.specs.Byte.{byte}
use Rattle.gateway.specs.View.{view, put}
use Rattle.gateway.specs.Results.{fresh, adding, ticking, turned, fed}
use Rattle.transfer.specs.Hand.{HandAnswer, hand_number, hand}

-- (01) reading the head, setting the network error, (02, M-101) checking the stored date and (02, M-112) writing a frame of the
-- hand-over: they touch neither the lines, nor the rows, nor the queue
pub data OtherCall : Type 0 where
  ReadHead : OtherCall
  SetNetworkError : ℕ → OtherCall
  CheckDate : OtherCall
  Hand : (place : ℕ) → (lent : List ℕ) → OtherCall

-- (01) what a turn brings of its device: the value that it accepted, or none for silence
abbrev pub Heard : Type 0
Heard = Option ℕ

-- (01) every public call on a gateway, with its arguments; a lent buffer is in the call as it was lent; (02, M-106) a byte is of a line
pub data Call : Type 0 where
  AddRow : Row → Call
  Byte : (line : Line) → (byte : ℕ) → (lent : List ℕ) → Call
  Tick : Call
  Turn : Field → (brought : Heard) → (lent : List ℕ) → Call
  Other : OtherCall → Call

-- (02, M-106) a field, named with the line whose byte asked for its update
pub record Named : Type 0 where
  pub line : Line
  pub field : Field

-- (01) what a call answers: `Refused` holds document 01's number, `Replied` the reply's bytes, `TimedOut` the fields that a tick lists;
-- (02, M-102) of a drop `Dropped` holds the number and how many body bytes were taken since its SOF; (02, M-106) what a turn confirms is
-- `RepliedTo` a line, and the head and the fields of a tick are named with their lines
pub data Answer : Type 0 where
  Refused : ℕ → Answer
  Dropped : (number taken : ℕ) → Answer
  Done : Answer
  Queued : (waiting : ℕ) → Answer
  Replied : List ℕ → Answer
  RepliedTo : Line → List ℕ → Answer
  TimedOut : List Named → Answer
  HeadIs : Line → Field → (asked : ℕ) → Answer

-- ---- the code's answers in these words; of a reply the bytes at the front of the buffer

-- (01) what adding a row answers: it is done, or why not
abbrev pub AddAnswer : Type 0
AddAnswer = Result (Unit {0}) RowRefusal

-- (01) adding a row: done, or 19 to 21
abbrev pub add_says : AddAnswer → Answer
add_says (Ok u) = Done
add_says (Err e) = Refused (row_number e)

-- (01) what reading the head answers: the update that waits, or that none does
abbrev pub HeadAnswer : Type 0
HeadAnswer = Result Waiting HeadRefusal

-- (01) reading the head: its field and the value asked for, (02, M-106) with its line; or 17
abbrev pub head_says : HeadAnswer → Answer
head_says (Err e) = Refused (head_number e)
head_says (Ok w) = HeadIs w.line w.field w.value

-- (01) a turn: refused by 1, 17 or 18; a failed try, which writes no reply; or the reply, (02, M-106) and the line that it is for
abbrev pub turn_says : TurnAnswer → List ℕ → Answer
turn_says (turns.Refused e) buffer = Refused (turn_number e)
turn_says turns.Failed buffer = Done
turn_says (turns.Replied l n) buffer = RepliedTo l (take n buffer)

-- (01; 02, M-102) a byte that is refused with this number and tells this count: a drop, or another refusal
abbrev pub refused_by : (number taken : ℕ) → Answer
refused_by number taken = cond (is_drop number) (Dropped number taken) (Refused number)

-- (01) a byte: nothing, refused by 1 or 3 to 16, queued with the number of updates that wait, or the reply
abbrev pub byte_says : ByteAnswer → List ℕ → Answer
byte_says bytes.Nothing buffer = Done
byte_says (bytes.Refused e) buffer = refused_by (byte_number e) (body_taken e)
byte_says (bytes.Queued n) buffer = Queued n
byte_says (bytes.Replied n) buffer = Replied (take n buffer)

-- (02, M-112) a frame of the hand-over: refused by 1 or 23; nothing past the last; or the frame
abbrev pub hand_says : HandAnswer → List ℕ → Answer
hand_says (Err e) buffer = Refused (hand_number e)
hand_says (Ok zero) buffer = Done
hand_says (Ok (suc n)) buffer = Replied (take (suc n) buffer)

-- (02, M-106) a field of a tick's answer, by the line that its number stands for
abbrev pub named_by : LineField → Named
named_by x = record { line = line_of x.line; field = x.field }

-- (01) the fields that a tick's answer lists, in queue order
abbrev pub fields_of : Fields → List Named
fields_of f = map named_by (take f.count f.list)

-- ---- one call

-- (ours) what one call leaves: the gateway, and the answer
pub record Ran : Type 0 where
  pub gateway : Gateway
  pub answer : Answer

-- (ours) what adding a row leaves, read off what the code hands back
abbrev pub add_ran : Added → Ran
add_ran x = record { gateway = x.gateway; answer = add_says x.answer }

-- (ours) a byte: the reply is read off the lent buffer as it is after the call
abbrev pub byte_ran : Fed → (buffer : List ℕ) → Ran
byte_ran x buffer = record { gateway = x.gateway; answer = byte_says x.answer buffer }

-- (ours) a tick
abbrev pub tick_ran : Ticked → Ran
tick_ran x = record { gateway = x.gateway; answer = TimedOut (fields_of x.fields) }

-- (ours) a turn: the reply is read off the lent buffer as it is after the call
abbrev pub turn_ran : Turned → (buffer : List ℕ) → Ran
turn_ran x buffer = record { gateway = x.gateway; answer = turn_says x.answer buffer }

-- (ours) reading the head hands no gateway back: the caller keeps its own
abbrev pub head_ran : Gateway → HeadAnswer → Ran
head_ran g x = record { gateway = g; answer = head_says x }

-- (02, M-112) writing a frame of the hand-over hands no gateway back either
abbrev pub hand_ran : Gateway → HandAnswer → (buffer : List ℕ) → Ran
hand_ran g x buffer = record { gateway = g; answer = hand_says x buffer }

-- (01; 02, M-101) setting the network error and checking the date hand back the next gateway alone: they are never refused
abbrev pub set_ran : Gateway → Ran
set_ran x = record { gateway = x; answer = Done }

-- (01; 02) the calls under `Other`, by their promises
unfoldable pub run_other : Gateway → OtherCall → Ran
run_other g ReadHead = head_ran g (head_of (view g))
run_other g (SetNetworkError n) = set_ran (put g (set_network_error (view g) n).effect)
run_other g CheckDate = set_ran (put g (check_date (view g)).effect)
run_other g (Hand place lent) =
    let m = hand (view g) place (length lent) in
    hand_ran g m.answer (overlay m.reply lent)

-- (01) every call, by its promise: a buffer after the call is its reply laid over it
unfoldable pub run : Gateway → Call → Ran
run g (AddRow r) = add_ran (adding g (add_row (view g) r))
run g (Byte l b lent) =
    let m = byte (view g) l b (length lent) in
    byte_ran (fed g m) (overlay m.reply lent)
run g Tick = tick_ran (ticking g (tick (view g)))
run g (Turn f h lent) =
    let m = turn (view g) f h (length lent) in
    turn_ran (turned g m) (overlay m.reply lent)
run g (Other o) = run_other g o

-- ---- a list of calls

-- (01) a call that was made, with its answer: what the ledger is fed
pub record Made : Type 0 where
  pub call : Call
  pub answer : Answer

-- (01) the gateway with which a list starts: no rows, no update waiting, (02, M-106) and fresh receivers
abbrev pub start : (firmware protocol : ℕ) → Gateway
start firmware protocol = fresh firmware protocol

-- (ours) the gateway after the calls
unfoldable pub gateway_after : Gateway → List Call → Gateway
gateway_after g [] = g
gateway_after g (c ∷ cs) = gateway_after (run g c).gateway cs

-- (ours) the calls, each with its answer
unfoldable pub calls_made : Gateway → List Call → List Made
calls_made g [] = []
calls_made g (c ∷ cs) = record { call = c; answer = (run g c).answer } ∷ calls_made (run g c).gateway cs
