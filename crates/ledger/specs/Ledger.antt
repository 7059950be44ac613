-- The ledger (document 01's book): it is fed the calls' arguments and answers, and never sees the gateway.
use Rattle.std.specs.Prelude.{Bool, true, false, cond, not, List, [], ◌∷◌, ◌++◌, map, ℕ, suc, ltb, length, Result, Ok, Err}
use Rattle.std.proofs.Math.Option.{Option, none, some}
use Rattle.lists.specs.Filter.{filter}
use Rattle.tpck.specs.declared.event.Event.{Event}
use Rattle.tpck.specs.declared.event.Event.TheVariants as event
use Rattle.tpck.specs.Frame.{data_of}
use Rattle.tpck.specs.Receive as receive
use Rattle.devices.specs.declared.row.Row.{Row}
use Rattle.devices.specs.declared.field.Field.{Field}
use Rattle.devices.specs.Field.{same_field}
use Rattle.devices.specs.Table.{store}
use Rattle.updates.specs.declared.line.Line.{Line}
use Rattle.updates.specs.Line.{same_line}
use Rattle.trpc.specs.declared.judging.Judged.{Judged}
use Rattle.trpc.specs.declared.judging.Judged.TheVariants.{Asks, Answers}
use Rattle.trpc.specs.declared.judging.FrameError.{FrameError}
use Rattle.trpc.specs.Judging.{judge}
use Rattle.ledger.specs.Call.{Heard}
use Rattle.std.specs.Prelude.{None, Some}
use Rattle.gateway.specs.Lines.{Receivers, receiver_of, with_receiver, both_fresh}
use Rattle.ledger.specs.Call.{Call, Answer, Made}
use Rattle.ledger.specs.Call.Call.{AddRow, Byte, Tick, Turn, Other}

-- ---- the numbers of demand 3: they are document 01's, not those of the gateway's definitions, which the ledger is to check

-- (01) the tick, since its queueing, on which a wait ends, timed out
abbrev pub last_tick : ℕ
last_tick = 120

-- (01) the turn, since its queueing or last try, by which an update is tried: all turns are under it
abbrev pub last_turn : ℕ
last_turn = 16

-- (02, M-106) how many of one line may wait; one more of it is refused, by 16
abbrev pub most_of_line : ℕ
most_of_line = 8

-- (01) how many devices there may be; one more is refused, by 21
abbrev pub most_rows : ℕ
most_rows = 32

-- (01) the bytes that a reply buffer needs at least; a shorter one is refused, by 1
abbrev pub room_needed : ℕ
room_needed = 32

-- ---- what it holds

-- (01) A wait (document 01's slip) is an update that waits: its field, the ticks since it was queued, and the turns since it was
-- queued or last tried; (02, M-106) it names the line whose byte queued it. (ours) Its serial number, its place in the order of
-- queueing, tells two updates of one field apart, and the value that it asks for is what the head is to answer.
pub record Wait : Type 0 where
  pub serial : ℕ
  pub line : Line
  pub field : Field
  pub value : ℕ
  pub ticks : ℕ
  pub turns : ℕ

-- (01) how a queued update ends: by its confirmed answer, or by time-out
pub data Ending : Type 0 where
  Confirmed TimedOut : Ending

-- (01) a wait that ended, as it was then, and why
pub record Ended : Type 0 where
  pub wait : Wait
  pub why : Ending

-- (01) The table that the list's calls give and (02, M-106) the receiver of each line after that line's own used bytes, folded over
-- the calls alone; how many bytes were answered queued; the waits that are not over and those that ended. (ours) Waits stand in the
-- order of queueing, ended ones in the order of ending.
pub record Ledger : Type 0 where
  pub receivers : Receivers
  pub table : List Row
  pub queued : ℕ
  pub waiting : List Wait
  pub ended : List Ended

-- (02, M-112) empty, with the rows with which the list starts: no update waits or has waited, and both receivers are fresh
unfoldable pub opened : List Row → Ledger
opened rows = record { receivers = both_fresh; table = rows; queued = 0; waiting = []; ended = [] }

-- (01) empty at first: the list starts with no rows, none waiting and fresh receivers
abbrev pub empty : Ledger
empty = opened []

-- ---- readings of an answer

-- (01) refused, by any number
abbrev pub is_refused : Answer → Bool
is_refused (Answer.Refused n) = true
is_refused (Answer.Dropped n k) = true
is_refused Answer.Done = false
is_refused (Answer.Queued n) = false
is_refused (Answer.Replied b) = false
is_refused (Answer.RepliedTo l b) = false
is_refused (Answer.TimedOut fs) = false
is_refused (Answer.HeadIs l f v) = false

-- (01) a byte was answered queued
abbrev pub is_queued : Answer → Bool
is_queued (Answer.Refused n) = false
is_queued (Answer.Dropped n k) = false
is_queued Answer.Done = false
is_queued (Answer.Queued n) = true
is_queued (Answer.Replied b) = false
is_queued (Answer.RepliedTo l b) = false
is_queued (Answer.TimedOut fs) = false
is_queued (Answer.HeadIs l f v) = false

-- (01) a reply was written
abbrev pub is_replied : Answer → Bool
is_replied (Answer.Refused n) = false
is_replied (Answer.Dropped n k) = false
is_replied Answer.Done = false
is_replied (Answer.Queued n) = false
is_replied (Answer.Replied b) = true
is_replied (Answer.RepliedTo l b) = true
is_replied (Answer.TimedOut fs) = false
is_replied (Answer.HeadIs l f v) = false

-- ---- waits

-- (01) the wait's field is this one
abbrev pub is_of : Field → Wait → Bool
is_of f s = same_field f s.field

-- (02, M-106) a byte of the line queued it
abbrev pub is_on : Line → Wait → Bool
is_on l s = same_line l s.line

-- (01) another field was tried: turns rise by 1
abbrev pub raised : Wait → Wait
raised s = record { serial = s.serial; line = s.line; field = s.field; value = s.value; ticks = s.ticks; turns = suc s.turns }

-- (01) its own try failed: turns 0
abbrev pub retried : Wait → Wait
retried s = record { serial = s.serial; line = s.line; field = s.field; value = s.value; ticks = s.ticks; turns = 0 }

-- (01) a tick: ticks rise by 1
abbrev pub aged : Wait → Wait
aged s = record { serial = s.serial; line = s.line; field = s.field; value = s.value; ticks = suc s.ticks; turns = s.turns }

-- (01) after a tick it waits on: its ticks are under 120
abbrev pub stays : Wait → Bool
stays s = ltb s.ticks last_tick

-- (01) it goes, timed out: its ticks have reached 120
abbrev pub goes : Wait → Bool
goes s = not (stays s)

-- (01) the wait that ended, and why
abbrev pub ended_by : Ending → Wait → Ended
ended_by w s = record { wait = s; why = w }

-- ---- what the list's used bytes ask for

-- (01) what an Update asks for: a field, and its value; (02, M-106) and the line whose bytes bring it
pub record Ask : Type 0 where
  pub line : Line
  pub field : Field
  pub value : ℕ

-- (01) the Update that a frame of a line brings, where 7 to 14 pass and steps 1 and 2 give no reply
abbrev pub ask_in : Line → Result Judged FrameError → Option Ask
ask_in l (Err e) = none
ask_in l (Ok (Asks f v)) = some (record { line = l; field = f; value = v })
ask_in l (Ok (Answers e s)) = none

-- (01) the Update in the frame that an event completes, if it completes one; its data are in the receiver's body
abbrev pub ask_at : List Row → Line → List ℕ → Event → Option Ask
ask_at t l body event.Nothing = none
ask_at t l body (event.Dropped d n) = none
ask_at t l body (event.Frame ptype size) = ask_in l (judge ptype (data_of body) t)

-- (02, M-106) the step of the line's receiver, after the line's own used bytes
abbrev pub step_on : Ledger → Line → ℕ → receive.Step
step_on b l x = receive.step (receiver_of b.receivers l) x

-- (01) the Update that this byte of the line completes, with the table that the calls then give
abbrev pub asked : Ledger → Line → ℕ → Option Ask
asked b l x = ask_at b.table l (step_on b l x).next.body (step_on b l x).event

-- ---- feeding

-- (ours) the ledger with other receivers
abbrev pub with_receivers : Ledger → Receivers → Ledger
with_receivers b r = record { receivers = r; table = b.table; queued = b.queued; waiting = b.waiting; ended = b.ended }

-- (ours) the ledger with other rows
abbrev pub with_table : Ledger → List Row → Ledger
with_table b t = record { receivers = b.receivers; table = t; queued = b.queued; waiting = b.waiting; ended = b.ended }

-- (ours) the ledger with one more wait, the last in the order of queueing, and one more counted as queued
abbrev pub with_wait : Ledger → Wait → Ledger
with_wait b s = record { receivers = b.receivers; table = b.table; queued = suc b.queued; waiting = b.waiting ++ (s ∷ []); ended = b.ended }

-- (ours) the ledger with other waits; none ended
abbrev pub with_waiting : Ledger → List Wait → Ledger
with_waiting b l = record { receivers = b.receivers; table = b.table; queued = b.queued; waiting = l; ended = b.ended }

-- (ours) the ledger in which these wait on, and these ended by w
abbrev pub with_ended : Ledger → List Wait → Ending → List Wait → Ledger
with_ended b l w m = record { receivers = b.receivers; table = b.table; queued = b.queued; waiting = l; ended = b.ended ++ map (ended_by w) m }

-- (01) byte answered queued: a wait with its Update's field and value, 0 and 0; (02, M-106) and its line
abbrev pub wait_for : Ledger → Ask → Wait
wait_for b a = record { serial = b.queued; line = a.line; field = a.field; value = a.value; ticks = 0; turns = 0 }

-- (01) a new wait for the Update that the byte completed, where the byte was answered queued
unfoldable pub new_wait : Ledger → (queued : Bool) → Option Ask → Ledger
new_wait b false a = b
new_wait b true none = b
new_wait b true (some a) = with_wait b (wait_for b a)

-- (01) a byte is used unless its buffer is short; (02, M-106) by the receiver of its line alone
unfoldable pub feed_byte : Ledger → Line → ℕ → (short : Bool) → Answer → Ledger
feed_byte b l x true a = b
feed_byte b l x false a = new_wait (with_receivers b (with_receiver b.receivers l (step_on b l x).next)) (is_queued a) (asked b l x)

-- (01) the value brought is stored where a reply was written
abbrev pub stored_in : List Row → Field → Heard → List Row
stored_in t f None = t
stored_in t f (Some v) = store t f v

-- (01) a failed try: turns 0; the other waits' turns rise by 1
abbrev pub after_failure : Field → Wait → Wait
after_failure f s = cond (is_of f s) (retried s) (raised s)

-- (01) turn not refused: tries its field's wait; if a reply was written, that wait goes, confirmed
unfoldable pub tried : Ledger → Field → Heard → (replied : Bool) → Ledger
tried b f v true =
    with_ended (with_table b (stored_in b.table f v)) (map raised (filter (λ s. not (is_of f s)) b.waiting)) Confirmed (filter (is_of f) b.waiting)
tried b f v false = with_waiting b (map (after_failure f) b.waiting)

-- (01) a refused turn: nothing; any other is a try, and a reply tells that it was confirmed
unfoldable pub feed_turn : Ledger → Field → Heard → (refused : Bool) → Answer → Ledger
feed_turn b f v true a = b
feed_turn b f v false a = tried b f v (is_replied a)

-- (01) tick: ticks rise by 1; waits at 120, the last tick, go, timed out
unfoldable pub feed_tick : Ledger → Ledger
feed_tick b = with_ended b (filter stays (map aged b.waiting)) TimedOut (filter goes (map aged b.waiting))

-- (01) the table that the calls give: a row that is added stands after the last, a refused one changes nothing
unfoldable pub feed_row : Ledger → Row → (refused : Bool) → Ledger
feed_row b r true = b
feed_row b r false = with_table b (b.table ++ (r ∷ []))

-- (01) all else, refused too: nothing
unfoldable pub feed : Ledger → Call → Answer → Ledger
feed b (AddRow r) a = feed_row b r (is_refused a)
feed b (Byte l x lent) a = feed_byte b l x (ltb (length lent) room_needed) a
feed b Tick a = feed_tick b
feed b (Turn f v lent) a = feed_turn b f v (is_refused a) a
feed b (Other o) a = b

-- (01) the ledger after calls with their answers
unfoldable pub ledger_after : Ledger → List Made → Ledger
ledger_after b [] = b
ledger_after b (m ∷ ms) = ledger_after (feed b m.call m.answer) ms
