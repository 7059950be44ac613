-- Demand 3 of a gateway and a ledger: what holds after a list, and of each call of it. Each field has its sentence of document 01.
use Rattle.std.specs.Prelude.{◌≡◌, Bool, true, false, cond, List, [], ◌∷◌, ◌++◌, map, ℕ, zero, suc, ◌<◌, ◌≤◌, ltb, leb, eqb, length}
use Rattle.std.proofs.Math.Option.{Option, none, some}
use Rattle.lists.specs.Filter.{filter, any, All}
use Rattle.lists.specs.Permutation.{Permutation}
use Rattle.tpck.specs.Event.{Told, nothing, drop_with, frame_of}
use Rattle.tpck.specs.Receive as receive
use Rattle.devices.specs.declared.row.Row.{Row}
use Rattle.devices.specs.declared.field.Field.{Field}
use Rattle.devices.specs.Field.{Formed, same_field}
use Rattle.devices.specs.Row.{keeps_rules}
use Rattle.updates.specs.declared.line.Line.{Line}
use Rattle.updates.specs.declared.update.Update.{Update}
use Rattle.updates.specs.Update.{line_in}
use Rattle.dates.specs.Date.{ValidOrNA}
use Rattle.trpc.specs.Properties.{properties}
use Rattle.ledger.specs.Call.{Heard}
use Rattle.gateway.specs.Lines.{receiver_of}
use Rattle.gateway.specs.State.{State}
use Rattle.gateway.specs.Turn.{stores}
use Rattle.transfer.specs.Hand.{line_at}
use Rattle.ledger.specs.Call.{OtherCall, Call, Named, Answer}
use Rattle.ledger.specs.Call.OtherCall.{ReadHead, SetNetworkError, CheckDate, Hand}
use Rattle.ledger.specs.Call.Call.{AddRow, Byte, Tick, Turn, Other}
use Rattle.ledger.specs.Call.Answer.{Refused, Dropped, Done, Queued, Replied, RepliedTo, TimedOut, HeadIs}
use Rattle.ledger.specs.Ledger.{last_tick, last_turn, most_of_line, most_rows, room_needed, Wait, Ending, Ended, Ledger, Ask, is_of, is_on, is_refused, is_replied, aged, goes, step_on, asked}

-- ---- after the list

-- (01) a field with its ticks, (02, M-106) its line, (ours) and the value asked for: what the ledger and the queue both know of a
-- waiting update
pub record Aged : Type 0 where
  pub line : Line
  pub field : Field
  pub value : ℕ
  pub ticks : ℕ

-- (01) a wait, so seen
abbrev pub of_wait : Wait → Aged
of_wait s = record { line = s.line; field = s.field; value = s.value; ticks = s.ticks }

-- (01) an update of the queue, so seen: its age is its ticks
abbrev pub of_update : Update → Aged
of_update u = record { line = line_in u; field = u.field; value = u.value; ticks = u.age }

-- (01) no two of a list are the same: each once
abbrev pub Distinct : {A : Type 0} → List A → Type 0
Distinct [] = Unit {0}
Distinct (x ∷ l) = All (λ y. x ≡ y → ⊥) l × Distinct l

-- (01) a wait that is not over: its last tick and its last turn are still to come
pub record InTime (s : Wait) : Type 0 where
  -- (01) those reaching 120 leave
  pub ticks : s.ticks < last_tick
  -- (01) all turns are under 16
  pub turns : s.turns < last_turn

-- (01) it ended by its confirmed answer before the 120th tick, or by time-out on it
abbrev pub AtItsTime : Ending → Wait → Type 0
AtItsTime Ending.Confirmed s = s.ticks < last_tick
AtItsTime Ending.TimedOut s = s.ticks ≡ last_tick

-- (01) a wait that ended: at its time, and with its turns under 16; what it had at each of its tries is in `Lives`
pub record EndedWell (e : Ended) : Type 0 where
  pub ticks : AtItsTime e.why e.wait
  pub turns : e.wait.turns < last_turn

-- (ours) 0, 1, .. up to n - 1: the serial numbers of n queued updates
abbrev pub below : ℕ → List ℕ
below zero = []
below (suc n) = below n ++ (n ∷ [])

-- (01) the rows of a table, as 19, 20 and 21 let them in
pub record RowsRight (l : List Row) : Type 0 where
  -- (01) every row keeps the rules of a row
  pub rules : All (λ r. keeps_rules r ≡ true) l
  -- (01) each address once
  pub once : Distinct (map (λ r. r.address) l)
  -- (01) at most 32
  pub few : length l ≤ most_rows

-- (02, M-106) the waits of a line
abbrev pub waits_of : Ledger → Line → List Wait
waits_of b l = filter (is_on l) b.waiting

-- (01, "After the list"; demand 3) after the list: the gateway's state and the ledger
pub record Agree (g : State) (b : Ledger) : Type 0 where
  -- (01) after the list the queue holds the slips' fields, ages their ticks; (02, M-106) each update names the line of its slip; (ours)
  -- and the values that were asked for
  pub held : Permutation (map of_wait b.waiting) (map of_update g.queue)
  -- (01) each once
  pub once : Distinct (map (λ u. u.field) g.queue)
  -- (01) each is a field: of one of the four methods, and with no state where it is a mode's
  pub formed : All Formed (map (λ u. u.field) g.queue)
  -- (01) all turns are under 16, and no slip stays past its 120th tick
  pub in_time : All InTime b.waiting
  -- (02, M-106) at most eight of a line wait
  pub places : (l : Line) → length (waits_of b l) ≤ most_of_line
  -- (01) each queued update waits or has ended exactly once
  pub accounted : Permutation (map (λ s. s.serial) b.waiting ++ map (λ e. e.wait.serial) b.ended) (below b.queued)
  -- (01) by its confirmed answer or by time-out on the 120th tick
  pub ended_well : All EndedWell b.ended
  -- (01) the table that the calls give, and (02, M-106) each line's receiver after that line's own used bytes, are the gateway's
  pub table : g.table ≡ b.table
  pub receivers : g.receivers ≡ b.receivers
  -- (01) the rows are still as 19, 20 and 21 let them in, whatever turns have stored
  pub rows : RowsRight g.table
  -- (02, M-101) the stored date is valid or NA, whatever was sent
  pub date : ValidOrNA g.properties.date

-- ---- a turn

-- (01) 17, 18
abbrev pub head_refusal : Field → List Update → Option ℕ
head_refusal f [] = some 17
head_refusal f (u ∷ q) = cond (same_field f u.field) none (some 18)

-- (01) 1, before them
abbrev pub turn_refusal : (short : Bool) → Field → List Update → Option ℕ
turn_refusal true f q = some 1
turn_refusal false f q = head_refusal f q

-- (01) the same for what is no field of document 01: (ours) a kind above 3, a mode with another state than 0. The head is never such
abbrev pub no_field_refusal : (short : Bool) → List Update → Option ℕ
no_field_refusal true q = some 1
no_field_refusal false [] = some 17
no_field_refusal false (u ∷ q) = some 18

-- (01) the number with which an answer refuses; none of any other
abbrev pub refusal : Answer → Option ℕ
refusal (Refused n) = some n
refusal (Dropped n k) = some n
refusal Done = none
refusal (Queued n) = none
refusal (Replied b) = none
refusal (RepliedTo l b) = none
refusal (TimedOut fs) = none
refusal (HeadIs l f v) = none

-- (01) the field of the update at the head, if one waits
abbrev pub head_field : List Update → Option Field
head_field [] = none
head_field (u ∷ q) = some u.field

-- (02, M-106) the line that an answer is told to: that of a turn's reply
abbrev pub told_to : Answer → Option Line
told_to (Refused n) = none
told_to (Dropped n k) = none
told_to Done = none
told_to (Queued n) = none
told_to (Replied b) = none
told_to (RepliedTo l b) = some l
told_to (TimedOut fs) = none
told_to (HeadIs l f v) = none

-- (02, M-106) an answer was told to the line of the slip of f
pub record ToldRight (b : Ledger) (f : Field) (a : Answer) : Type 0 where
  pub line : Line
  pub told : told_to a ≡ some line
  pub own : All (λ s. is_of f s ≡ true → s.line ≡ line) b.waiting

-- (01) a turn that named f and brought v, against the gateway and the ledger before it
pub record TurnRight (g : State) (b : Ledger) (f : Field) (v : Heard) (lent : List ℕ) (a : Answer) : Type 0 where
  -- (01) a turn was refused just where 1, 17 or 18 says
  pub refused : refusal a ≡ turn_refusal (ltb (length lent) room_needed) f g.queue
  -- (01) each other found its slip, at the head
  pub found : is_refused a ≡ false → (any (is_of f) b.waiting ≡ true) × (head_field g.queue ≡ some f)
  -- (01) 18 where an update waits and the turn names what is no field: every field that waits is one
  pub no_field : (Formed f → ⊥) → refusal a ≡ no_field_refusal (ltb (length lent) room_needed) g.queue
  -- (01) and wrote a reply just where the turn rule stores the value brought
  pub wrote : is_refused a ≡ false → is_replied a ≡ stores b.table f v
  -- (02, M-106) the reply names the line of its slip
  pub told : is_replied a ≡ true → ToldRight b f a

-- ---- a tick

-- (01) the waits that end at a tick: those that it brings to 120
abbrev pub due : Ledger → List Wait
due b = filter goes (map aged b.waiting)

-- (02, M-106) a wait's field, named with its line
abbrev pub named_as : Wait → Named
named_as s = record { line = s.line; field = s.field }

-- (01) a tick, against the ledger before it
pub record TickRight (b : Ledger) (a : Answer) : Type 0 where
  pub listed : List Named
  pub answers : a ≡ TimedOut listed
  -- (01) each tick listed just the fields that went, (02, M-106) each named with the line of its slip
  pub went : Permutation (map named_as (due b)) listed

-- ---- queueing

-- (01) what an answer says of queueing: nothing, 16, or queued with the number of updates that wait
pub data Admission : Type 0 where
  NotQueued NoRoom : Admission
  QueuedAs : ℕ → Admission

-- (01) it is read off the answer: 16 is no room, any other number says nothing of queueing
abbrev pub admission : Answer → Admission
admission (Refused n) = cond (eqb n 16) NoRoom NotQueued
admission (Dropped n k) = NotQueued
admission Done = NotQueued
admission (Queued n) = QueuedAs n
admission (Replied b) = NotQueued
admission (RepliedTo l b) = NotQueued
admission (TimedOut fs) = NotQueued
admission (HeadIs l f v) = NotQueued

-- (01; 02, M-106) one is refused for lack of room exactly when eight of its line wait; the number in "queued" is that of both lines
abbrev pub admitted_in : Ledger → Line → Admission
admitted_in b l = cond (ltb (length (waits_of b l)) most_of_line) (QueuedAs (suc (length b.waiting))) NoRoom

-- (01) an Update that 7 to 14 and steps 1 and 2 let through would otherwise be queued where 15 passes too: no slip of either
-- line has its field
abbrev pub admission_for : Ledger → Option Ask → Admission
admission_for b none = NotQueued
admission_for b (some a) = cond (any (is_of a.field) b.waiting) NotQueued (admitted_in b a.line)

-- (01) what a call must say of queueing: a byte that is used, as above; any other call, and a byte refused by 1, nothing
abbrev pub admission_due : Ledger → Call → Admission
admission_due b (AddRow r) = NotQueued
admission_due b (Byte l x lent) = cond (ltb (length lent) room_needed) NotQueued (admission_for b (asked b l x))
admission_due b Tick = NotQueued
admission_due b (Turn f v lent) = NotQueued
admission_due b (Other o) = NotQueued

-- ---- reading the head, the network error, the stored date, and the hand-over

-- (01) the head's field and the value asked for, (02, M-106) with its line; with none waiting 17
abbrev pub head_answer : List Update → Answer
head_answer [] = Refused 17
head_answer (u ∷ q) = HeadIs (line_in u) u.field u.value

-- (01) reading the head, with the gateway before it and after
pub record HeadRight (g : State) (a : Answer) (after : State) : Type 0 where
  -- (01) the caller may read the head: its field and the value asked for; with none waiting that answers 17
  pub answers : a ≡ head_answer g.queue
  -- (ours) reading changes nothing, with an update waiting or without
  pub unchanged : after ≡ g

-- (01) a state with another network error, all else as it is
abbrev pub with_network_error : State → ℕ → State
with_network_error g n =
    let s = g.properties in
    record { receivers = g.receivers; table = g.table; queue = g.queue; properties = properties n s.reporting s.firmware s.protocol s.date }

-- (01) setting the network error to n, with the gateway before it and after
pub record ErrorRight (g : State) (n : ℕ) (a : Answer) (after : State) : Type 0 where
  -- (01) the owner may set the network error at any time: it is never refused
  pub answers : a ≡ Done
  -- (01) it is then the error that was set; (ours) and nothing else changes
  pub set : after ≡ with_network_error g n

-- (02, M-101) the owner's check of the stored date, with the gateway before it and after
pub record DateRight (g : State) (a : Answer) (after : State) : Type 0 where
  -- (ours, D-85) it answers nothing, and is never refused
  pub answers : a ≡ Done
  -- (ours, D-86) in a list of calls from fresh it has no effect: the date that it finds is valid or NA
  pub no_effect : after ≡ g

-- (02, M-112) 1 for a short buffer, then 23 where a slip is in the ledger
abbrev pub hand_refusal : (short : Bool) → List Wait → Option ℕ
hand_refusal true l = some 1
hand_refusal false [] = none
hand_refusal false (s ∷ l) = some 23

-- (02, M-112) a frame, or nothing past the last
abbrev pub frame_answer : List ℕ → Answer
frame_answer [] = Done
frame_answer (x ∷ l) = Replied (x ∷ l)

-- (02, M-112) a frame of the hand-over that the writer was asked for, against the gateway and the ledger before it and the gateway
-- after it
pub record HandRight (g : State) (b : Ledger) (place : ℕ) (lent : List ℕ) (a : Answer) (after : State) : Type 0 where
  -- (02) it was refused just where 1 or 23 says: 23 just where an update waits by the ledger
  pub refused : refusal a ≡ hand_refusal (ltb (length lent) room_needed) b.waiting
  -- (02) else it wrote the frame at that place, "past the last, nothing"
  pub wrote : is_refused a ≡ false → a ≡ frame_answer (line_at g place)
  -- (ours) the writer changes nothing
  pub keeps : after ≡ g

-- (01; 02) the calls under `Other`
abbrev pub OtherRight : State → Ledger → OtherCall → Answer → (after : State) → Type 0
OtherRight g b ReadHead a after = HeadRight g a after
OtherRight g b (SetNetworkError n) a after = ErrorRight g n a after
OtherRight g b CheckDate a after = DateRight g a after
OtherRight g b (Hand place lent) a after = HandRight g b place lent a after

-- ---- adding a row

-- (01) 19 where the row breaks the rules, then 20 where its address is in the table, then 21 where there are 32 rows
abbrev pub row_refusal : List Row → Row → Option ℕ
row_refusal l r =
    cond (keeps_rules r)
    (cond (any (λ x. eqb x.address r.address) l) (some 20)
    (cond (leb most_rows (length l)) (some 21)
    none))
    (some 19)

-- (01) a refused row changes nothing; any other stands after the last, (ours) and nothing else changes
abbrev pub with_row : State → Row → (refused : Bool) → State
with_row g r true = g
with_row g r false = record { receivers = g.receivers; table = g.table ++ (r ∷ []); queue = g.queue; properties = g.properties }

-- (01) a row that is offered, against the gateway and the ledger before it and the gateway after it
pub record RowRight (g : State) (b : Ledger) (r : Row) (a : Answer) (after : State) : Type 0 where
  -- (01) it was refused just where 19, 20 or 21 says, by the table that the calls before it give
  pub refused : refusal a ≡ row_refusal b.table r
  -- (01) and it was added just where it was not refused
  pub added : after ≡ with_row g r (is_refused a)

-- ---- each call

-- (01) refused by 1
abbrev pub is_short : Answer → Bool
is_short (Refused n) = eqb n 1
is_short (Dropped n k) = false
is_short Done = false
is_short (Queued n) = false
is_short (Replied b) = false
is_short (RepliedTo l b) = false
is_short (TimedOut fs) = false
is_short (HeadIs l f v) = false

-- (01; 02, M-102) the drop that an answer tells: its number, and how many body bytes were taken; none of any other
abbrev pub drop_said : Answer → Option (ℕ × ℕ)
drop_said (Refused n) = none
drop_said (Dropped n k) = some (n, k)
drop_said Done = none
drop_said (Queued n) = none
drop_said (Replied b) = none
drop_said (RepliedTo l b) = none
drop_said (TimedOut fs) = none
drop_said (HeadIs l f v) = none

-- (01; 02, M-102) the drop in what a byte does at the packet layer
abbrev pub drop_in : Told → Option (ℕ × ℕ)
drop_in nothing = none
drop_in (drop_with n k) = some (n, k)
drop_in (frame_of ptype content) = none

-- (01; 02, M-102) the drop that a byte must tell: that of the receiver's step, and none where the buffer is short
abbrev pub drop_due : (short : Bool) → receive.Step → Option (ℕ × ℕ)
drop_due true s = none
drop_due false s = drop_in (receive.told_of s)

-- (01; 02, M-102) the byte x of the line l, against the ledger before it
pub record ByteRight (b : Ledger) (l : Line) (x : ℕ) (lent : List ℕ) (a : Answer) : Type 0 where
  -- (01) it was refused by 1 just where its buffer is short
  pub short : is_short a ≡ ltb (length lent) room_needed
  -- (01; 02, M-102) it told a drop just where it drops the packet of its line's receiver after that line's used bytes, with that
  -- number and count
  pub dropped : drop_said a ≡ drop_due (ltb (length lent) room_needed) (step_on b l x)
  -- (02, M-102) and the count was of the body bytes taken since its SOF
  pub counted : (number taken : ℕ) → a ≡ Dropped number taken → taken ≡ length (receiver_of b.receivers l).body
  -- (02, M-106) it was refused with 16 only if eight of its own line waited, however many of the other did
  pub own_places : a ≡ Refused 16 → length (waits_of b l) ≡ most_of_line
  -- (02, M-106) with fewer than eight of its own an Update that 7 to 15 let through was queued
  pub served : ltb (length lent) room_needed ≡ false → (u : Ask) → asked b l x ≡ some u → any (is_of u.field) b.waiting ≡ false
      → length (waits_of b l) < most_of_line → a ≡ Queued (suc (length b.waiting))

-- (01; 02) what is asked of each call beside queueing, as above
abbrev pub AnswerRight : State → Ledger → Call → Answer → (after : State) → Type 0
AnswerRight g b (AddRow r) a after = RowRight g b r a after
AnswerRight g b (Byte l x lent) a after = ByteRight b l x lent a
AnswerRight g b Tick a after = TickRight b a
AnswerRight g b (Turn f v lent) a after = TurnRight g b f v lent a
AnswerRight g b (Other o) a after = OtherRight g b o a after

-- (01) one call and its answer, against the gateway and the ledger before it and the gateway after it
pub record CallRight (g : State) (b : Ledger) (c : Call) (a : Answer) (after : State) : Type 0 where
  -- (01) it was then answered queued, or 16 where there is no room, and no other byte was answered queued
  pub queueing : admission a ≡ admission_due b c
  -- (01; 02) rows, turns, ticks, the head, the network error, the date and the hand-over as above; a byte was used unless refused by
  -- 1, and that just where its buffer is short, and told what it dropped
  pub answering : AnswerRight g b c a after
