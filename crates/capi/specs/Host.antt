-- A host in C and its list of calls: it hands back each time the gateway that it was given last. The calls as C makes them, what C
-- reads after each, and what that says by the numbers of the header. All of it is ours: it ties the C calls to demand 3's list.
use Rattle.std.specs.Prelude.{ℕ, cond, List, [], ◌∷◌, map, eqb, take}
use Rattle.devices.specs.declared.row.Row.{Row}
use Rattle.devices.specs.declared.field.Field.{Field}
use Rattle.updates.specs.declared.tick.Fields.{Fields}
use Rattle.updates.specs.Line.{line_of}
use Rattle.gateway.specs.declared.gateway.Gateway.{Gateway}
use Rattle.gateway.specs.Results as results
use Rattle.ledger.specs.Start.{Start}
use Rattle.ledger.specs.Start.Start.{fresh, read}
use Rattle.ledger.specs.Call.{OtherCall, Call, Answer, Made, refused_by, named_by}
use Rattle.ledger.specs.Call.Answer.{Refused, Done, Queued, Replied, RepliedTo, TimedOut, HeadIs}
use Rattle.capi.specs.declared.answers.CallAnswer.{CallAnswer}
use Rattle.capi.specs.declared.answers.HeadResult.{HeadResult}
use Rattle.capi.specs.declared.answers.DeviceAnswer.{DeviceAnswer}
use Rattle.capi.specs.Answers.{heard}
use Rattle.capi.specs.Calls as call

-- ---- one call

-- (ours) every call on a gateway as C makes it: a byte with any number for its line, a turn with any kind and state, and with any
-- value beside a silence. A lent buffer is in the call as it was lent
pub data HostCall : Type 0 where
  Add : Row → HostCall
  Byte : (line byte : ℕ) → (lent : List ℕ) → HostCall
  Tick : HostCall
  Turn : Field → DeviceAnswer → (lent : List ℕ) → HostCall
  Head : HostCall
  SetNetworkError : ℕ → HostCall
  CheckDate : HostCall
  Hand : (place : ℕ) → (lent : List ℕ) → HostCall

-- (ours) what C reads after each call: what it was handed beside the gateway, and the lent buffer
pub data Read : Type 0 where
  OfAdd : CallAnswer → Read
  OfByte : CallAnswer → (buffer : List ℕ) → Read
  OfTick : Fields → Read
  OfTurn : CallAnswer → (buffer : List ℕ) → Read
  OfHead : HeadResult → Read
  OfSet : Read
  OfHand : CallAnswer → (buffer : List ℕ) → Read

-- (ours) what a host has after a call: the gateway that it hands back next, and what it reads
pub record Handed : Type 0 where
  pub gateway : Gateway
  pub read : Read

-- (ours) one call, by the definition that its promise in `src/calls.rt` cites. `tha_head` and `tha_hand` hand no gateway back: the
-- host keeps its own
unfoldable pub handed : Gateway → HostCall → Handed
handed g (Add r) =
    let x = call.add g r in
    record { gateway = x.gateway; read = OfAdd x.answer }
handed g (Byte l b lent) =
    let x = call.byte g l b lent in
    record { gateway = x.result.gateway; read = OfByte x.result.answer x.buffer }
handed g Tick =
    let x = call.tick g in
    record { gateway = x.gateway; read = OfTick x.fields }
handed g (Turn f h lent) =
    let x = call.turn g f h lent in
    record { gateway = x.result.gateway; read = OfTurn x.result.answer x.buffer }
handed g Head = record { gateway = g; read = OfHead (call.head g) }
handed g (SetNetworkError n) = record { gateway = call.set_network_error g n; read = OfSet }
handed g CheckDate = record { gateway = call.check_date g; read = OfSet }
handed g (Hand place lent) =
    let x = call.hand g place lent in
    record { gateway = g; read = OfHand x.answer x.buffer }

-- ---- a list of calls

-- (ours) the gateway with which a host starts: that of `tha_fresh`, or that of `tha_read`
abbrev pub host_start : Start → Gateway
host_start (fresh firmware protocol) = results.fresh firmware protocol
host_start (read firmware protocol count bytes) = (call.read firmware protocol count bytes).gateway

-- (ours) a call that was made, with what C read after it
pub record HostMade : Type 0 where
  pub call : HostCall
  pub read : Read

-- (ours) the gateway that a host holds after the calls
unfoldable pub host_after : Gateway → List HostCall → Gateway
host_after g [] = g
host_after g (c ∷ cs) = host_after (handed g c).gateway cs

-- (ours) the calls, each with what C read after it
unfoldable pub host_made : Gateway → List HostCall → List HostMade
host_made g [] = []
host_made g (c ∷ cs) = record { call = c; read = (handed g c).read } ∷ host_made (handed g c).gateway cs

-- ---- in demand 3's words

-- (ours) the call in demand 3's words; (D-106) 0 is the controller's line, every other number the panel's
abbrev pub as_call : HostCall → Call
as_call (Add r) = Call.AddRow r
as_call (Byte l b lent) = Call.Byte (line_of l) b lent
as_call Tick = Call.Tick
as_call (Turn f h lent) = Call.Turn f (heard h) lent
as_call Head = Call.Other OtherCall.ReadHead
as_call (SetNetworkError n) = Call.Other (OtherCall.SetNetworkError n)
as_call CheckDate = Call.Other OtherCall.CheckDate
as_call (Hand place lent) = Call.Other (OtherCall.Hand place lent)

-- (ours) an outcome that the header does not name at the call: read as refused by 0, which is no number of document 01
abbrev pub not_named : Answer
not_named = Refused 0

-- (ours, D-60) `tha_add`, by the header's numbers: 5 is THA_ADDED, 1 THA_REFUSED
abbrev pub add_says : CallAnswer → Answer
add_says a = cond (eqb a.outcome 5) Done (cond (eqb a.outcome 1) (Refused a.number) not_named)

-- (ours, D-60) `tha_byte`: 0 is THA_NOTHING, 1 THA_REFUSED, of a drop with its count, 2 THA_QUEUED, 3 THA_REPLIED with the bytes at the
-- front of the buffer
abbrev pub byte_says : CallAnswer → (buffer : List ℕ) → Answer
byte_says a buffer =
    cond (eqb a.outcome 0) Done
    (cond (eqb a.outcome 1) (refused_by a.number a.count)
    (cond (eqb a.outcome 2) (Queued a.count)
    (cond (eqb a.outcome 3) (Replied (take a.count buffer)) not_named)))

-- (ours, D-60) `tha_turn`: 1 is THA_REFUSED, 3 THA_REPLIED to a line with the bytes at the front of the buffer, 4 THA_FAILED
abbrev pub turn_says : CallAnswer → (buffer : List ℕ) → Answer
turn_says a buffer =
    cond (eqb a.outcome 1) (Refused a.number)
    (cond (eqb a.outcome 3) (RepliedTo (line_of a.line) (take a.count buffer)) (cond (eqb a.outcome 4) Done not_named))

-- (ours, D-60) `tha_head`: the head where the number is 0, else refused with the number
abbrev pub head_says : HeadResult → Answer
head_says h = cond (eqb h.number 0) (HeadIs (line_of h.line) h.field h.value) (Refused h.number)

-- (ours, D-60) `tha_hand`: 1 is THA_REFUSED, 6 THA_WRITTEN with the bytes at the front of the buffer, none where the count is 0
abbrev pub hand_says : CallAnswer → (buffer : List ℕ) → Answer
hand_says a buffer =
    cond (eqb a.outcome 1) (Refused a.number)
    (cond (eqb a.outcome 6) (cond (eqb a.count 0) Done (Replied (take a.count buffer))) not_named)

-- (ours, D-60) what C reads, in demand 3's words; of a tick the first count of its list, each field with its line
abbrev pub says : Read → Answer
says (OfAdd a) = add_says a
says (OfByte a buffer) = byte_says a buffer
says (OfTick f) = TimedOut (map named_by (take f.count f.list))
says (OfTurn a buffer) = turn_says a buffer
says (OfHead h) = head_says h
says OfSet = Done
says (OfHand a buffer) = hand_says a buffer

-- (ours) a call that was made, in demand 3's words: what the ledger is fed
abbrev pub as_made : HostMade → Made
as_made m = record { call = as_call m.call; answer = says m.read }
