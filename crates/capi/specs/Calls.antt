-- The calls of a host in C: what each hands back, and what a lent buffer holds after it. Each is the gateway's own call, its answer
-- with numbers in place of enums. The promises of `src/calls.rt` cite these definitions, and so does the theorem over lists of calls.
use Rattle.std.specs.Prelude.{ℕ, List, length}
use Rattle.lists.specs.Overlay.{overlay}
use Rattle.tpck.specs.Write as writer
use Rattle.devices.specs.declared.row.Row.{Row}
use Rattle.devices.specs.declared.field.Field.{Field}
use Rattle.updates.specs.Line.{line_of}
use Rattle.gateway.specs.declared.gateway.Gateway.{Gateway}
use Rattle.gateway.specs.declared.gateway.Ticked.{Ticked}
use Rattle.gateway.specs.View.{view, put}
use Rattle.gateway.specs.Calls as calls
use Rattle.gateway.specs.Byte as bytes
use Rattle.gateway.specs.Turn as turns
use Rattle.gateway.specs.Results.{adding, ticking, turned, fed}
use Rattle.blocks.specs.Block as blocks
use Rattle.blocks.specs.Cutting.{area_after}
use Rattle.transfer.specs.Hand as writing
use Rattle.transfer.specs.Reading as reading
use Rattle.capi.specs.declared.answers.Blocked.{Blocked}
use Rattle.capi.specs.declared.answers.CallAnswer.{CallAnswer}
use Rattle.capi.specs.declared.answers.CallResult.{CallResult}
use Rattle.capi.specs.declared.answers.HeadResult.{HeadResult}
use Rattle.capi.specs.declared.answers.DeviceAnswer.{DeviceAnswer}
use Rattle.capi.specs.Answers.{of_byte, of_block, of_turn, of_add, of_written, of_hand, of_read, of_head, heard}

-- (ours) the next gateway, and the answer
abbrev pub result : Gateway → CallAnswer → CallResult
result g a = record { gateway = g; answer = a }

-- (ours) what a call that is lent a buffer leaves: what it hands back, and the buffer
pub record Lent : Type 0 where
  pub result : CallResult
  pub buffer : List ℕ

-- (01) a row is added after the last, or refused
abbrev pub add : Gateway → Row → CallResult
add g r =
    let x = adding g (calls.add_row (view g) r) in
    result x.gateway (of_add x.answer)

-- (01) a byte of the line that a number stands for; a reply lies over the front of the buffer
abbrev pub byte : Gateway → (line byte : ℕ) → (lent : List ℕ) → Lent
byte g l b lent =
    let m = bytes.byte (view g) (line_of l) b (length lent) in
    let x = fed g m in
    record { result = result x.gateway (of_byte x.answer); buffer = overlay m.reply lent }

-- (02, M-100) what a call that is lent an area leaves: what it hands back, and the area
pub record LentArea : Type 0 where
  pub blocked : Blocked
  pub area : List ℕ

-- (02, M-100) a block of the line that a number stands for: the replies lie over the front of the area, one behind the other
abbrev pub block : Gateway → (line : ℕ) → (bytes area : List ℕ) → LentArea
block g l bytes area =
    record { blocked = of_block (blocks.block g (line_of l) bytes (length area)); area = area_after g (line_of l) bytes area }

-- (01) a turn: a field is named, and what its device answered is brought; a reply lies over the front of the buffer
abbrev pub turn : Gateway → Field → DeviceAnswer → (lent : List ℕ) → Lent
turn g f h lent =
    let m = turns.turn (view g) f (heard h) (length lent) in
    let x = turned g m in
    record { result = result x.gateway (of_turn x.answer); buffer = overlay m.reply lent }

-- (01) a second passes; what the gateway's tick hands back crosses to C as it is
abbrev pub tick : Gateway → Ticked
tick g = ticking g (calls.tick (view g))

-- (01) the update to be tried next
abbrev pub head : Gateway → HeadResult
head g = of_head (calls.head_of (view g))

-- (01) the owner sets the network error
abbrev pub set_network_error : Gateway → ℕ → Gateway
set_network_error g n = put g (calls.set_network_error (view g) n).effect

-- (02, M-101) the owner has the stored date checked
abbrev pub check_date : Gateway → Gateway
check_date g = put g (calls.check_date (view g)).effect

-- (ours) what a call leaves that hands no gateway back: its answer, and the lent buffer
pub record Wrote : Type 0 where
  pub answer : CallAnswer
  pub buffer : List ℕ

-- (01) the frame of a type and data is written, or refused
abbrev pub write : (ptype : ℕ) → (content lent : List ℕ) → Wrote
write ptype content lent =
    record { answer = of_written (writer.write ptype content lent); buffer = writer.buffer ptype content lent }

-- (02, M-112) one frame of the gateway's hand-over is written, or refused; it lies over the front of the buffer
abbrev pub hand : Gateway → (place : ℕ) → (lent : List ℕ) → Wrote
hand g place lent =
    let m = writing.hand (view g) place (length lent) in
    record { answer = of_hand m.answer; buffer = overlay m.reply lent }

-- (02, M-112) a hand-over is read: the gateway that it carries, or the fresh one
abbrev pub read : (firmware protocol count : ℕ) → (bytes : List ℕ) → CallResult
read firmware protocol count bytes =
    let x = reading.read firmware protocol count bytes in
    result x.gateway (of_read x.answer)
