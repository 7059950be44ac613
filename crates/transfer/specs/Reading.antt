-- The reader (document 02, M-112): byte by byte, the first refusal met.
use Rattle.std.specs.Prelude.{ℕ, suc, ◌+◌, List, [], ◌∷◌, Bool, cond, not, ◌&&◌, length, take, drop, eqb, ltb, Result, Ok, Err}
use Rattle.lists.specs.Equal.{equal}
use Rattle.tpck.specs.declared.receiver.Receiver.{Receiver}
use Rattle.tpck.specs.declared.receiver.Received.{Received}
use Rattle.tpck.specs.declared.event.Event.{Event}
use Rattle.tpck.specs.declared.event.Event.TheVariants.{Nothing, Dropped, Frame}
use Rattle.tpck.specs.Frame.{sof}
use Rattle.tpck.specs.Receive as line
use Rattle.devices.specs.declared.table.Table.{Table}
use Rattle.devices.specs.declared.table.RowRefusal.{RowRefusal}
use Rattle.devices.specs.declared.table.RowRefusal.TheVariants.{TableFull}
use Rattle.devices.specs.Table.{rows_of, fresh_table, row_number, table_places, add}
use Rattle.trpc.specs.Judging.{record_type}
use Rattle.updates.specs.Queue.{fresh_queue}
use Rattle.gateway.specs.Results as gateway
use Rattle.transfer.specs.declared.draft.Draft.{Draft}
use Rattle.transfer.specs.declared.reader.ReadRefusal.{ReadRefusal}
use Rattle.transfer.specs.declared.reader.ReadRefusal.TheVariants.{NotDue, Row, Length}
use Rattle.transfer.specs.declared.reader.Refused.{Refused}
use Rattle.transfer.specs.declared.reader.Handover.{Handover}
use Rattle.transfer.specs.declared.reader.Reader.{Reader}
use Rattle.transfer.specs.Slots.{slot_at}
use Rattle.transfer.specs.Contents.{content_of}
use Rattle.transfer.specs.Carry.{took, fresh_draft}

-- (02) the numbers of the refusals
abbrev pub read_number : ReadRefusal → ℕ
read_number NotDue = 24
read_number (Row e) = row_number e
read_number Length = 25

-- (ours) a reader by its parts
abbrev pub reader : Receiver → Draft → Table → ℕ → Reader
reader r d t k = record { receiver = r; draft = d; table = t; slot = k }

-- (02) before the first byte: a fresh receiver, no rows, the first frame due
unfoldable pub start : ℕ → ℕ → Reader
start firmware protocol = reader line.fresh (fresh_draft firmware protocol) fresh_table 0

-- (ours) the reader after a step, or why the hand-over is refused
abbrev pub Stepped : Type 0
Stepped = Result Reader ReadRefusal

-- (ours) a step of the reader that the code took in place: the reader after it, or why it is refused
abbrev pub stepped : Result Unit ReadRefusal → Reader → Stepped
stepped (Ok u) r = Ok r
stepped (Err e) r = Err e

-- (02) the last frame has ended: a row's first is due, and there are all rows
unfoldable pub done : ℕ → Reader → Bool
done count r = eqb r.slot 5 && eqb (length (rows_of r.table)) count

-- (02) "19 or 20 a bad row, in that order at its last frame"; behind a row's last frame the next row's first is due
abbrev pub added_to : Reader → Result Table RowRefusal → Stepped
added_to r (Ok t) = Ok (reader r.receiver r.draft t 5)
added_to r (Err e) = Err (Row e)

-- (02) the frame due came: the next is due, or the row is whole and offered to the table, as any row is
unfoldable pub placed : Reader → Stepped
placed r =
    cond (ltb r.slot 30) (Ok (reader r.receiver r.draft r.table (r.slot + 1)))
    (added_to r (add r.table r.draft.row))

-- (ours) the values and the row with what the content brings at its place
abbrev pub next : Reader → List ℕ → Draft
next r c = took r.draft (slot_at r.slot).item c

-- (02) the frame is the one due: of type 6, and its content just the one that is written for what it brings; document 02's list of
-- 24 is `Due` (Due.antt), and this is the same
unfoldable pub is_due : Reader → ℕ → List ℕ → Bool
is_due r ptype c = eqb ptype record_type && equal c (content_of (next r c) (slot_at r.slot))

-- (02) a complete frame: 24 where it is not the one due
unfoldable pub frame : Reader → ℕ → List ℕ → Stepped
frame r ptype c = cond (is_due r ptype c) (placed (reader r.receiver (next r c) r.table r.slot)) (Err NotDue)

-- (02) what a byte did: 24 where a frame is dropped
abbrev pub heard_as : Reader → Receiver → Event → Stepped
heard_as r s Nothing = Ok (reader s r.draft r.table r.slot)
heard_as r s (Dropped d n) = Err NotDue
heard_as r s (Frame ptype size) = frame (reader s r.draft r.table r.slot) ptype (take size (drop 2 s.bytes))

abbrev pub heard : Reader → Received → Stepped
heard r x = heard_as r x.next x.event

-- (02) "a byte outside a frame": any but SOF where no frame is open
abbrev pub outside : Receiver → ℕ → Bool
outside s b = not s.inside && not (eqb b sof)

-- (02) a byte: 25 behind the last frame, 24 outside a frame
unfoldable pub byte : ℕ → Reader → ℕ → Stepped
byte count r b =
    cond (done count r) (Err Length)
    (cond (outside r.receiver b) (Err NotDue)
    (heard r (line.receive r.receiver b)))

-- (02) what becomes of a hand-over: accepted, or refused
abbrev pub ReadAnswer : Type 0
ReadAnswer = Result Unit Refused

-- (02) refused, with the place of the byte met
abbrev pub refused_at : ReadRefusal → ℕ → ReadAnswer
refused_at e at = Err (record { why = e; at = at })

-- (02; M-106) the gateway read: the values and rows, both receivers fresh, none waiting
unfoldable pub accepted : Reader → Handover
accepted r = record {
  gateway = record { receivers = gateway.fresh_receivers; table = r.table; queue = fresh_queue; properties = r.draft.properties };
  answer = Ok tt;
}

-- (02) "it refuses and is fresh as before, its table empty", with the numbers given; the place is that of the byte met (ours, D-95)
unfoldable pub refused : ℕ → ℕ → ReadRefusal → ℕ → Handover
refused firmware protocol e at = record { gateway = gateway.fresh firmware protocol; answer = refused_at e at }

-- (02) the bytes are at their end: 25 where a frame is missing
unfoldable pub ended : ℕ → ℕ → ℕ → Reader → ℕ → Handover
ended firmware protocol count r at = cond (done count r) (accepted r) (refused firmware protocol Length at)

-- (ours) what a byte came to decides where it refuses, else the bytes behind it do
abbrev pub unless_refused : ℕ → ℕ → ℕ → Stepped → (Reader → Handover) → Handover
unless_refused f p i (Ok r) rest = rest r
unless_refused f p i (Err e) rest = refused f p e i

-- (02) along the bytes, from a place on: the first refusal met decides
unfoldable pub reading : ℕ → ℕ → ℕ → Reader → List ℕ → ℕ → Handover
reading f p n r [] i = ended f p n r i
reading f p n r (b ∷ bs) i = unless_refused f p i (byte n r b) (λ s. reading f p n s bs (suc i))

-- (02) the whole call: 21 for a count above 32 before any byte is read
unfoldable pub read : ℕ → ℕ → ℕ → List ℕ → Handover
read firmware protocol count bytes =
    cond (ltb table_places count) (refused firmware protocol (Row TableFull) 0)
    (reading firmware protocol count (start firmware protocol) bytes 0)
