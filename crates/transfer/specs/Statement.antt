-- What is claimed of a hand-over (document 02, M-112): in which order the writer writes and refuses, what bytes carry, when they are
-- accepted and what is then held, and the way from a gateway to the next.
use Rattle.std.specs.Prelude.{ℕ, zero, suc, ◌+◌, ◌-◌, ◌*◌, ◌<◌, ◌≤◌, ◌≡◌, List, [], ◌∷◌, ◌++◌, true, false, length, Ok, None}
use Rattle.lists.specs.Filter.{All, any}
use Rattle.tpck.specs.Frame.{Valid}
use Rattle.devices.specs.declared.row.Row.{Row}
use Rattle.devices.specs.declared.table.RowRefusal.TheVariants.{BadRow, AddressInTable, TableFull}
use Rattle.devices.specs.Row.{keeps_rules, stored, setting_of}
use Rattle.devices.specs.Table.{addressed, refill_rows, fresh_table, rows_of, row_at, row_answer}
use Rattle.dates.specs.Date.{valid_or, no_date, ValidOrNA}
use Rattle.updates.specs.declared.update.Update.{Update}
use Rattle.updates.specs.Queue.{fresh_queue}
use Rattle.trpc.specs.Bytes.{bytes_of}
use Rattle.trpc.specs.Services.{response_update, response_request}
use Rattle.trpc.specs.Methods.{entry_with, entry_of}
use Rattle.trpc.specs.Date.{date_payload}
use Rattle.trpc.specs.Payload.{flag, setting_payload}
use Rattle.trpc.specs.Replies.{record_of}
use Rattle.trpc.specs.Judging.{record_type}
use Rattle.trpc.specs.declared.properties.Properties.{Properties}
use Rattle.gateway.specs.State.{State}
use Rattle.gateway.specs.View.{view}
use Rattle.gateway.specs.Reply.{on_line}
use Rattle.gateway.specs.Results as gateway
use Rattle.transfer.specs.declared.writer.HandRefusal.TheVariants.{Short, UpdatesWait}
use Rattle.transfer.specs.declared.reader.Handover.{Handover}
use Rattle.transfer.specs.declared.reader.ReadRefusal.{ReadRefusal}
use Rattle.transfer.specs.declared.reader.ReadRefusal.TheVariants as refusal
use Rattle.transfer.specs.Contents.{contents}
use Rattle.transfer.specs.Ready.{PropertiesFit, RowFits, Ready}
use Rattle.transfer.specs.Hand as writer
use Rattle.transfer.specs.Hand.{hand, line_at, hand_line}
use Rattle.transfer.specs.Reading.{refused, read}

-- ---- the writer

-- (02) a frame of the list on the line: Response:Request of a method, by its ID
abbrev pub told : ℕ → List ℕ → List ℕ
told id payload = on_line (record_of response_request id payload)

-- (02) "First NetworkError, ReportingEnable, FirmwareRevision, ProtocolVersion as Response:Request and DateTime (valid, else all NA) as
-- Response:Update"
pub record ValuesFirst (g : State) : Type 0 where
  pub error : line_at g 0 ≡ told 0x107 (bytes_of 2 g.properties.error)
  pub reporting : line_at g 1 ≡ told 0x10F (flag g.properties.reporting ∷ [])
  pub firmware : line_at g 2 ≡ told 0x187 (bytes_of 2 g.properties.firmware)
  pub protocol : line_at g 3 ≡ told 0x18F (bytes_of 2 g.properties.protocol)
  pub date : line_at g 4 ≡ on_line (record_of response_update 0x1A7 (date_payload (valid_or g.properties.date no_date)))

-- (02) "Then for each row, in order, 26 Response:Request frames": the place of one of them
abbrev pub place_of : (row frame : ℕ) → ℕ
place_of i k = 5 + (26 * i + k)

-- (02) "DeviceAttributes, DeviceVersion, SetbackState (ID and fields from source document 000), SetbackEvents, ModeSetting, and for
-- states 0 to 6 cool, slab, fan": state by state (ours, D-89), of the row r at place i
pub record RowInOrder (g : State) (i : ℕ) (r : Row) : Type 0 where
  pub attributes : line_at g (place_of i 0) ≡ told 0x11F (bytes_of 2 r.address ++ bytes_of 2 r.mask)
  pub version : line_at g (place_of i 1) ≡ told 0x19F (bytes_of 2 r.address ++ bytes_of 4 r.version)
  pub state : line_at g (place_of i 2) ≡ told 0x177 (bytes_of 2 r.address ++ r.state ∷ [])
  pub events : line_at g (place_of i 3) ≡ told 0x17F (bytes_of 2 r.address ++ r.events ∷ [])
  pub mode : line_at g (place_of i 4) ≡ told 0x127 (bytes_of 2 r.address ++ r.mode ∷ [])
  -- (02) of a state s, the settings 0 cool, 1 slab, 2 fan, with the ID that the line's list has for it
  pub values : (s n : ℕ) → s < 7 → n < 3
      → line_at g (place_of i (5 + (3 * s + n))) ≡ told (entry_of (setting_of n s)).id (setting_payload r.address (setting_of n s) (stored r (setting_of n s)))

-- (02) the writer's frames in their order, and none past the last; on the line SetbackState's ID stays unknown: 10
pub record InOrder (g : State) : Type 0 where
  pub first : ValuesFirst g
  pub rows : (i : ℕ) → i < length g.table → RowInOrder g i (row_at g.table i)
  pub past : (place : ℕ) → 5 + 26 * length g.table ≤ place → line_at g place ≡ []
  pub unlisted : entry_with 0x177 ≡ None

-- (02) "Refusals: 1 as for a byte, then 23 updates wait (writer)"; past the last nothing is written, and the length is 0
pub record HandAnswers (g : State) (place n : ℕ) : Type 0 where
  pub short : n < 32 → hand g place n ≡ writer.refuse Short
  pub waits : 32 ≤ n → (u : Update) (q : List Update) → g.queue ≡ u ∷ q → hand g place n ≡ writer.refuse UpdatesWait
  pub written : 32 ≤ n → g.queue ≡ [] → hand g place n ≡ hand_line (line_at g place)
  pub past : 32 ≤ n → g.queue ≡ [] → 5 + 26 * length g.table ≤ place → hand g place n ≡ hand_line []

-- ---- the reader

-- (01) the bytes are valid frames of records with these contents, one after the other, with or without needless escapes
pub data Framed : List (List ℕ) → List ℕ → Type 0 where
  none : Framed [] []
  more : {c : List ℕ} {cs : List (List ℕ)} {line rest : List ℕ} → Valid record_type c line → Framed cs rest → Framed (c ∷ cs) (line ++ rest)

-- (02) the bytes carry these values and rows: they are the frames of the list, in its order, and no others
abbrev pub Carries : List ℕ → Properties → List Row → Type 0
Carries bytes g l = Framed (contents g l) bytes

-- (01) rows that a table takes one after the other, after those that it has: they keep the rules, and no address comes twice
abbrev pub Addable : List Row → List Row → Type 0
Addable k [] = Unit {0}
Addable k (r ∷ l) = (row_answer k r ≡ Ok tt) × Addable (k ++ r ∷ []) l

-- (02) accepted: a gateway with these values and rows; "every receiver hunts with no escape pending", and none waits
abbrev pub holding : Properties → List Row → Handover
holding g l = record {
  gateway = record { receivers = gateway.fresh_receivers; table = refill_rows fresh_table l; queue = fresh_queue; properties = g };
  answer = Ok tt;
}

-- (01) bytes, as the line has them
abbrev pub Bytes : List ℕ → Type 0
Bytes l = All (λ b. b < 256) l

-- (02) "Either the new build holds the gateway values and rows that the frames carry": of bytes that were accepted; the numbers are
-- those of the frames, whatever was given
pub record Held (firmware protocol count : ℕ) (bytes : List ℕ) : Type 0 where
  pub values : Properties
  pub rows : List Row
  pub carried : Carries bytes values rows
  pub all : length rows ≡ count
  pub added : Addable [] rows
  pub date : ValidOrNA values.date
  pub result : read firmware protocol count bytes ≡ holding values rows
  -- (01) of bytes, and numbers of 16 bits given: they fit into frames again
  pub fits : firmware < 65536 → protocol < 65536 → Bytes bytes → PropertiesFit values × All RowFits rows

-- (ours) what was accepted can be handed over in its turn
pub record Again (firmware protocol count : ℕ) (bytes : List ℕ) : Type 0 where
  pub ready : firmware < 65536 → protocol < 65536 → Bytes bytes → Ready (view (read firmware protocol count bytes).gateway)

-- (02) "or it refuses and is fresh as before, its table empty": of bytes that were refused; the numbers are those given
pub record Refuses (firmware protocol count : ℕ) (bytes : List ℕ) (e : ReadRefusal) (at : ℕ) : Type 0 where
  pub result : (read firmware protocol count bytes).gateway ≡ gateway.fresh firmware protocol
  pub empty : rows_of (read firmware protocol count bytes).gateway.table ≡ []
  -- (ours) the byte that caused it is one of these, or would be the next
  pub place : at ≤ length bytes

-- (02) "21 count above 32, before any byte is read"
pub record TooMany (firmware protocol count : ℕ) : Type 0 where
  pub result : 32 < count → (bytes : List ℕ) → read firmware protocol count bytes ≡ refused firmware protocol (refusal.Row TableFull) 0

-- (02) "19 or 20 a bad row, in that order at its last frame": bytes that carry values and rows l that are held, and then a row r; the
-- place is that of the last byte of r's last frame, whatever comes after it
pub record RowRefused (firmware protocol count : ℕ) (l : List Row) (r : Row) (bytes rest : List ℕ) : Type 0 where
  pub bad : keeps_rules r ≡ false → read firmware protocol count (bytes ++ rest) ≡ refused firmware protocol (refusal.Row BadRow) (length bytes - 1)
  pub twice : keeps_rules r ≡ true → any (addressed r.address) l ≡ true
      → read firmware protocol count (bytes ++ rest) ≡ refused firmware protocol (refusal.Row AddressInTable) (length bytes - 1)

-- (02) "with the right count"; 25 "the bytes end early or run on after the last frame": bytes that carry the rows l, with another count
pub record WrongCount (firmware protocol count : ℕ) (l : List Row) (bytes : List ℕ) : Type 0 where
  pub early : length l < count → read firmware protocol count bytes ≡ refused firmware protocol refusal.Length (length bytes)
  pub runs_on : count < length l → (at : ℕ) × (read firmware protocol count bytes ≡ refused firmware protocol refusal.Length at)

-- ---- the way from a gateway to the next

-- (02) what the writer writes into a buffer of n bytes for the places below k, one after the other
abbrev pub gathered : State → (n k : ℕ) → List ℕ
gathered g n zero = []
gathered g n (suc k) = gathered g n k ++ (hand g k n).reply

-- (02) "The writer's frames, all, in order and with the right count, .. are not refused and give the same values and rows"
pub record HandedOver (g : State) : Type 0 where
  pub result : (firmware protocol n : ℕ) → 32 ≤ n
      → read firmware protocol (length g.table) (gathered g n (5 + 26 * length g.table)) ≡ holding g.properties g.table
