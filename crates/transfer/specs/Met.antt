-- What a refusal of the reader stands for (document 02, M-112): one case for each sentence, with the bytes before it, the reader that
-- took them, and the byte at which it is met. What that reader is, by the bytes alone, is `Stands`. That these are all refusals, and that
-- each is refused so: proofs/Meeting.antt.
use Rattle.std.specs.Prelude.{ℕ, ◌-◌, ◌<◌, ◌≤◌, ◌≡◌, List, [], ◌∷◌, ◌++◌, map, true, false, cond, ltb, length, take, Ok}
use Rattle.lists.specs.Filter.{any}
use Rattle.tpck.specs.Event.{Told, told, drop_with, frame_of}
use Rattle.tpck.specs.Frame.{sof}
use Rattle.tpck.specs.Receive.{receive, fresh}
use Rattle.tpck.specs.Line.{receiver_after}
use Rattle.devices.specs.declared.row.Row.{Row}
use Rattle.devices.specs.declared.table.RowRefusal.TheVariants.{BadRow, AddressInTable}
use Rattle.devices.specs.Row.{keeps_rules}
use Rattle.devices.specs.Table.{addressed, rows_of}
use Rattle.transfer.specs.declared.reader.Reader.{Reader}
use Rattle.transfer.specs.declared.reader.ReadRefusal.{ReadRefusal}
use Rattle.transfer.specs.declared.reader.ReadRefusal.TheVariants as refusal
use Rattle.transfer.specs.Slots.{value_slots, row_slots, slot_at}
use Rattle.transfer.specs.Contents.{content_of, contents}
use Rattle.transfer.specs.Reading.{start, done, next, byte, refused_at, refused, read}
use Rattle.transfer.specs.Due.{Due}
use Rattle.transfer.specs.Statement.{Framed, Carries, Addable}

-- (01) what the byte does at the packet layer: nothing, a drop, or a frame with its type and data
abbrev pub tells : Reader → ℕ → Told
tells r b = told (receive r.receiver b).event (receive r.receiver b).next.bytes

-- (02) the frame is the one due where the reader stands
abbrev pub DueNow : Reader → ℕ → List ℕ → Type 0
DueNow r ptype c = Due r.draft.row (slot_at r.slot) ptype c

-- (02) the byte ends the last frame of a row, the one due, with which the row is this one
pub record EndsRow (r : Reader) (b : ℕ) (row : Row) : Type 0 where
  pub ptype : ℕ
  pub content : List ℕ
  pub ends : tells r b ≡ frame_of ptype content
  pub due : DueNow r ptype content
  pub last : r.slot ≡ 30
  pub row_is : row ≡ (next r content).row

-- (02) met at a byte, before the last frame has ended
pub data MetBefore (r : Reader) (b : ℕ) : ReadRefusal → Type 0 where
  -- (02) 24 "a byte outside a frame before the last": any but SOF where no frame is open
  stray : r.receiver.inside ≡ false → (b ≡ sof → ⊥) → MetBefore r b refusal.NotDue
  -- (02) 24 "a frame dropped"
  dropped : (number taken : ℕ) → tells r b ≡ drop_with number taken → MetBefore r b refusal.NotDue
  -- (02) 24 "not the one due there"
  not_due : (ptype : ℕ) (content : List ℕ) → tells r b ≡ frame_of ptype content → (DueNow r ptype content → ⊥) → MetBefore r b refusal.NotDue
  -- (02) 19 "a bad row", at its last frame
  bad_row : (row : Row) → EndsRow r b row → keeps_rules row ≡ false → MetBefore r b (refusal.Row BadRow)
  -- (02) 20, "in that order"
  twice : (row : Row) → EndsRow r b row → keeps_rules row ≡ true → any (addressed row.address) (rows_of r.table) ≡ true
      → MetBefore r b (refusal.Row AddressInTable)

-- (02) met by a reader with these bytes to come
pub data Met (count : ℕ) (r : Reader) : List ℕ → ReadRefusal → Type 0 where
  -- (02) 25 "the bytes end early"
  early : done count r ≡ false → Met count r [] refusal.Length
  -- (02) 25 "or run on after the last frame"
  runs_on : (b : ℕ) (bs : List ℕ) → done count r ≡ true → Met count r (b ∷ bs) refusal.Length
  -- (02) 24, 19 or 20, at a byte before the last frame has ended
  before : (b : ℕ) (bs : List ℕ) {e : ReadRefusal} → done count r ≡ false → MetBefore r b e → Met count r (b ∷ bs) e

-- (02) "along the bytes": the reader after bytes of which none was refused
pub data Along (count : ℕ) (r : Reader) : List ℕ → Reader → Type 0 where
  none : Along count r [] r
  more : {bs : List ℕ} {s t : Reader} (b : ℕ) → Along count r bs s → byte count s b ≡ Ok t → Along count r (bs ++ b ∷ []) t

-- (02) the frames that a reader has taken: of the list, those before the one due, with these values, these rows and the row being read
abbrev pub taken_frames : Reader → List (List ℕ)
taken_frames r =
    cond (ltb r.slot 5) (map (content_of r.draft) (take r.slot value_slots))
    (contents r.draft.properties (rows_of r.table) ++ map (content_of r.draft) (take (r.slot - 5) row_slots))

-- (02) what a reader is that took these bytes: they are the frames that it has taken, one after the other, and a part of the next
pub record Stands (count : ℕ) (r : Reader) (front : List ℕ) : Type 0 where
  pub whole : List ℕ
  pub part : List ℕ
  pub bytes_are : front ≡ whole ++ part
  pub frames : Framed (taken_frames r) whole
  -- (02) no byte stands between two frames
  pub between : r.receiver.inside ≡ false → part ≡ []
  -- (01) its receiver is a fresh one after these bytes
  pub receiver : r.receiver ≡ receiver_after fresh front
  -- (02) one of the 31 places, and no row while the values come
  pub place : r.slot < 31
  pub values_first : r.slot < 5 → rows_of r.table ≡ []
  -- (01) rows that a table takes, and no more than were told
  pub added : Addable [] (rows_of r.table)
  pub few : length (rows_of r.table) ≤ count
  -- (02) the last frame has ended just where they are the whole list, of as many rows as were told
  pub ended : done count r ≡ true → Carries front r.draft.properties (rows_of r.table) × (length (rows_of r.table) ≡ count)
  pub not_ended : done count r ≡ false → 5 ≤ r.slot → length (rows_of r.table) < count

-- (02) "the first met along the bytes", at this place
pub record FirstMet (firmware protocol count : ℕ) (bytes : List ℕ) (e : ReadRefusal) (at : ℕ) : Type 0 where
  pub front : List ℕ
  pub rest : List ℕ
  pub bytes_are : bytes ≡ front ++ rest
  pub place : at ≡ length front
  pub reader : Reader
  pub taken : Along count (start firmware protocol) front reader
  pub met : Met count reader rest e

-- (02) "the first met along the bytes of 24 .. 19 or 20 .. 25": refused just so, and at no other place, by a reader that stands where
-- the bytes have brought it, and 19 and 20 for the row that they carry
pub record Explains (firmware protocol count : ℕ) (bytes : List ℕ) : Type 0 where
  pub only : (e : ReadRefusal) (at : ℕ) → (read firmware protocol count bytes).answer ≡ refused_at e at → FirstMet firmware protocol count bytes e at
  pub when : (e : ReadRefusal) (at : ℕ) → FirstMet firmware protocol count bytes e at → read firmware protocol count bytes ≡ refused firmware protocol e at
  pub stands : (front rest : List ℕ) (r : Reader) → bytes ≡ front ++ rest → Along count (start firmware protocol) front r → Stands count r front
  pub row_carried : (front rest : List ℕ) (b : ℕ) (r : Reader) (row : Row) → bytes ≡ front ++ b ∷ rest → Along count (start firmware protocol) front r
      → done count r ≡ false → EndsRow r b row → Carries (front ++ b ∷ []) r.draft.properties (rows_of r.table ++ row ∷ [])
