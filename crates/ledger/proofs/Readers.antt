-- What the reader of a hand-over hands back, whatever the bytes: a gateway with which a list of calls may start, and which can be
-- handed over again. Assumes nothing.
use mathlib.Core.Path.{◌≡◌, refl, sym, ap, ◌∙◌, subst}
use mathlib.Core.Bool.{Bool, true, false, cond}
use mathlib.Core.List.{List, [], ◌∷◌, ◌++◌}
use Prim.Native.Nat.{ℕ, suc, ◌+◌, ◌*◌, ◌/◌, ◌%◌, ◌<◌}
use native.Mathlib.Nat.{mod-lt}
use native.Mathlib.Omega.{arith}
use lib.Dec.{eqb, ltb}
use Rattle.lists.specs.Filter.{All}
use Rattle.lists.proofs.Filters.{and_right, all_append}
use Rattle.tpck.specs.declared.receiver.Receiver.{Receiver}
use Rattle.tpck.specs.declared.event.Event.{Event}
use Rattle.tpck.specs.declared.event.Event.TheVariants as event
use Rattle.tpck.specs.Receive as receive
use Rattle.devices.specs.declared.row.Row.{Row}
use Rattle.devices.specs.declared.table.Table.{Table}
use Rattle.devices.specs.declared.table.RowRefusal.TheVariants.{TableFull}
use Rattle.ledger.specs.Call.{AddAnswer}
use Rattle.std.specs.Prelude.{Ok, Err}
use Rattle.devices.specs.Table.{table_places, rows_of, refill_rows, fresh_table, row_answer, adding}
use Rattle.devices.proofs.Rows.{rows_refill}
use Rattle.updates.specs.Queue.{waiting, fresh_queue}
use Rattle.dates.specs.Date.{no_date, ValidOrNA}
use Rattle.dates.specs.Date.ValidOrNA.{is_na}
use Rattle.dates.proofs.Dates.{valid_or_right}
use Rattle.trpc.specs.declared.properties.Properties.{Properties}
use Rattle.trpc.specs.declared.methods.GatewayMethod.{GatewayMethod}
use Rattle.trpc.specs.declared.methods.GatewayMethod.TheVariants.{NetworkError, ReportingEnable, FirmwareRevision, ProtocolVersion, DateTime}
use Rattle.trpc.specs.Bytes.{word_at, long_at, bytes_of}
use Rattle.trpc.specs.Date.{date_in}
use Rattle.trpc.specs.Properties as properties
use Rattle.trpc.specs.Replies.{record_of}
use Rattle.gateway.specs.declared.gateway.Gateway.{Gateway}
use Rattle.gateway.specs.View.{view}
use Rattle.gateway.specs.Results.{fresh_receivers, fresh}
use Rattle.transfer.specs.declared.draft.Draft.{Draft}
use Rattle.transfer.specs.declared.slots.Slot.{Slot}
use Rattle.transfer.specs.declared.slots.Item.{Item}
use Rattle.transfer.specs.declared.slots.Item.TheVariants.{OfGateway, OfRow}
use Rattle.transfer.specs.declared.slots.Part.{Part}
use Rattle.transfer.specs.declared.slots.Part.TheVariants.{Attributes, Version, State, Events, Value}
use Rattle.transfer.specs.declared.reader.Handover.{Handover}
use Rattle.transfer.specs.declared.reader.Reader.{Reader}
use Rattle.transfer.specs.declared.reader.ReadRefusal.TheVariants as refusal
use Rattle.transfer.specs.Slots.{slot_at}
use Rattle.transfer.specs.Contents.{value_payload, part_payload, payload_of, content_of}
use Rattle.transfer.specs.Carry.{value_in, took_value, took_part, took, fresh_draft}
use Rattle.lists.specs.Equal.{equal}
use Rattle.transfer.specs.Reading.{Stepped, reader, start, done, added_to, placed, next, is_due, frame, heard_as, outside, heard, byte, accepted, refused, ended, unless_refused, reading, read}
use Rattle.transfer.specs.Ready.{RowFits}
use Rattle.transfer.specs.Statement.{Held}
use Rattle.lists.proofs.Equals.{equal_true}
use Rattle.ledger.specs.Start.{Start, rows_at, Begins}
use Rattle.ledger.specs.Possible.{InWord, InLong}
use Rattle.ledger.proofs.Outcomes.{numbers_of}
use Rattle.ledger.proofs.Ruled.{Ruled, ruled_right, none_ruled, added_ruled}
use Rattle.ledger.proofs.Fitting.{Fitting, with_fits}

-- ---- a property of the values, the row and the rows that are being read

-- a frame that is the one due keeps it, and so does a row that is added
record Taken (P : Draft → Table → Type 0) : Type 0 where
  takes : (d : Draft) (t : Table) (x : Slot) (c : List ℕ) → equal c (content_of (took d x.item c) x) ≡ true → P d t → P (took d x.item c) t
  adds : (d : Draft) (t : Table) → row_answer (rows_of t) d.row ≡ Ok tt → P d t → P d (refill_rows t (rows_of t ++ (d.row ∷ [])))

module _ (P : Draft → Table → Type 0) (h : Taken P) where
  abbrev Holds : Reader → Type 0
  Holds r = P r.draft r.table

  -- a step that goes on keeps it
  abbrev Goes : Stepped → Type 0
  Goes (Ok r) = Holds r
  Goes (Err e) = Unit {0}

  added_holds : (r : Reader) (a : AddAnswer) → row_answer (rows_of r.table) r.draft.row ≡ a → Holds r
      → Goes (added_to r (adding r.table r.draft.row a))
  added_holds r (Ok u) e k = h.adds r.draft r.table e k
  added_holds r (Err x) e k = tt

  placed_holds : (r : Reader) → Holds r → Goes (placed r)
  unfolding placed
  placed_holds r k = go (ltb r.slot 30)
    where
      go : (c : Bool)
          → Goes (cond c (Ok (reader r.receiver r.draft r.table (r.slot + 1))) (added_to r (adding r.table r.draft.row (row_answer (rows_of r.table) r.draft.row))))
      go true = k
      go false = added_holds r (row_answer (rows_of r.table) r.draft.row) refl k

  frame_holds : (r : Reader) (ptype : ℕ) (c : List ℕ) → Holds r → Goes (frame r ptype c)
  unfolding frame is_due
  frame_holds r ptype c k = go (is_due r ptype c) refl
    where
      go : (b : Bool) → is_due r ptype c ≡ b → Goes (cond b (placed (reader r.receiver (next r c) r.table r.slot)) (Err refusal.NotDue))
      go true e =
          let x = slot_at r.slot in
          placed_holds (reader r.receiver (next r c) r.table r.slot)
          (h.takes r.draft r.table x c (and_right (eqb ptype 6) (equal c (content_of (took r.draft x.item c) x)) e) k)
      go false e = tt

  heard_holds : (r : Reader) (s : Receiver) (e : Event) → Holds r → Goes (heard_as r s e)
  heard_holds r s event.Nothing k = k
  heard_holds r s (event.Dropped d n) k = tt
  heard_holds r s (event.Frame ptype size) k = frame_holds (reader s r.draft r.table r.slot) ptype _ k

  byte_holds : (n : ℕ) (r : Reader) (b : ℕ) → Holds r → Goes (byte n r b)
  unfolding byte
  byte_holds n r b k = go (done n r) (outside r.receiver b)
    where
      go : (c o : Bool) → Goes (cond c (Err refusal.Length) (cond o (Err refusal.NotDue) (heard r (receive.receive r.receiver b))))
      go true o = tt
      go false true = tt
      go false false =
          let x = receive.receive r.receiver b in
          heard_holds r x.next x.event k

  -- what holds of the gateway that is accepted, and of a fresh one, holds of what the reader hands back
  module _ (f p n : ℕ) (Q : Gateway → Type 0) (whole : (r : Reader) → Holds r → Q (accepted r).gateway) (none : Q (fresh f p)) where
    reading_leaves : (r : Reader) (bs : List ℕ) (i : ℕ) → Holds r → Q (reading f p n r bs i).gateway
    unfolding reading ended refused
    reading_leaves r [] i k = go (done n r)
      where
        go : (c : Bool) → Q (cond c (accepted r) (refused f p refusal.Length i)).gateway
        go true = whole r k
        go false = none
    reading_leaves r (b ∷ bs) i k = go (byte n r b) (byte_holds n r b k) (λ s. reading_leaves s bs (suc i))
      where
        go : (a : Stepped) → Goes a → ((s : Reader) → Holds s → Q (reading f p n s bs (suc i)).gateway)
            → Q (unless_refused f p i a (λ s. reading f p n s bs (suc i))).gateway
        go (Ok s) k rest = rest s k
        go (Err e) k rest = none

    read_leaves : (bytes : List ℕ) → P (fresh_draft f p) fresh_table → Q (read f p n bytes).gateway
    unfolding read refused start
    read_leaves bytes k = go (ltb table_places n)
      where
        go : (c : Bool) → Q (cond c (refused f p (refusal.Row TableFull) 0) (reading f p n (start f p) bytes 0)).gateway
        go true = none
        go false = reading_leaves (start f p) bytes 0 k

-- ---- the rows keep the rules, and the date is valid or NA

record Right (d : Draft) (t : Table) : Type 0 where
  ruled : Ruled (rows_of t)
  date : ValidOrNA d.properties.date

value_dated : (g : Properties) (m : GatewayMethod) (c : List ℕ) → ValidOrNA g.date → ValidOrNA (took_value g m c).date
unfolding took_value
value_dated g NetworkError c k = k
value_dated g ReportingEnable c k = k
value_dated g FirmwareRevision c k = k
value_dated g ProtocolVersion c k = k
value_dated g DateTime c k = valid_or_right (date_in c) no_date (is_na refl)

took_right : (d : Draft) (t : Table) (x : Item) (c : List ℕ) → Right d t → Right (took d x c) t
unfolding took
took_right d t (OfGateway m) c k = record { ruled = k.ruled; date = value_dated d.properties m c k.date }
took_right d t (OfRow p) c k = record { ruled = k.ruled; date = k.date }

right_taken : Taken Right
right_taken =
    record {
      takes = λ d t x c e k. took_right d t x.item c k;
      adds = λ d t e k.
          record { ruled = rw (rows_refill t (rows_of t ++ (d.row ∷ []))) (added_ruled (rows_of t) d.row e k.ruled); date = k.date };
    }

abbrev BeginsSo : Gateway → Type 0
BeginsSo g = Begins g (rows_of g.table)

fresh_right : (f p : ℕ) → Right (fresh_draft f p) fresh_table
unfolding fresh_draft properties.fresh fresh_table rows_of
fresh_right f p = record { ruled = none_ruled; date = is_na refl }

accepted_begins : (r : Reader) → Right r.draft r.table → BeginsSo (accepted r).gateway
unfolding accepted fresh_receivers fresh_queue waiting
accepted_begins r k =
    record { receivers = refl; none_waits = refl; table = refl; rows_right = ruled_right (rows_of r.table) k.ruled; date = k.date }

pub fresh_begins : (firmware protocol : ℕ) → Begins (fresh firmware protocol) []
unfolding fresh fresh_receivers properties.fresh fresh_table fresh_queue rows_of waiting
fresh_begins w p =
    record { receivers = refl; none_waits = refl; table = refl; rows_right = ruled_right [] none_ruled; date = is_na refl }

fresh_begins_so : (f p : ℕ) → BeginsSo (fresh f p)
unfolding fresh fresh_table rows_of
fresh_begins_so f p = fresh_begins f p

pub read_begins : (firmware protocol count : ℕ) (bytes : List ℕ) → let g = (read firmware protocol count bytes).gateway in
    Begins g (rows_of g.table)
read_begins f p n bytes = read_leaves Right right_taken f p n BeginsSo accepted_begins (fresh_begins_so f p) bytes (fresh_right f p)

-- of bytes that were accepted, the rows of the start are those that the frames carry
pub rows_carried : (firmware protocol count : ℕ) (bytes : List ℕ) (h : Held firmware protocol count bytes)
    → rows_at (Start.read firmware protocol count bytes) ≡ h.rows
rows_carried f p n bytes h = ap (λ (x : Handover). rows_of x.gateway.table) h.result ∙ rows_refill fresh_table h.rows

-- ---- the numbers fit, and there are seven values for each setting

record Fits (d : Draft) (t : Table) : Type 0 where
  numbers : All InWord (numbers_of d.properties)
  row : RowFits d.row
  rows : All RowFits (rows_of t)

-- a number that is written in two bytes and read back fits in two
word_fits : (n : ℕ) → n % 256 + 256 * (n / 256 % 256) < 65536
word_fits n = omega (arith, mod-lt n {m = 256} (omega arith), mod-lt (n / 256) {m = 256} (omega arith))

-- the same of four
long_fits : (n : ℕ) → n % 256 + 256 * (n / 256 % 256) + 65536 * (n / 256 / 256 % 256 + 256 * (n / 256 / 256 / 256 % 256)) < 4294967296
long_fits n = omega (arith, word_fits n, word_fits (n / 256 / 256))

module _ (service id : ℕ) (c : List ℕ) where
  word_read : (n : ℕ) (k : List ℕ) → c ≡ record_of service id (bytes_of 2 n ++ k) → InWord (word_at c 5)
  word_read n k e = subst InWord (sym (ap (λ (l : List ℕ). word_at l 5) e)) (word_fits n)

  second_read : (a n : ℕ) → c ≡ record_of service id (bytes_of 2 a ++ bytes_of 2 n) → InWord (word_at c 7)
  second_read a n e = subst InWord (sym (ap (λ (l : List ℕ). word_at l 7) e)) (word_fits n)

  long_read : (a n : ℕ) → c ≡ record_of service id (bytes_of 2 a ++ bytes_of 4 n) → InLong (long_at c 7)
  long_read a n e = subst InLong (sym (ap (λ (l : List ℕ). long_at l 7) e)) (long_fits n)

  value_fits : (g : Properties) (m : GatewayMethod) → c ≡ record_of service id (value_payload (took_value g m c) m) → All InWord (numbers_of g)
      → All InWord (numbers_of (took_value g m c))
  unfolding took_value value_payload
  value_fits g NetworkError e k = (word_read (word_at c 5) [] e, k.1)
  value_fits g ReportingEnable e k = k
  value_fits g FirmwareRevision e k = (k.0, (word_read (word_at c 5) [] e, k.1.1))
  value_fits g ProtocolVersion e k = (k.0, (k.1.0, (word_read (word_at c 5) [] e, tt)))
  value_fits g DateTime e k = k

  part_fits : (r : Row) (p : Part) → c ≡ record_of service id (part_payload (took_part r p c) p) → RowFits r → RowFits (took_part r p c)
  unfolding took_part part_payload
  part_fits r Attributes e k =
      record {
        address = word_read (word_at c 5) (bytes_of 2 (word_at c 7)) e;
        version = omega arith;
        mask = second_read (word_at c 5) (word_at c 7) e;
        cool = refl;
        slab = refl;
        fan = refl;
      }
  part_fits r Version e k =
      record { address = k.address; version = long_read r.address (long_at c 7) e; mask = k.mask; cool = k.cool; slab = k.slab; fan = k.fan }
  part_fits r State e k = record { address = k.address; version = k.version; mask = k.mask; cool = k.cool; slab = k.slab; fan = k.fan }
  part_fits r Events e k = record { address = k.address; version = k.version; mask = k.mask; cool = k.cool; slab = k.slab; fan = k.fan }
  part_fits r (Value x) e k = with_fits r x (value_in x c) k

  took_fits : (d : Draft) (t : Table) (x : Item) → c ≡ record_of service id (payload_of (took d x c) x) → Fits d t → Fits (took d x c) t
  unfolding took payload_of
  took_fits d t (OfGateway m) e k = record { numbers = value_fits d.properties m e k.numbers; row = k.row; rows = k.rows }
  took_fits d t (OfRow p) e k = record { numbers = k.numbers; row = part_fits d.row p e k.row; rows = k.rows }

fits_taken : Taken Fits
unfolding content_of
fits_taken =
    record {
      takes = λ d t x c e k.
          took_fits x.service x.id c d t x.item (equal_true c (record_of x.service x.id (payload_of (took d x.item c) x.item)) e) k;
      adds = λ d t e k.
          record {
            numbers = k.numbers;
            row = k.row;
            rows = rw (rows_refill t (rows_of t ++ (d.row ∷ []))) (all_append RowFits (rows_of t) (d.row ∷ []) k.rows (k.row, tt));
          };
    }

abbrev FittingSo : Gateway → Type 0
FittingSo g = Fitting (view g)

accepted_fitting : (r : Reader) → Fits r.draft r.table → FittingSo (accepted r).gateway
unfolding accepted
accepted_fitting r k = record { numbers = k.numbers; rows = k.rows }

module _ (firmware protocol : ℕ) (hf : InWord firmware) (hp : InWord protocol) where
  fresh_fits : Fits (fresh_draft firmware protocol) fresh_table
  unfolding fresh_draft properties.fresh fresh_table rows_of
  fresh_fits =
      record {
        numbers = (omega arith, (hf, (hp, tt)));
        row = record { address = omega arith; version = omega arith; mask = omega arith; cool = refl; slab = refl; fan = refl };
        rows = tt;
      }

  pub fresh_fitting : Fitting (view (fresh firmware protocol))
  unfolding fresh properties.fresh fresh_table rows_of
  fresh_fitting = record { numbers = (omega arith, (hf, (hp, tt))); rows = tt }

  pub read_fitting : (count : ℕ) (bytes : List ℕ) → Fitting (view (read firmware protocol count bytes).gateway)
  read_fitting n bytes = read_leaves Fits fits_taken firmware protocol n FittingSo accepted_fitting fresh_fitting bytes fresh_fits
