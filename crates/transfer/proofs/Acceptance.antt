-- Accepted means carried: along the bytes, the frames so far are the first of the list, and nothing stands between them.
-- Assumes nothing.
use mathlib.Core.Path.{◌≡◌, refl, sym, ap, ◌∙◌, subst}
use mathlib.Core.Bool.{Bool, true, false, cond, not, ◌&&◌, false≢true}
use mathlib.Core.List.{List, [], ◌∷◌, ◌++◌, map, append_assoc, append-nil}
use Prim.Native.Nat.{ℕ, suc, ◌+◌, ◌-◌, ◌<◌, ◌≤◌}
use native.Mathlib.Omega.{arith}
use lib.Dec.{eqb, ltb}
use lib.ListN.{length, take, drop, length-append}
use lib.Seq.{append_snoc}
use borrow.Author.Tests.{eqb-true, eqb-false, ltb-true, ltb-false, lt-ltb, le-ltb, not-false}
use Rattle.lists.specs.Overlay.{overlay}
use Rattle.lists.specs.Filter.{All}
use Rattle.lists.proofs.Filters.{and_left, and_right, all_append, all_front, all_back}
use Rattle.tpck.specs.declared.event.Event.{Event}
use Rattle.tpck.specs.declared.event.Event.TheVariants.{Nothing, Dropped, Frame}
use Rattle.tpck.specs.declared.receiver.Receiver.{Receiver}
use Rattle.tpck.specs.Event.{told, frame_of}
use Rattle.tpck.specs.Frame.{sof, none, Valid}
use Rattle.tpck.specs.Receive.{State, Step, step, start_of_frame, told_of, view, receive, fresh}
use Rattle.tpck.specs.Line.{receiver_after, After}
use Rattle.tpck.proofs.Steps.{step_sof}
use Rattle.tpck.proofs.Explaining.{Sound, explained, step_sound}
use Rattle.tpck.proofs.Theorems.{after_snoc, after_byte, view_store}
use Rattle.tpck.proofs.Delivered.{told_in_array}
use Rattle.devices.specs.declared.row.Row.{Row}
use Rattle.devices.specs.declared.table.Table.{Table}
use Rattle.std.specs.Prelude.{Result, Ok, Err}
use Rattle.devices.specs.Table.{rows_of, refill_rows, fresh_table, row_answer, adding}
use Rattle.lists.proofs.Refills.{refill_twice}
use Rattle.devices.proofs.Rows.{table_counted, rows_refill}
use Rattle.devices.specs.declared.table.RowRefusal.{RowRefusal}
use Rattle.devices.specs.declared.table.RowRefusal.TheVariants.{TableFull}
use Rattle.updates.specs.Queue.{fresh_queue}
use Rattle.dates.specs.Date.{no_date, ValidOrNA}
use Rattle.dates.specs.Date.ValidOrNA.{is_na}
use Rattle.dates.proofs.Dates.{valid_or_same, valid_or_right}
use Rattle.trpc.specs.Date.{date_in}
use Rattle.trpc.specs.Properties as fresh-properties
use Rattle.gateway.specs.Results.{fresh_receivers}
use Rattle.trpc.specs.declared.properties.Properties.{Properties}
use Rattle.trpc.specs.declared.methods.GatewayMethod.{GatewayMethod}
use Rattle.trpc.specs.declared.methods.GatewayMethod.TheVariants.{NetworkError, ReportingEnable, FirmwareRevision, ProtocolVersion, DateTime}
use Rattle.transfer.specs.declared.slots.Item.{Item}
use Rattle.transfer.specs.declared.slots.Item.TheVariants.{OfGateway, OfRow}
use Rattle.transfer.specs.declared.draft.Draft.{Draft}
use Rattle.transfer.specs.declared.reader.ReadRefusal.TheVariants.{NotDue, Length}
use Rattle.transfer.specs.declared.reader.ReadRefusal.TheVariants as refusal
use Rattle.transfer.specs.declared.reader.Handover.{Handover}
use Rattle.transfer.specs.declared.reader.Reader.{Reader}
use Rattle.transfer.specs.Slots.{row_slots, slot_at}
use Rattle.transfer.specs.Contents.{content_of, contents}
use Rattle.transfer.specs.Carry.{took_value, took, fresh_draft}
use Rattle.lists.specs.Equal.{equal}
use Rattle.transfer.specs.Reading.{Stepped, reader, start, done, added_to, placed, next, is_due, frame, heard_as, outside, byte, accepted, refused, ended, unless_refused, reading, read}
use Rattle.transfer.specs.Statement.{Framed, none, more, Carries, Addable, Bytes, Held}
use Rattle.transfer.specs.Met.{taken_frames, Stands}
use Rattle.transfer.specs.Ready.{PropertiesFit, RowFits}
use Rattle.lists.proofs.Equals.{equal_true}
use Rattle.transfer.proofs.Outcomes.{same_reader, not_taken, not_accepted}
use Rattle.transfer.proofs.Frames.{heard_told}
use Rattle.transfer.proofs.Bytewise.{read_all}
use Rattle.transfer.proofs.Passing.{Rests}
use Rattle.transfer.proofs.Fitting.{valid_bytes, took_fits, blank_fits}
use Rattle.transfer.proofs.Opened.{Opened, stays_open, inside_kept, hunts_quiet, closes_valid}
use Rattle.transfer.proofs.Progress.{Progress, in_values, in_row, one_more, last_one}

-- the receiver rests between two frames, or is inside one, with this much of it passed
data Between (n : ℕ) (r : Reader) (passed : List ℕ) : Type 0 where
  rest : Rests r.receiver → passed ≡ [] → Between n r passed
  amid : r.receiver.inside ≡ true → done n r ≡ false → Opened passed r.receiver.escaped (view r.receiver).body → Between n r passed

-- what the rows are
record Rows (t : Table) : Type 0 where
  table_is : t ≡ refill_rows fresh_table (rows_of t)
  added : Addable [] (rows_of t)

-- values and rows, also the row being read, that fit into frames
pub record Fitting (d : Draft) (l : List Row) : Type 0 where
  values : PropertiesFit d.properties
  pub row_fits : RowFits d.row
  rows_fit : All RowFits l

-- the rows are no more than told, and one is missing while it is being read
pub record Room (n : ℕ) (t : Table) (k : ℕ) : Type 0 where
  most : length (rows_of t) ≤ n
  within : 5 < k → length (rows_of t) < n

-- one is missing where a frame of a row is due and the last frame has not ended
pub missing : (n : ℕ) (r : Reader) → Room n r.table r.slot → done n r ≡ false → 5 ≤ r.slot → length (rows_of r.table) < n
unfolding done
missing n r h d k = go (eqb r.slot 5) refl d
  where
    go : (t : Bool) → eqb r.slot 5 ≡ t → (t && eqb (length (rows_of r.table)) n) ≡ false → length (rows_of r.table) < n
    go true t e = let z = eqb-false (length (rows_of r.table)) n e in omega (arith, h.most, z)
    go false t e = let z = eqb-false r.slot 5 t in h.within (omega (arith, k, z))

pub record Sofar (f p n : ℕ) (r : Reader) (bytes : List ℕ) : Type 0 where
  cs : List (List ℕ)
  whole : List ℕ
  passed : List ℕ
  bytes_are : bytes ≡ whole ++ passed
  frames : Framed cs whole
  progress : Progress r.draft (rows_of r.table) r.slot cs
  heard : r.receiver ≡ receiver_after fresh bytes
  line : Between n r passed
  sound : Sound (view r.receiver)
  rows : Rows r.table
  room : Room n r.table r.slot
  dated : ValidOrNA r.draft.properties.date
  pub fits : f < 65536 → p < 65536 → Bytes bytes → Fitting r.draft (rows_of r.table)

framed_snoc : {cs : List (List ℕ)} {whole : List ℕ} (c line : List ℕ) → Framed cs whole → Valid 6 c line → Framed (cs ++ c ∷ []) (whole ++ line)
framed_snoc c line none v = rw (← append-nil line) (more v none)
framed_snoc c line (more {line = l} {rest = w} u f) v = rw (append_assoc l w line) (more u (framed_snoc c line f v))

addable_snoc : (k l : List Row) (r : Row) → Addable k l → row_answer (k ++ l) r ≡ Ok tt → Addable k (l ++ r ∷ [])
addable_snoc k [] r a e = (rw (← append-nil k) e, tt)
addable_snoc k (x ∷ l) r a e = (a.0, addable_snoc (k ++ x ∷ []) l r a.1 (rw (append_snoc k x l) e))

-- a frame that is taken: it was due, and the next is, or the row is whole and added
module _ (n : ℕ) (s : Receiver) (d : Draft) (t : Table) (k : ℕ) (c : List ℕ) (cs : List (List ℕ)) (p : Progress d (rows_of t) k cs) (rs : Rows t) (rests : Rests s) where
  record Took (x : Reader) : Type 0 where
    receiver_is : x.receiver ≡ s
    progress : Progress x.draft (rows_of x.table) x.slot (cs ++ c ∷ [])
    rows : Rows x.table
    room : Room n t k → (5 ≤ k → length (rows_of t) < n) → Room n x.table x.slot
    draft_is : x.draft ≡ took d (slot_at k).item c
    rows_fit : RowFits (took d (slot_at k).item c).row → All RowFits (rows_of t) → All RowFits (rows_of x.table)

  abbrev e : Draft
  e = took d (slot_at k).item c

  abbrev after : Reader
  after = reader s e t k

  placed_took : c ≡ content_of e (slot_at k) → (x : Reader) → placed after ≡ Ok x → Took x
  unfolding placed
  placed_took h x y = go (ltb k 30) refl y
    where
      whole : (a : Result (Unit {0}) RowRefusal) → row_answer (rows_of t) e.row ≡ a → 30 ≤ k → added_to after (adding t e.row a) ≡ Ok x → Took x
      whole (Ok v) a m z =
          let u = refill_rows t (rows_of t ++ e.row ∷ []) in
          let held : rows_of u ≡ rows_of t ++ e.row ∷ [] = rows_refill t (rows_of t ++ e.row ∷ []) in
          subst (λ (v : Reader). Took v) (same_reader (reader s e u 5) x z)
          (record {
            receiver_is = refl;
            progress = subst (λ (l : List Row). Progress e l 5 (cs ++ c ∷ [])) (sym held) (last_one d (rows_of t) cs c k p h m);
            rows = record {
              table_is =
                  ap (λ (v : Table). refill_rows v (rows_of t ++ e.row ∷ [])) rs.table_is
                  ∙ refill_twice table_counted fresh_table (rows_of t) (rows_of t ++ e.row ∷ []) (omega (arith, length-append (rows_of t) (e.row ∷ [])))
                  ∙ ap (refill_rows fresh_table) (sym held);
              added = subst (λ (l : List Row). Addable [] l) (sym held) (addable_snoc [] (rows_of t) e.row rs.added a);
            };
            room = λ o l. record {
              most = omega (arith, l (omega arith), ap length held, length-append (rows_of t) (e.row ∷ []));
              within = λ q. absurd (omega arith);
            };
            draft_is = refl;
            rows_fit = λ q l. subst (All RowFits) (sym held) (all_append RowFits (rows_of t) (e.row ∷ []) l (q, tt));
          })
      whole (Err w) a m z = absurd (not_taken (refusal.Row w) x z)

      go : (b : Bool) → ltb k 30 ≡ b
          → cond b (Ok (reader s e t (k + 1))) (added_to after (adding t e.row (row_answer (rows_of t) e.row))) ≡ Ok x → Took x
      go true b z =
          subst (λ (v : Reader). Took v) (same_reader (reader s e t (k + 1)) x z)
          (record { receiver_is = refl; progress = one_more d (rows_of t) cs c k p h (ltb-true k 30 b); rows = rs; room = λ o l. record { most = o.most; within = λ q. l (omega arith) }; draft_is = refl; rows_fit = λ q l. l })
      go false b z = whole (row_answer (rows_of t) e.row) refl (ltb-false k 30 b) z

  frame_took : (ptype : ℕ) (x : Reader) → frame (reader s d t k) ptype c ≡ Ok x → (ptype ≡ 6) × Took x
  unfolding frame is_due
  frame_took ptype x y = go (eqb ptype 6) refl (equal c (content_of e (slot_at k))) refl y
    where
      go : (a : Bool) → eqb ptype 6 ≡ a → (b : Bool) → equal c (content_of e (slot_at k)) ≡ b → cond (a && b) (placed after) (Err NotDue) ≡ Ok x → (ptype ≡ 6) × Took x
      go true a true b z = (eqb-true ptype 6 a, placed_took (equal_true c (content_of e (slot_at k)) b) x z)
      go true a false b z = absurd (not_taken NotDue x z)
      go false a b q z = absurd (not_taken NotDue x z)

-- the date is valid or NA
value_dated : (g : Properties) (m : GatewayMethod) (c : List ℕ) → ValidOrNA g.date → ValidOrNA (took_value g m c).date
unfolding took_value
value_dated g NetworkError c h = h
value_dated g ReportingEnable c h = h
value_dated g FirmwareRevision c h = h
value_dated g ProtocolVersion c h = h
value_dated g DateTime c h = valid_or_right (date_in c) no_date (is_na refl)

took_dated : (d : Draft) (x : Item) (c : List ℕ) → ValidOrNA d.properties.date → ValidOrNA (took d x c).properties.date
unfolding took
took_dated d (OfGateway m) c h = value_dated d.properties m c h
took_dated d (OfRow p) c h = h

-- whether the last frame has ended does not depend on the receiver
same_done : (n : ℕ) (r : Reader) (s : Receiver) → done n (reader s r.draft r.table r.slot) ≡ done n r
unfolding done
same_done n r s = refl

pub byte_done : (n : ℕ) (r : Reader) (b : ℕ) → done n r ≡ true → byte n r b ≡ Err Length
unfolding byte
byte_done n r b d = rw d

pub byte_outside : (n : ℕ) (r : Reader) (b : ℕ) → done n r ≡ false → outside r.receiver b ≡ true → byte n r b ≡ Err NotDue
unfolding byte
byte_outside n r b d o = rw (d, o)

fresh_same : fresh_table ≡ refill_rows fresh_table (rows_of fresh_table)
unfolding fresh_table refill_rows rows_of overlay
fresh_same = refl

-- the list is whole where a row's first frame is due
listed : (d : Draft) (l : List Row) (k : ℕ) (cs : List (List ℕ)) → Progress d l k cs → k ≡ 5 → cs ≡ contents d.properties l
listed d l k cs (in_values h z q) e = absurd (omega arith)
listed d l k cs (in_row j h z q) e =
    let zero-here : j ≡ 0 = omega arith in
    q ∙ ap (λ (i : ℕ). contents d.properties l ++ map (content_of d) (take i row_slots)) zero-here ∙ append-nil (contents d.properties l)

abbrev holding_table : Properties → Table → Handover
holding_table g t = record {
  gateway = record { receivers = fresh_receivers; table = t; queue = fresh_queue; properties = g };
  answer = Ok tt;
}

-- one byte that is not refused
module _ (f p n : ℕ) (r : Reader) (b : ℕ) (bytes : List ℕ) (h : Sofar f p n r bytes) where
  abbrev s : Receiver
  s = r.receiver

  abbrev s' : Receiver
  s' = (receive s b).next

  seen : view s' ≡ (step (view s) b).next
  seen = view_store s (step (view s) b).next

  sound_next : Sound (view s')
  sound_next = subst Sound (sym seen) (step_sound (view s) b h.sound)

  heard_next : s' ≡ receiver_after fresh (bytes ++ b ∷ [])
  heard_next = ap (λ (v : Receiver). (receive v b).next) h.heard ∙ sym (after_snoc fresh bytes b)

  longer : bytes ++ b ∷ [] ≡ h.whole ++ (h.passed ++ b ∷ [])
  longer = ap (λ (l : List ℕ). l ++ b ∷ []) h.bytes_are ∙ append_assoc h.whole h.passed (b ∷ [])

  -- the first byte of a frame
  is_sof : s.inside ≡ false → outside s b ≡ false → b ≡ sof
  is_sof i o = eqb-true b sof (not-false (eqb b sof) (ap (λ (z : Bool). not z && not (eqb b sof)) (sym i) ∙ o))

  silent : done n r ≡ false → outside s b ≡ false → (receive s b).event ≡ Nothing → Sofar f p n (reader s' r.draft r.table r.slot) (bytes ++ b ∷ [])
  silent d o ev = record {
    cs = h.cs;
    whole = h.whole;
    passed = h.passed ++ b ∷ [];
    bytes_are = longer;
    frames = h.frames;
    progress = h.progress;
    heard = heard_next;
    line = go h.line;
    sound = sound_next;
    rows = h.rows;
    room = h.room;
    dated = h.dated;
    fits = λ a c q. h.fits a c (all_front (λ x. x < 256) bytes (b ∷ []) q);
  }
    where
      still : done n (reader s' r.draft r.table r.slot) ≡ false
      still = same_done n r s' ∙ d

      go : Between n r h.passed → Between n (reader s' r.draft r.table r.slot) (h.passed ++ b ∷ [])
      go (rest q e) =
          let z = is_sof q.hunts o in
          let t : step (view s) b ≡ start_of_frame (view s) = step_sof (view s) q.plain b z in
          let body : (view s').body ≡ [] = ap (λ (v : State). v.body) seen ∙ ap (λ (v : Step). v.next.body) t in
          amid (ap (λ (v : Step). v.next.inside) t) still
          (subst (λ (l : List ℕ). Opened l s'.escaped (view s').body) (ap (λ (x : ℕ). x ∷ []) (sym z) ∙ ap (λ (l : List ℕ). l ++ b ∷ []) (sym e))
          (subst (λ (l : List ℕ). Opened (sof ∷ []) s'.escaped l) (sym body)
          (subst (λ (x : Bool). Opened (sof ∷ []) x []) (sym (ap (λ (v : Step). v.next.escaped) t)) (record { sent = []; stuffing = none; line_is = refl }))))
      go (amid i m w) =
          amid (inside_kept (view s) b i ev) still
          (subst (λ (v : State). Opened (h.passed ++ b ∷ []) v.escaped v.body) (sym seen) (stays_open h.passed b (view s) i w ev))

  -- a frame that ends here was open, and has bytes for its content
  pub frame_inside : (ptype : ℕ) (c : List ℕ) → told_of (step (view s) b) ≡ frame_of ptype c → outside s b ≡ false
  frame_inside ptype c t = go s.inside refl
    where
      go : (i : Bool) → s.inside ≡ i → outside s b ≡ false
      go true i = ap (λ (z : Bool). not z && not (eqb b sof)) i
      go false i = absurd (hunts_quiet ptype c (view s) b i (explained (view s) b h.sound) t)

  pub frame_bytes : (ptype : ℕ) (c : List ℕ) → told_of (step (view s) b) ≡ frame_of ptype c → Bytes (bytes ++ b ∷ []) → Bytes c
  frame_bytes ptype c t q = go h.line
    where
      go : Between n r h.passed → Bytes c
      go (rest k e) = absurd (hunts_quiet ptype c (view s) b k.hunts (explained (view s) b h.sound) t)
      go (amid i m w) =
          valid_bytes ptype c (closes_valid ptype c h.passed (view s) b w (explained (view s) b h.sound) t)
          (all_back (λ x. x < 256) h.whole (h.passed ++ b ∷ []) (subst Bytes longer q))

  -- the last frame of a row: the bytes carry the row too
  pub row_framed : (c : List ℕ) → told_of (step (view s) b) ≡ frame_of 6 c → c ≡ content_of (next r c) (slot_at r.slot) → 30 ≤ r.slot
      → Carries (bytes ++ b ∷ []) (next r c).properties (rows_of r.table ++ (next r c).row ∷ [])
  row_framed c t e k = go h.line
    where
      list : h.cs ++ c ∷ [] ≡ contents (next r c).properties (rows_of r.table ++ (next r c).row ∷ [])
      list = listed (next r c) (rows_of r.table ++ (next r c).row ∷ []) 5 (h.cs ++ c ∷ []) (last_one r.draft (rows_of r.table) h.cs c r.slot h.progress e k) refl

      go : Between n r h.passed → Carries (bytes ++ b ∷ []) (next r c).properties (rows_of r.table ++ (next r c).row ∷ [])
      go (rest q z) = absurd (hunts_quiet 6 c (view s) b q.hunts (explained (view s) b h.sound) t)
      go (amid i m w) =
          let v = closes_valid 6 c h.passed (view s) b w (explained (view s) b h.sound) t in
          subst (λ (cs : List (List ℕ)). Framed cs (bytes ++ b ∷ [])) list
          (subst (Framed (h.cs ++ c ∷ [])) (sym longer) (framed_snoc c (h.passed ++ b ∷ []) h.frames v))

  -- the last byte of a frame
  framed : outside s b ≡ false → (ptype size : ℕ) → (receive s b).event ≡ Frame ptype size
      → (x : Reader) → frame (reader s' r.draft r.table r.slot) ptype (take size (drop 2 s'.bytes)) ≡ Ok x → Sofar f p n x (bytes ++ b ∷ [])
  framed o ptype size ev x y = go h.line
    where
      c : List ℕ
      c = take size (drop 2 s'.bytes)

      hunts : Rests s'
      hunts = let a : After (Frame ptype size) (step (view s) b).next = subst (λ (t : Event). After t (step (view s) b).next) ev (subst (λ (z : State). After (receive s b).event z) seen (after_byte s b)) in
          record { hunts = a.0; plain = a.1 }

      taken : (ptype ≡ 6) × Took n s' r.draft r.table r.slot (take size (drop 2 s'.bytes)) h.cs h.progress h.rows hunts x
      taken = frame_took n s' r.draft r.table r.slot (take size (drop 2 s'.bytes)) h.cs h.progress h.rows hunts ptype x y

      tells : told_of (step (view s) b) ≡ frame_of 6 (take size (drop 2 s'.bytes))
      tells =
          sym (told_in_array (view s) b s.bytes)
          ∙ ap (λ (t : Event). told t s'.bytes) ev
          ∙ ap (λ (k : ℕ). frame_of k (take size (drop 2 s'.bytes))) taken.0

      go_fits : Took n s' r.draft r.table r.slot (take size (drop 2 s'.bytes)) h.cs h.progress h.rows hunts x
          → Fitting r.draft (rows_of r.table) → Bytes (take size (drop 2 s'.bytes)) → Fitting x.draft (rows_of x.table)
      go_fits k q below =
          let m = took_fits (take size (drop 2 s'.bytes)) below r.draft (slot_at r.slot).item q.values q.row_fits in
          record {
            values = subst (λ (d : Draft). PropertiesFit d.properties) (sym k.draft_is) m.0;
            row_fits = subst (λ (d : Draft). RowFits d.row) (sym k.draft_is) m.1;
            rows_fit = k.rows_fit m.1 q.rows_fit;
          }

      go : Between n r h.passed → Sofar f p n x (bytes ++ b ∷ [])
      go (rest q e) = absurd (hunts_quiet 6 (take size (drop 2 s'.bytes)) (view s) b q.hunts (explained (view s) b h.sound) tells)
      go (amid i m w) =
          let v = closes_valid 6 (take size (drop 2 s'.bytes)) h.passed (view s) b w (explained (view s) b h.sound) tells in
          let k = taken.1.receiver_is in
          record {
            cs = h.cs ++ take size (drop 2 s'.bytes) ∷ [];
            whole = h.whole ++ (h.passed ++ b ∷ []);
            passed = [];
            bytes_are = longer ∙ sym (append-nil (h.whole ++ (h.passed ++ b ∷ [])));
            frames = framed_snoc (take size (drop 2 s'.bytes)) (h.passed ++ b ∷ []) h.frames v;
            progress = taken.1.progress;
            heard = k ∙ heard_next;
            line = rest (subst Rests (sym k) hunts) refl;
            sound = subst (λ (z : Receiver). Sound (view z)) (sym k) sound_next;
            rows = taken.1.rows;
            room = taken.1.room h.room (missing n r h.room m);
            dated = subst (λ (d : Draft). ValidOrNA d.properties.date) (sym taken.1.draft_is) (took_dated r.draft (slot_at r.slot).item (take size (drop 2 s'.bytes)) h.dated);
            fits = λ a c q. go_fits taken.1 (h.fits a c (all_front (λ x. x < 256) bytes (b ∷ []) q)) (frame_bytes 6 (take size (drop 2 s'.bytes)) tells q);
          }

  pub step_sofar : (x : Reader) → byte n r b ≡ Ok x → Sofar f p n x (bytes ++ b ∷ [])
  step_sofar x y = go (done n r) refl (outside s b) refl (receive s b).event refl
    where
      heard : done n r ≡ false → outside s b ≡ false → (t : Event) → (receive s b).event ≡ t → heard_as r s' t ≡ Ok x
      heard d o t e = sym (heard_told n r b (receive s b) refl d o t e) ∙ y

      go : (d : Bool) → done n r ≡ d → (o : Bool) → outside s b ≡ o → (t : Event) → (receive s b).event ≡ t → Sofar f p n x (bytes ++ b ∷ [])
      go true d o p t e = absurd (not_taken Length x (sym (byte_done n r b d) ∙ y))
      go false d true o t e = absurd (not_taken NotDue x (sym (byte_outside n r b d o) ∙ y))
      go false d false o Nothing e =
          subst (λ (v : Reader). Sofar f p n v (bytes ++ b ∷ [])) (same_reader (reader s' r.draft r.table r.slot) x (heard d o Nothing e)) (silent d o e)
      go false d false o (Dropped w q) e = absurd (not_taken NotDue x (heard d o (Dropped w q) e))
      go false d false o (Frame ptype size) e = framed o ptype size e x (heard d o (Frame ptype size) e)

-- what the reader is, by the bytes
module _ (f p n : ℕ) (r : Reader) (bytes : List ℕ) (h : Sofar f p n r bytes) where
  taken_is : {cs : List (List ℕ)} → Progress r.draft (rows_of r.table) r.slot cs → cs ≡ taken_frames r
  taken_is (in_values k z q) = q ∙ rw (lt-ltb r.slot 5 k)
  taken_is (in_row j k z q) =
      let before : j ≡ r.slot - 5 = omega arith in
      q ∙ ap (λ (i : ℕ). contents r.draft.properties (rows_of r.table) ++ map (content_of r.draft) (take i row_slots)) before ∙ rw (le-ltb r.slot 5 (omega arith))

  in_place : {cs : List (List ℕ)} → Progress r.draft (rows_of r.table) r.slot cs → r.slot < 31
  in_place (in_values k z q) = omega arith
  in_place (in_row j k z q) = omega arith

  none_yet : {cs : List (List ℕ)} → Progress r.draft (rows_of r.table) r.slot cs → r.slot < 5 → rows_of r.table ≡ []
  none_yet (in_values k z q) e = z
  none_yet (in_row j k z q) e = absurd (omega arith)

  nothing_open : Between n r h.passed → r.receiver.inside ≡ false → h.passed ≡ []
  nothing_open (rest q e) i = e
  nothing_open (amid j m w) i = absurd (false≢true (sym i ∙ j))

  none_left : Between n r h.passed → done n r ≡ true → h.passed ≡ []
  none_left (rest q e) d = e
  none_left (amid i m w) d = absurd (false≢true (sym m ∙ d))

  -- the last frame has ended: the bytes carry the values and the rows
  pub all_carried : done n r ≡ true → Carries bytes r.draft.properties (rows_of r.table) × (length (rows_of r.table) ≡ n)
  unfolding done
  all_carried d =
      let l = rows_of r.table in
      let five : r.slot ≡ 5 = eqb-true r.slot 5 (and_left _ _ d) in
      let same : bytes ≡ h.whole = h.bytes_are ∙ ap (λ (x : List ℕ). h.whole ++ x) (none_left h.line d) ∙ append-nil h.whole in (
        subst (λ (cs : List (List ℕ)). Framed cs bytes) (listed r.draft l r.slot h.cs h.progress five) (subst (Framed h.cs) (sym same) h.frames),
        eqb-true (length l) n (and_right (eqb r.slot 5) (eqb (length l) n) d),
      )

  pub sofar_stands : Stands n r bytes
  sofar_stands = record {
    whole = h.whole;
    part = h.passed;
    bytes_are = h.bytes_are;
    frames = subst (λ (cs : List (List ℕ)). Framed cs h.whole) (taken_is h.progress) h.frames;
    between = nothing_open h.line;
    receiver = h.heard;
    place = in_place h.progress;
    values_first = none_yet h.progress;
    added = h.rows.added;
    few = h.room.most;
    ended = all_carried;
    not_ended = missing n r h.room;
  }

-- along all bytes
module _ (f p n : ℕ) where
  record Ended (bytes : List ℕ) (x : Handover) : Type 0 where
    at : Reader
    sofar : Sofar f p n at bytes
    is_done : done n at ≡ true
    result : x ≡ accepted at

  run_sofar : (bs : List ℕ) (r : Reader) (i : ℕ) (before : List ℕ) → Sofar f p n r before → (reading f p n r bs i).answer ≡ Ok tt
      → Ended (before ++ bs) (reading f p n r bs i)
  unfolding reading ended refused
  run_sofar [] r i before h a = go (done n r) refl a
    where
      go : (d : Bool) → done n r ≡ d → (cond d (accepted r) (refused f p Length i)).answer ≡ Ok tt → Ended (before ++ []) (cond d (accepted r) (refused f p Length i))
      go true d a = record { at = r; sofar = rw append-nil h; is_done = d; result = refl }
      go false d a = absurd (not_accepted Length i a)
  run_sofar (b ∷ bs) r i before h a = go (byte n r b) refl a (λ s. run_sofar bs s (suc i) (before ++ b ∷ []))
    where
      go : (t : Stepped) → byte n r b ≡ t → (unless_refused f p i t (λ s. reading f p n s bs (suc i))).answer ≡ Ok tt
          → ((s : Reader) → Sofar f p n s (before ++ b ∷ []) → (reading f p n s bs (suc i)).answer ≡ Ok tt
          → Ended ((before ++ b ∷ []) ++ bs) (reading f p n s bs (suc i)))
          → Ended (before ++ b ∷ bs) (unless_refused f p i t (λ s. reading f p n s bs (suc i)))
      go (Ok s) t a ih =
          subst (λ (l : List ℕ). Ended l (reading f p n s bs (suc i))) (append_snoc before b bs)
          (ih s (step_sofar f p n r b before h s t) a)
      go (Err e) t a ih = absurd (not_accepted e i a)

  pub begin : Sofar f p n (start f p) []
  unfolding start Sound fresh_table rows_of fresh_draft fresh-properties.fresh no_date receiver_after
  begin = record {
    cs = [];
    whole = [];
    passed = [];
    bytes_are = refl;
    frames = none;
    progress = in_values (omega arith) refl refl;
    heard = refl;
    line = rest (record { hunts = refl; plain = refl }) refl;
    sound = λ e. absurd (false≢true e);
    rows = record { table_is = fresh_same; added = tt };
    room = record { most = omega arith; within = λ q. absurd (omega arith) };
    dated = is_na refl;
    fits = λ a c q. record {
      values = record { error = omega arith; firmware = a; protocol = c; year = omega arith; settled = valid_or_same no_date (is_na refl) };
      row_fits = blank_fits;
      rows_fit = tt;
    };
  }

  held : (bytes : List ℕ) (x : Handover) → Ended bytes x → x ≡ read f p n bytes → Held f p n bytes
  unfolding accepted
  held bytes x z e =
      let r = z.at in
      let h = z.sofar in
      let all = all_carried f p n r bytes h z.is_done in
      record {
        values = r.draft.properties;
        rows = rows_of r.table;
        carried = all.0;
        all = all.1;
        added = h.rows.added;
        date = h.dated;
        fits = λ a c q. let k = h.fits a c q in (k.values, k.rows_fit);
        result = sym e ∙ z.result ∙ ap (λ (t : Table). holding_table r.draft.properties t) h.rows.table_is;
      }

  -- Accepted means: the bytes are the frames of these values and rows, as many as were told, and the gateway holds just these
  pub accepted_carried : (bytes : List ℕ) → (read f p n bytes).answer ≡ Ok tt → Held f p n bytes
  unfolding read refused
  accepted_carried bytes a = go (ltb 32 n) refl a
    where
      go : (t : Bool) → ltb 32 n ≡ t → (cond t (refused f p (refusal.Row TableFull) 0) (reading f p n (start f p) bytes 0)).answer ≡ Ok tt → Held f p n bytes
      go true t a = absurd (not_accepted (refusal.Row TableFull) 0 a)
      go false t a = held bytes (reading f p n (start f p) bytes 0) (run_sofar bytes (start f p) 0 [] begin a) (sym (read_all f p n bytes (ltb-false 32 n t)))
