-- Frames lead the reader on: one frame, the values, and a whole row, which is then added or refused. Assumes nothing.
use mathlib.Core.Path.{◌≡◌, refl, sym, ap, ◌∙◌, subst}
use mathlib.Core.Bool.{true, false}
use mathlib.Core.List.{List, [], ◌∷◌, ◌++◌, map, append_assoc, append-nil}
use Prim.Native.Nat.{ℕ, suc, ◌+◌, ◌-◌, ◌<◌, ◌≤◌}
use native.Mathlib.Omega.{arith}
use native.Mathlib.Numerals.{add-one}
use lib.ListN.{length, get_or, drop, length-drop}
use lib.Seq.{drop-cons}
use borrow.Author.Tests.{ne_eqb, lt-ltb}
use Rattle.lists.specs.Filter.{every}
use Rattle.lists.proofs.Filters.{and_left, and_right}
use Rattle.tpck.specs.declared.receiver.Receiver.{Receiver}
use Rattle.tpck.specs.Frame as tpck
use Rattle.devices.specs.declared.table.Table.{Table}
use Rattle.std.specs.Prelude.{Result, Ok, Err}
use Rattle.devices.specs.declared.table.RowRefusal.{RowRefusal}
use Rattle.devices.specs.Table.{rows_of, refill_rows, row_answer, adding}
use Rattle.trpc.specs.Bytes.{bytes_of}
use Rattle.transfer.specs.declared.draft.Draft.{Draft}
use Rattle.transfer.specs.declared.slots.Slot.{Slot}
use Rattle.transfer.specs.declared.slots.Item.TheVariants.{OfRow}
use Rattle.transfer.specs.declared.slots.Part.TheVariants.{Attributes}
use Rattle.transfer.specs.declared.reader.Reader.{Reader}
use Rattle.transfer.specs.declared.reader.ReadRefusal.TheVariants as refusal
use Rattle.transfer.specs.Slots.{slot, value_slots, row_slots, slots, slot_at}
use Rattle.transfer.specs.Contents.{draft, payload_of, content_of}
use Rattle.transfer.specs.Carry.{took}
use Rattle.lists.specs.Equal.{equal}
use Rattle.transfer.specs.Reading.{Stepped, reader, done, added_to, placed, next, frame, refused, reading}
use Rattle.transfer.specs.Statement.{Framed, none, more}
use Rattle.transfer.specs.Ready.{PropertiesFit, RowFits}
use Rattle.lists.proofs.Equals.{equal_self}
use Rattle.transfer.proofs.Listed.{thirty_one, twenty_six}
use Rattle.transfer.proofs.Frames.{frame_due}
use Rattle.transfer.proofs.Placing.{slot_here}
use Rattle.transfer.proofs.Bytewise.{ending}
use Rattle.transfer.proofs.Copies.{copied, copied_all, took_copied, Begun, begun_first, begun_later, later, is_value, payload_of_value, payload_of_first, payload_of_later, row_copied}
use Rattle.transfer.proofs.Passing.{past, past_append, Rests, behind, behind_rests, frame_run}

module _ (f p n : ℕ) where
  -- the bytes lead from one reader to another, whose receiver rests
  pub record Reaches (r : Reader) (bs : List ℕ) (d : Draft) (t : Table) (k : ℕ) : Type 0 where
    pub to : Receiver
    pub calm : Rests to
    pub goes : (rest : List ℕ) (i : ℕ) → reading f p n r (bs ++ rest) i ≡ reading f p n (reader to d t k) rest (past bs i)

  -- the bytes lead to the end of a row's last frame, the row not yet added
  pub record Ends (r : Reader) (bs : List ℕ) (d : Draft) (t : Table) : Type 0 where
    pub to : Receiver
    pub calm : Rests to
    pub goes : (rest : List ℕ) (i : ℕ) → reading f p n r (bs ++ rest) i ≡ ending f p n (placed (reader to d t 30)) rest (past bs i)

  pub then_ends : (r : Reader) (bs cs : List ℕ) (d e : Draft) (t u : Table) (k : ℕ) → (a : Reaches r bs d t k)
      → ((s : Receiver) → Rests s → Ends (reader s d t k) cs e u) → Ends r (bs ++ cs) e u
  then_ends r bs cs d e t u k a b =
      let c = b a.to a.calm in
      record {
        to = c.to;
        calm = c.calm;
        goes = λ rest i.
            ap (λ (z : List ℕ). reading f p n r z i) (append_assoc bs cs rest)
            ∙ a.goes (cs ++ rest) i
            ∙ c.goes rest (past bs i)
            ∙ ap (λ (j : ℕ). ending f p n (placed (reader c.to e u 30)) rest j) (sym (past_append bs cs i));
      }

  pub then : (r : Reader) (bs cs : List ℕ) (d e : Draft) (t u : Table) (k l : ℕ) → (a : Reaches r bs d t k)
      → ((s : Receiver) → Rests s → Reaches (reader s d t k) cs e u l) → Reaches r (bs ++ cs) e u l
  then r bs cs d e t u k l a b =
      let c = b a.to a.calm in
      record {
        to = c.to;
        calm = c.calm;
        goes = λ rest i.
            ap (λ (z : List ℕ). reading f p n r z i) (append_assoc bs cs rest)
            ∙ a.goes (cs ++ rest) i
            ∙ c.goes rest (past bs i)
            ∙ ap (λ (j : ℕ). reading f p n (reader c.to e u l) rest j) (sym (past_append bs cs i));
      }

  -- one frame
  module _ (w : Draft) (fit : PropertiesFit w.properties) (Fit-row : RowFits w.row) (d : Draft) (t : Table) (k : ℕ) (more : (s : Receiver) → done n (reader s d t k) ≡ false)
      (x : Slot) (here : slot_at k ≡ x) (same : payload_of (copied d w x.item) x.item ≡ payload_of w x.item) (s : Receiver) (rests : Rests s) (tl : List ℕ) (v : tpck.Valid 6 (content_of w x) (tpck.sof ∷ tl)) where
    abbrev c : List ℕ
    c = content_of w x

    abbrev after : Receiver
    after = behind f p n d t k more s rests c tl v

    brings : next (reader after d t k) c ≡ copied d w x.item
    brings = ap (λ (z : Slot). took d z.item c) here ∙ took_copied d w fit Fit-row x

    due : equal c (content_of (next (reader after d t k) c) (slot_at k)) ≡ true
    unfolding content_of
    due =
        ap (equal c) (ap (λ (z : Draft). content_of z (slot_at k)) brings ∙ ap (content_of (copied d w x.item)) here ∙ ap (λ (z : List ℕ). x.service ∷ (bytes_of 4 x.id ++ z)) same)
        ∙ equal_self c

    taken : frame (reader after d t k) 6 c ≡ placed (reader after (copied d w x.item) t k)
    taken = frame_due (reader after d t k) c 6 refl due ∙ ap (λ (z : Draft). placed (reader after z t k)) brings

    pub one_frame : k < 30 → Reaches (reader s d t k) (tpck.sof ∷ tl) (copied d w x.item) t (suc k)
    unfolding placed
    one_frame h =
        let e : frame (reader after d t k) 6 c ≡ Ok (reader after (copied d w x.item) t (suc k)) =
        taken ∙ rw (lt-ltb k 30 h) (ap {B = Stepped} (λ (j : ℕ). Ok (reader after (copied d w x.item) t j)) (add-one k)) in
        record {
          to = after;
          calm = behind_rests f p n d t k more s rests c tl v;
          goes = frame_run f p n d t k more s rests c tl v (Ok (reader after (copied d w x.item) t (suc k))) e;
        }

    pub last_frame : k ≡ 30 → Ends (reader s d t k) (tpck.sof ∷ tl) (copied d w x.item) t
    last_frame h = record {
      to = after;
      goes = frame_run f p n d t k more s rests c tl v (placed (reader after (copied d w x.item) t 30)) (taken ∙ ap (λ (j : ℕ). placed (reader after (copied d w x.item) t j)) h);
      calm = behind_rests f p n d t k more s rests c tl v;
    }

  -- the row is whole: it is added, or refused
  module _ (r : Reader) (bs : List ℕ) (d : Draft) (t : Table) (a : Ends r bs d t) where
    answered : (x : Result (Unit {0}) RowRefusal) → row_answer (rows_of t) d.row ≡ x → placed (reader a.to d t 30) ≡ added_to (reader a.to d t 30) (adding t d.row x)
    unfolding placed
    answered x e = ap (λ (z : Result (Unit {0}) RowRefusal). added_to (reader a.to d t 30) (adding t d.row z)) e

    pub ends_added : row_answer (rows_of t) d.row ≡ Ok tt → Reaches r bs d (refill_rows t (rows_of t ++ d.row ∷ [])) 5
    ends_added e = record {
      to = a.to;
      calm = a.calm;
      goes = λ rest i. a.goes rest i ∙ ap (λ (z : Stepped). ending f p n z rest (past bs i)) (answered (Ok tt) e);
    }

    pub ends_refused : (e : RowRefusal) → row_answer (rows_of t) d.row ≡ Err e → (rest : List ℕ) (i : ℕ)
        → reading f p n r (bs ++ rest) i ≡ refused f p (refusal.Row e) (past bs i - 1)
    ends_refused e h rest i = a.goes rest i ∙ ap (λ (z : Stepped). ending f p n z rest (past bs i)) (answered (Err e) h)

-- the first frame of those due from a place on
heads : (k : ℕ) (x : Slot) (l : List Slot) → drop k slots ≡ x ∷ l → k < 31 → (slot_at k ≡ x) × (drop (suc k) slots ≡ l)
heads k x l e h =
    let z = sym (drop-cons slots k x (omega (arith, thirty_one))) ∙ e in
    (slot_here k h x ∙ ap (λ (y : List Slot). get_or y 0 x) z, ap (λ (y : List Slot). drop 1 y) z)

due_length : (k : ℕ) (l : List Slot) → drop k slots ≡ l → length l ≡ 31 - k
due_length k l e = ap length (sym e) ∙ length-drop k slots ∙ rw thirty_one

-- no hand-over ends inside the values or a row
not_ended : (n : ℕ) (d : Draft) (t : Table) (k : ℕ) → (k ≡ 5 → ⊥) → (s : Receiver) → done n (reader s d t k) ≡ false
unfolding done
not_ended n d t k h s = rw (ne_eqb k 5 h)

rows_missing : (n : ℕ) (d : Draft) (t : Table) → (length (rows_of t) ≡ n → ⊥) → (s : Receiver) → done n (reader s d t 5) ≡ false
unfolding done
rows_missing n d t h s = ne_eqb (length (rows_of t)) n h

module _ (f p n : ℕ) (w : Draft) (fit : PropertiesFit w.properties) (Fit-row : RowFits w.row) where
  no_bytes : (s : Receiver) → Rests s → (d : Draft) (t : Table) (k : ℕ) → Reaches f p n (reader s d t k) [] d t k
  no_bytes s r d t k = record { to = s; calm = r; goes = λ rest i. refl }

  -- the values
  pub run_values : (l after : List Slot) (k : ℕ) → drop k slots ≡ l ++ after → every (λ x. is_value x.item) l ≡ true → length l + k ≤ 5
      → (d : Draft) (t : Table) (s : Receiver) → Rests s → (bs : List ℕ) → Framed (map (content_of w) l) bs → Reaches f p n (reader s d t k) bs (copied_all d w l) t (past l k)
  run_values [] after k e v h d t s r bs none = no_bytes s r d t k
  run_values (x ∷ l) after k e v h d t s r bs (more (tpck.valid {line = a} z) u) =
      let b = heads k x (l ++ after) e (omega arith) in
      let c = copied d w x.item in
      then f p n (reader s d t k) (tpck.sof ∷ a ++ tpck.eof ∷ []) _ c (copied_all c w l) t t (suc k) (past l (suc k))
      (one_frame f p n w fit Fit-row d t k (not_ended n d t k (λ q. omega arith)) x b.0 (payload_of_value d w x.item (and_left _ _ v)) s r (a ++ tpck.eof ∷ []) (tpck.valid z) (omega arith))
      (λ s' r'. run_values l after (suc k) b.1 (and_right (is_value x.item) (every (λ y. is_value y.item) l) v) (omega arith) c t s' r' _ u)

  -- after a row's first frame
  run_later : (l : List Slot) (x : Slot) (k : ℕ) → drop k slots ≡ x ∷ l → every later (x ∷ l) ≡ true → 5 < k
      → (d : Draft) → Begun d w → (t : Table) (s : Receiver) → Rests s
      → (bs : List ℕ) → Framed (map (content_of w) (x ∷ l)) bs → Ends f p n (reader s d t k) bs (copied_all d w (x ∷ l)) t
  run_later [] x k e v h d g t s r bs (more (tpck.valid {line = y} z) none) =
      let m : 1 ≡ 31 - k = due_length k (x ∷ []) e in
      let b = heads k x [] e (omega arith) in
      rw (append-nil (tpck.sof ∷ y ++ tpck.eof ∷ []))
      (last_frame f p n w fit Fit-row d t k (not_ended n d t k (λ q. omega arith)) x b.0 (payload_of_later d w g x.item (and_left _ _ v)) s r (y ++ tpck.eof ∷ []) (tpck.valid z) (omega arith))
  run_later (y ∷ l) x k e v h d g t s r bs (more (tpck.valid {line = j} z) q) =
      let m : length (x ∷ y ∷ l) ≡ 31 - k = due_length k (x ∷ y ∷ l) e in
      let b = heads k x (y ∷ l) e (omega arith) in
      let c = copied d w x.item in
      then_ends f p n (reader s d t k) (tpck.sof ∷ j ++ tpck.eof ∷ []) _ c (copied_all c w (y ∷ l)) t t (suc k)
      (one_frame f p n w fit Fit-row d t k (not_ended n d t k (λ o. omega arith)) x b.0 (payload_of_later d w g x.item (and_left _ _ v)) s r (j ++ tpck.eof ∷ []) (tpck.valid z) (omega arith))
      (λ s' r'. run_later l y (suc k) b.1 (and_right (later x) (every later (y ∷ l)) v) (omega arith) c (begun_later d w g x.item (and_left _ _ v)) t s' r' _ q)

  -- a whole row
  abbrev first : Slot
  first = slot 4 0x11F (OfRow Attributes)

  after_first : List Slot
  after_first = drop 1 row_slots

  split : row_slots ≡ first ∷ after_first
  unfolding row_slots after_first
  split = refl

  later_all : every later after_first ≡ true
  unfolding row_slots after_first
  later_all = refl

  from_five : drop 5 slots ≡ first ∷ after_first
  unfolding slots value_slots row_slots after_first
  from_five = refl

  pub run_row : (d : Draft) (t : Table) → (length (rows_of t) ≡ n → ⊥) → (s : Receiver) → Rests s
      → (bs : List ℕ) → Framed (map (content_of w) row_slots) bs → Ends f p n (reader s d t 5) bs (draft d.properties w.row) t
  run_row d t h s r bs fr =
      subst (λ (z : Draft). Ends f p n (reader s d t 5) bs z t) (row_copied d w Fit-row)
      (go after_first split later_all (heads 5 first after_first from_five (omega arith)) bs (subst (λ (z : List Slot). Framed (map (content_of w) z) bs) split fr))
    where
      go : (l : List Slot) → row_slots ≡ first ∷ l → every later l ≡ true → (slot_at 5 ≡ first) × (drop 6 slots ≡ l) → (bs : List ℕ) → Framed (map (content_of w) (first ∷ l)) bs
          → Ends f p n (reader s d t 5) bs (copied_all d w row_slots) t
      go [] e v b bs fr = absurd (omega (arith, twenty_six, ap length e))
      go (y ∷ l) e v b bs (more {rest = after} (tpck.valid {line = j} z) q) =
          let c = copied d w (OfRow Attributes) in
          subst (λ (k : List Slot). Ends f p n (reader s d t 5) ((tpck.sof ∷ j ++ tpck.eof ∷ []) ++ after) (copied_all d w k) t) (sym e)
          (then_ends f p n (reader s d t 5) (tpck.sof ∷ j ++ tpck.eof ∷ []) after c (copied_all c w (y ∷ l)) t t 6
          (one_frame f p n w fit Fit-row d t 5 (rows_missing n d t h) first b.0 (payload_of_first d w) s r (j ++ tpck.eof ∷ []) (tpck.valid z) (omega arith))
          (λ s' r'. run_later l y 6 b.1 v (omega arith) c (begun_first d w) t s' r' after q))
