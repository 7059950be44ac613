-- Bytes that carry values and rows, in frames with or without needless escapes: accepted with the right count where a table takes the
-- rows, and refused at the last frame of the first row that it does not take. So the round trip. Assumes nothing.
use mathlib.Core.Path.{◌≡◌, refl, sym, ap, ◌∙◌, subst}
use mathlib.Core.Bool.{true}
use mathlib.Core.List.{List, [], ◌∷◌, ◌++◌, map, append_assoc, append-nil}
use Prim.Native.Nat.{ℕ, ◌+◌, ◌-◌, ◌<◌, ◌≤◌}
use native.Mathlib.Omega.{arith}
use lib.ListN.{length, drop, length-append}
use lib.Seq.{append_snoc}
use borrow.Author.Tests.{eq-eqb}
use Rattle.lists.specs.Overlay.{overlay}
use Rattle.lists.specs.Filter.{every, All}
use Rattle.lists.proofs.Refills.{refill_twice}
use Rattle.tpck.specs.declared.receiver.Receiver.{Receiver}
use Rattle.tpck.specs.Frame as tpck
use Rattle.tpck.specs.Receive as receiver
use Rattle.tpck.proofs.RoundTrip.{frame_valid}
use Rattle.devices.specs.declared.row.Row.{Row}
use Rattle.devices.specs.declared.table.Table.{Table}
use Rattle.std.specs.Prelude.{Ok, Err}
use Rattle.devices.specs.declared.table.RowRefusal.{RowRefusal}
use Rattle.devices.specs.declared.table.RowRefusal.TheVariants.{BadRow, AddressInTable}
use Rattle.devices.specs.Row.{blank_row}
use Rattle.devices.specs.Table.{rows_of, refill_rows, fresh_table, row_answer}
use Rattle.devices.proofs.Rows.{table_counted, rows_refill}
use Rattle.trpc.specs.declared.properties.Properties.{Properties}
use Rattle.gateway.specs.Reply.{on_line}
use Rattle.transfer.specs.declared.draft.Draft.{Draft}
use Rattle.transfer.specs.declared.reader.ReadRefusal.TheVariants as refusal
use Rattle.transfer.specs.Slots.{value_slots, row_slots, slots}
use Rattle.transfer.specs.Contents.{draft, content_of, value_contents, row_contents, rows_contents, contents, lines}
use Rattle.transfer.specs.Carry.{fresh_draft}
use Rattle.transfer.specs.Reading.{reader, start, done, accepted, ended, refused, reading, read}
use Rattle.transfer.specs.Ready.{PropertiesFit, RowFits}
use Rattle.transfer.specs.Statement.{Framed, none, more, Carries, Addable, holding, RowRefused}
use Rattle.transfer.proofs.Listed.{five}
use Rattle.transfer.proofs.Bytewise.{read_all}
use Rattle.transfer.proofs.Copies.{copied_all, is_value, values_copied}
use Rattle.transfer.proofs.Fitting.{blank_fits}
use Rattle.transfer.proofs.Passing.{past, past_length, Rests}
use Rattle.transfer.proofs.Progress.{contents_snoc}
use Rattle.transfer.proofs.Leading.{Reaches, then, Ends, then_ends, ends_added, ends_refused, run_values, run_row}

-- the frames of two lists
pub record Parts (k l : List (List ℕ)) (bs : List ℕ) : Type 0 where
  pub front : List ℕ
  pub back : List ℕ
  pub bytes_are : bs ≡ front ++ back
  pub frames : Framed k front
  pub others : Framed l back

pub parts : (k l : List (List ℕ)) (bs : List ℕ) → Framed (k ++ l) bs → Parts k l bs
parts [] l bs fr = record { front = []; back = bs; bytes_are = refl; frames = none; others = fr }
parts (c ∷ k) l bs (more {line = a} {rest = b} v fr) =
    let p = parts k l b fr in
    record {
      front = a ++ p.front;
      back = p.back;
      bytes_are = ap (λ (z : List ℕ). a ++ z) p.bytes_are ∙ sym (append_assoc a p.front p.back);
      frames = more v p.frames;
      others = p.others;
    }

module _ (f p n : ℕ) (g : Properties) (fit : PropertiesFit g) where
  abbrev pub last_of : Row → List Row → Row
  last_of q [] = q
  last_of q (r ∷ l) = last_of r l

  run_rows : (l k : List Row) → All RowFits l → Addable k l → length k + length l ≤ n → (q : Row) (s : Receiver) → Rests s
      → (bs : List ℕ) → Framed (rows_contents g l) bs
      → Reaches f p n (reader s (draft g q) (refill_rows fresh_table k) 5) bs (draft g (last_of q l)) (refill_rows fresh_table (k ++ l)) 5
  unfolding rows_contents row_contents
  run_rows [] k z a e q s r bs none = rw (append-nil k) (record { to = s; calm = r; goes = λ rest i. refl })
  run_rows (x ∷ l) k z a e q s r bs fr =
      let t = refill_rows fresh_table k in
      let held : rows_of t ≡ k = rows_refill fresh_table k in
      let m : length (k ++ x ∷ []) ≡ length k + 1 = length-append k (x ∷ []) in
      let u : refill_rows t (rows_of t ++ x ∷ []) ≡ refill_rows fresh_table (k ++ x ∷ []) = ap (λ (y : List Row). refill_rows t (y ++ x ∷ [])) held ∙ refill_twice table_counted fresh_table k (k ++ x ∷ []) (omega arith) in
      let ans : row_answer (rows_of t) x ≡ Ok tt = ap (λ (y : List Row). row_answer y x) held ∙ a.0 in
      let two = parts (map (content_of (draft g x)) row_slots) (rows_contents g l) bs fr in
      let end = run_row f p n (draft g x) fit z.0 (draft g q) t (λ y. omega (arith, ap length held, y)) s r two.front two.frames in
      let one = ends_added f p n (reader s (draft g q) t 5) two.front (draft g x) t end ans in
      subst (λ (y : List ℕ). Reaches f p n (reader s (draft g q) t 5) y (draft g (last_of x l)) (refill_rows fresh_table (k ++ x ∷ l)) 5) (sym two.bytes_are)
      (subst (λ (y : List Row). Reaches f p n (reader s (draft g q) t 5) (two.front ++ two.back) (draft g (last_of x l)) (refill_rows fresh_table y) 5) (append_snoc k x l)
      (then f p n (reader s (draft g q) t 5) two.front two.back (draft g x) (draft g (last_of x l)) (refill_rows fresh_table (k ++ x ∷ [])) (refill_rows fresh_table ((k ++ x ∷ []) ++ l)) 5 5
      (subst (λ (y : Table). Reaches f p n (reader s (draft g q) t 5) two.front (draft g x) y 5) u one)
      (λ s' r'. run_rows l (k ++ x ∷ []) z.1 a.1 (omega arith) x s' r' two.back two.others)))

fresh_rests : Rests receiver.fresh
fresh_rests = record { hunts = refl; plain = refl }

values_first : drop 0 slots ≡ value_slots ++ row_slots
unfolding slots
values_first = refl

all_values : every (λ x. is_value x.item) value_slots ≡ true
unfolding value_slots
all_values = refl

at_five : past value_slots 0 ≡ 5
unfolding value_slots
at_five = refl

refill_none : refill_rows fresh_table [] ≡ fresh_table
unfolding refill_rows fresh_table overlay
refill_none = refl

-- the bytes are at their end, and so are the frames
finished : (f p n : ℕ) (d : Draft) (l : List Row) → length l ≡ n → (s : Receiver) (i : ℕ)
    → reading f p n (reader s d (refill_rows fresh_table l) 5) [] i ≡ holding d.properties l
unfolding reading ended done accepted
finished f p n d l e s i = rw (eq-eqb (length (rows_of (refill_rows fresh_table l))) n (ap length (rows_refill fresh_table l) ∙ e))

module _ (f p n : ℕ) (g : Properties) (fit : PropertiesFit g) (l : List Row) (fits : All RowFits l) (a : Addable [] l) (bytes : List ℕ) where
  abbrev d : Draft
  d = fresh_draft f p

  -- the values and rows are read
  pub reach : length l ≤ n → Carries bytes g l → Reaches f p n (start f p) bytes (draft g (last_of f p n g fit d.row l)) (refill_rows fresh_table l) 5
  unfolding start contents value_contents
  reach h fr =
      let w = draft g blank_row in
      let two = parts (map (content_of w) value_slots) (rows_contents g l) bytes fr in
      let bs = two.front in
      let cs = two.back in
      let vs = run_values f p n w fit blank_fits value_slots row_slots 0 values_first all_values (omega (arith, five)) d fresh_table receiver.fresh fresh_rests bs two.frames in
      let e : copied_all d w value_slots ≡ draft g d.row = values_copied d w in
      let t = refill_rows fresh_table [] in
      let last = draft g (last_of f p n g fit d.row l) in
      let first_part : Reaches f p n (start f p) bs (draft g d.row) t 5 =
      subst (λ (k : ℕ). Reaches f p n (start f p) bs (draft g d.row) t k) at_five
      (subst (λ (z : Table). Reaches f p n (start f p) bs (draft g d.row) z (past value_slots 0)) (sym refill_none)
      (subst (λ (z : Draft). Reaches f p n (start f p) bs z fresh_table (past value_slots 0)) e vs)) in
      subst (λ (z : List ℕ). Reaches f p n (start f p) z last (refill_rows fresh_table l) 5) (sym two.bytes_are)
      (then f p n (start f p) bs cs (draft g d.row) last t (refill_rows fresh_table l) 5 5 first_part
      (λ s r. run_rows f p n g fit l [] fits a (omega arith) d.row s r cs two.others))

-- what carries values and rows that fit, with the right count, is accepted
pub carried_accepted : (f p : ℕ) (g : Properties) (l : List Row) (bytes : List ℕ) → PropertiesFit g → All RowFits l → Addable [] l → length l ≤ 32
    → Carries bytes g l → read f p (length l) bytes ≡ holding g l
carried_accepted f p g l bytes fit fits a few fr =
    let n = length l in
    let all = reach f p n g fit l fits a bytes (omega arith) fr in
    read_all f p n bytes few
    ∙ ap (λ (z : List ℕ). reading f p n (start f p) z 0) (sym (append-nil bytes))
    ∙ all.goes [] 0
    ∙ finished f p n (draft g (last_of f p n g fit (fresh_draft f p).row l)) l refl all.to (past bytes 0)

-- and a row after them that the table does not take is refused at its last byte, whatever comes then
module _ (f p n : ℕ) (few : n ≤ 32) (g : Properties) (fit : PropertiesFit g) (l : List Row) (fits : All RowFits l) (a : Addable [] l) (more-come : length l < n)
    (r : Row) (Fit-row : RowFits r) (bytes rest : List ℕ) (fr : Carries bytes g (l ++ r ∷ [])) where
  abbrev q : Row
  q = last_of f p n g fit (fresh_draft f p).row l

  table : Table
  table = refill_rows fresh_table l

  table_rows : rows_of table ≡ l
  unfolding table
  table_rows = rows_refill fresh_table l

  row_ends : Ends f p n (start f p) bytes (draft g r) table
  unfolding table row_contents
  row_ends =
      let two = parts (contents g l) (row_contents g r) bytes (subst (λ (z : List (List ℕ)). Framed z bytes) (sym (contents_snoc g l r)) fr) in
      subst (λ (z : List ℕ). Ends f p n (start f p) z (draft g r) table) (sym two.bytes_are)
      (then_ends f p n (start f p) two.front two.back (draft g q) (draft g r) table table 5
      (reach f p n g fit l fits a two.front (omega arith) two.frames)
      (λ s rests. run_row f p n (draft g r) fit Fit-row (draft g q) table (λ y. omega (arith, ap length table_rows, y)) s rests two.back two.others))

  refused_there : (e : RowRefusal) → row_answer l r ≡ Err e → read f p n (bytes ++ rest) ≡ refused f p (refusal.Row e) (length bytes - 1)
  refused_there e h =
      let m : past bytes 0 ≡ length bytes = omega (arith, past_length bytes 0) in
      read_all f p n (bytes ++ rest) few
      ∙ ends_refused f p n (start f p) bytes (draft g r) table row_ends e (ap (λ (z : List Row). row_answer z r) table_rows ∙ h) rest 0
      ∙ ap (λ (i : ℕ). refused f p (refusal.Row e) (i - 1)) m

  pub row_refused_there : RowRefused f p n l r bytes rest
  unfolding row_answer
  row_refused_there = record {
    bad = λ k. refused_there BadRow (rw k);
    twice = λ k t. refused_there AddressInTable (rw (k, t));
  }

-- the writer's frames are such bytes
abbrev pub joined : List (List ℕ) → List ℕ
joined [] = []
joined (x ∷ l) = x ++ joined l

pub joined_append : (k l : List (List ℕ)) → joined (k ++ l) ≡ joined k ++ joined l
joined_append [] l = refl
joined_append (x ∷ k) l = ap (λ (z : List ℕ). x ++ z) (joined_append k l) ∙ sym (append_assoc x (joined k) (joined l))

framed : (cs : List (List ℕ)) → Framed cs (joined (map (tpck.frame 6) cs))
framed [] = none
framed (c ∷ cs) = more (frame_valid 6 c) (framed cs)

pub round_trip : (f p : ℕ) (g : Properties) (l : List Row) → PropertiesFit g → All RowFits l → Addable [] l → length l ≤ 32
    → read f p (length l) (joined (lines g l)) ≡ holding g l
unfolding lines on_line
round_trip f p g l fit fits a few = carried_accepted f p g l (joined (lines g l)) fit fits a few (framed (contents g l))
