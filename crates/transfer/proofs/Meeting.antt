-- Refused just where document 02 says (specs/Met.antt): each refusal is one of its sentences, met at that byte, and each of these is
-- refused so. Assumes nothing.
use mathlib.Core.Path.{◌≡◌, refl, sym, ap, ◌∙◌, subst}
use mathlib.Core.Bool.{Bool, true, false, cond, not, false≢true}
use mathlib.Core.List.{List, [], ◌∷◌, ◌++◌}
use Prim.Native.Nat.{ℕ, suc, ◌+◌, ◌<◌, ◌≤◌}
use native.Mathlib.Omega.{arith}
use lib.Dec.{eqb, ltb, leb}
use lib.ListN.{length, take, drop, length-append}
use lib.Seq.{append_snoc}
use borrow.Author.Tests.{eqb-false, ne_eqb, ltb-false, le-ltb, lt-leb, not-true}
use Rattle.lists.specs.Filter.{any}
use Rattle.lists.specs.Equal.{equal}
use Rattle.lists.proofs.Equals.{equal_true}
use Rattle.lists.proofs.Clash.{clash}
use Rattle.lists.proofs.Filters.{and_left, and_right, all_front}
use Rattle.tpck.specs.declared.event.Event.{Event}
use Rattle.tpck.specs.declared.event.Event.TheVariants.{Nothing, Dropped, Frame}
use Rattle.tpck.specs.declared.receiver.Receiver.{Receiver}
use Rattle.tpck.specs.Event.{told, drop_number, drop_with, frame_of}
use Rattle.tpck.specs.Frame.{sof}
use Rattle.tpck.specs.Receive.{step, told_of, view, receive}
use Rattle.tpck.proofs.Delivered.{told_in_array}
use Rattle.devices.specs.declared.row.Row.{Row}
use Rattle.std.specs.Prelude.{Result, Ok, Err}
use Rattle.devices.specs.declared.table.RowRefusal.{RowRefusal}
use Rattle.devices.specs.declared.table.RowRefusal.TheVariants.{BadRow, AddressInTable, TableFull}
use Rattle.devices.specs.Row.{keeps_rules}
use Rattle.devices.specs.Table.{addressed, rows_of, row_answer, adding}
use Rattle.transfer.specs.declared.reader.Reader.{Reader}
use Rattle.transfer.specs.declared.reader.ReadRefusal.{ReadRefusal}
use Rattle.transfer.specs.declared.reader.ReadRefusal.TheVariants as refusal
use Rattle.transfer.specs.declared.reader.Handover.{Handover}
use Rattle.transfer.specs.Reading.{Stepped, reader, refused_at, start, done, added_to, placed, next, is_due, frame, heard_as, outside, byte, accepted, refused, ended, unless_refused, reading}
use Rattle.transfer.specs.Ready.{RowFits}
use Rattle.transfer.specs.Slots.{slot_at}
use Rattle.transfer.specs.Contents.{content_of}
use Rattle.transfer.specs.Carry.{took}
use Rattle.transfer.specs.Statement.{Carries, Bytes}
use Rattle.transfer.specs.Met.{Stands, tells, DueNow, EndsRow, MetBefore, stray, dropped, not_due, bad_row, twice, Met, early, runs_on, before, Along, none, more, FirstMet, Explains}
use Rattle.transfer.proofs.Bytewise.{read_all, byte_goes, byte_refused}
use Rattle.transfer.proofs.Outcomes.{same_refusal, same_refused, not_taken, not_accepted}
use Rattle.transfer.proofs.Frames.{heard_told}
use Rattle.trpc.specs.declared.properties.Properties.{Properties}
use Rattle.transfer.proofs.Earlier.{properties_kept}
use Rattle.transfer.proofs.Acceptance.{Sofar, step_sofar, begin, frame_bytes, frame_inside, row_framed, sofar_stands, byte_done, byte_outside}
use Rattle.transfer.proofs.Dues.{due_when, due_only}

-- ---- at a byte

module _ (f p n : ℕ) (word-f : f < 65536) (word-p : p < 65536) (few : n ≤ 32) where
  along_known : (front : List ℕ) (r : Reader) → Along n (start f p) front r → Sofar f p n r front
  along_known front r none = begin f p n
  along_known front r (more {bs = bs} {s = s} b a g) = step_sofar f p n s b bs (along_known bs s a) r g

  module _ (r : Reader) (front : List ℕ) (known : Sofar f p n r front) (b : ℕ) (below : Bytes (front ++ b ∷ [])) (d : done n r ≡ false) where
    abbrev s : Receiver
    s = r.receiver

    abbrev s' : Receiver
    s' = (receive s b).next

    -- the reader at the end of a frame
    abbrev r' : Reader
    r' = reader s' r.draft r.table r.slot

    fits : RowFits r.draft.row
    fits = (known.fits word-f word-p (all_front (λ x. x < 256) front (b ∷ []) below)).row_fits

    here : Stands n r front
    here = sofar_stands f p n r front known

    told_here : (ptype : ℕ) (c : List ℕ) → tells r b ≡ frame_of ptype c → told_of (step (view s) b) ≡ frame_of ptype c
    told_here ptype c t = sym (told_in_array (view s) b s.bytes) ∙ t

    content_bytes : (ptype : ℕ) (c : List ℕ) → tells r b ≡ frame_of ptype c → Bytes c
    content_bytes ptype c t = frame_bytes f p n r b front known ptype c (told_here ptype c t) below

    due : (ptype : ℕ) (c : List ℕ) → tells r b ≡ frame_of ptype c → DueNow r ptype c → is_due r' ptype c ≡ true
    due ptype c t q = due_when r' here.place fits c (content_bytes ptype c t) ptype q

    was_due : (ptype : ℕ) (c : List ℕ) → tells r b ≡ frame_of ptype c → is_due r' ptype c ≡ true → DueNow r ptype c
    was_due ptype c t q = due_only r' here.place fits c (content_bytes ptype c t) ptype q

    -- the row is whole
    not_full : 30 ≤ r.slot → leb 32 (length (rows_of r.table)) ≡ false
    not_full m = lt-leb 32 (length (rows_of r.table)) (omega (arith, few, here.not_ended d (omega arith)))

    row_met : (ptype : ℕ) (c : List ℕ) → tells r b ≡ frame_of ptype c → DueNow r ptype c → 30 ≤ r.slot
        → (e : RowRefusal) → row_answer (rows_of r.table) (next r c).row ≡ Err e → MetBefore r b (refusal.Row e)
    unfolding row_answer
    row_met ptype c t q m e a = go (keeps_rules (next r c).row) refl (any (addressed (next r c).row.address) (rows_of r.table)) refl a
      where
        ends : EndsRow r b (next r c).row
        ends = record { ptype = ptype; content = c; ends = t; due = q; last = omega (arith, here.place, m); row_is = refl }

        go : (k : Bool) → keeps_rules (next r c).row ≡ k → (i : Bool) → any (addressed (next r c).row.address) (rows_of r.table) ≡ i
            → cond (not k) (Err BadRow) (cond i (Err AddressInTable) (cond (leb 32 (length (rows_of r.table))) (Err TableFull) (Ok (tt {0})))) ≡ Err e
            → MetBefore r b (refusal.Row e)
        go false k i j z = let w : BadRow ≡ e = cc in subst (λ (x : RowRefusal). MetBefore r b (refusal.Row x)) w (bad_row (next r c).row ends k)
        go true k true i z = let w : AddressInTable ≡ e = cc in subst (λ (x : RowRefusal). MetBefore r b (refusal.Row x)) w (twice (next r c).row ends k i)
        go true k false i z =
            let done : ◌≡◌ {A = Result (Unit {0}) RowRefusal} (Ok tt) (Err e) = sym (ap (λ (x : Bool). cond x (Err TableFull) (Ok tt)) (not_full m)) ∙ z in
            clash cc

    -- a frame that is refused
    frame_met : (ptype : ℕ) (c : List ℕ) → tells r b ≡ frame_of ptype c → (e : ReadRefusal) → frame r' ptype c ≡ Err e → MetBefore r b e
    unfolding frame placed
    frame_met ptype c t e y = go (is_due r' ptype c) refl y
      where
        whole : (q : DueNow r ptype c) → 30 ≤ r.slot → (a : Result (Unit {0}) RowRefusal) → row_answer (rows_of r.table) (next r c).row ≡ a
            → added_to (reader s' (next r c) r.table r.slot) (adding r.table (next r c).row a) ≡ Err e → MetBefore r b e
        whole q m (Ok u) a z = absurd (not_taken e _ (sym z))
        whole q m (Err w) a z = subst (MetBefore r b) (same_refusal (refusal.Row w) e z) (row_met ptype c t q m w a)

        after : (q : DueNow r ptype c) (k : Bool) → ltb r.slot 30 ≡ k
            → cond k (Ok (reader s' (next r c) r.table (r.slot + 1))) (added_to (reader s' (next r c) r.table r.slot) (adding r.table (next r c).row (row_answer (rows_of r.table) (next r c).row))) ≡ Err e
            → MetBefore r b e
        after q true k z = absurd (not_taken e _ (sym z))
        after q false k z = whole q (ltb-false r.slot 30 k) (row_answer (rows_of r.table) (next r c).row) refl z

        go : (q : Bool) → is_due r' ptype c ≡ q → cond q (placed (reader s' (next r c) r.table r.slot)) (Err refusal.NotDue) ≡ Err e → MetBefore r b e
        go true q z = after (was_due ptype c t q) (ltb r.slot 30) refl z
        go false q z = subst (MetBefore r b) (same_refusal refusal.NotDue e z) (not_due ptype c t (λ w. false≢true (sym q ∙ due ptype c t w)))

    -- a byte that is refused
    byte_met : (e : ReadRefusal) → byte n r b ≡ Err e → MetBefore r b e
    byte_met e g = go (outside s b) refl (receive s b).event refl
      where
        heard : outside s b ≡ false → (t : Event) → (receive s b).event ≡ t → heard_as r s' t ≡ Err e
        heard o t k = sym (heard_told n r b (receive s b) refl d o t k) ∙ g

        apart : outside s b ≡ true → (s.inside ≡ false) × (b ≡ sof → ⊥)
        apart o = (not-true s.inside (and_left _ _ o), eqb-false b sof (not-true (eqb b sof) (and_right (not s.inside) (not (eqb b sof)) o)))

        go : (o : Bool) → outside s b ≡ o → (t : Event) → (receive s b).event ≡ t → MetBefore r b e
        go true o t k = subst (MetBefore r b) (same_refusal refusal.NotDue e (sym (byte_outside n r b d o) ∙ g)) (stray (apart o).0 (apart o).1)
        go false o Nothing k = absurd (not_taken e _ (sym (heard o Nothing k)))
        go false o (Dropped w q) k =
            subst (MetBefore r b) (same_refusal refusal.NotDue e (heard o (Dropped w q) k)) (dropped (drop_number w) q (ap (λ (v : Event). told v s'.bytes) k))
        go false o (Frame ptype size) k =
            frame_met ptype (take size (drop 2 s'.bytes)) (ap (λ (v : Event). told v s'.bytes) k) e (heard o (Frame ptype size) k)

    -- and what is met is refused
    module _ (ptype : ℕ) (c : List ℕ) (t : tells r b ≡ frame_of ptype c) where
      ends_frame : byte n r b ≡ frame r' ptype c
      ends_frame = go (receive s b).event refl t
        where
          go : (v : Event) → (receive s b).event ≡ v → told v s'.bytes ≡ frame_of ptype c → byte n r b ≡ frame r' ptype c
          go Nothing k z = clash cc
          go (Dropped w q) k z = clash cc
          go (Frame q size) k z =
              let a : q ≡ ptype = cc in
              let l : take size (drop 2 s'.bytes) ≡ c = cc in
              heard_told n r b (receive s b) refl d (frame_inside f p n r b front known ptype c (told_here ptype c t)) (Frame q size) k
              ∙ (λ i. frame r' (a i) (l i))

      not_due_refused : (DueNow r ptype c → ⊥) → byte n r b ≡ Err refusal.NotDue
      unfolding frame
      not_due_refused other = go (is_due r' ptype c) refl
        where
          go : (q : Bool) → is_due r' ptype c ≡ q → byte n r b ≡ Err refusal.NotDue
          go true q = absurd (other (was_due ptype c t q))
          go false q = ends_frame ∙ rw q

      row_refused : DueNow r ptype c → r.slot ≡ 30 → (e : RowRefusal) → row_answer (rows_of r.table) (next r c).row ≡ Err e
          → byte n r b ≡ Err (refusal.Row e)
      unfolding frame placed
      row_refused q m e a =
          ends_frame
          ∙ rw (due ptype c t q, le-ltb r.slot 30 (omega arith))
          (ap (λ (x : Result (Unit {0}) RowRefusal). added_to (reader s' (next r c) r.table r.slot) (adding r.table (next r c).row x)) a)

    met_refused : (e : ReadRefusal) → MetBefore r b e → byte n r b ≡ Err e
    unfolding row_answer
    met_refused e (stray i h) = byte_outside n r b d (rw (i, ne_eqb b sof h))
    met_refused e (dropped m q t) = go (outside s b) refl (receive s b).event refl t
      where
        go : (o : Bool) → outside s b ≡ o → (v : Event) → (receive s b).event ≡ v → told v s'.bytes ≡ drop_with m q → byte n r b ≡ Err refusal.NotDue
        go true o v k z = byte_outside n r b d o
        go false o Nothing k z = clash cc
        go false o (Dropped w j) k z = heard_told n r b (receive s b) refl d o (Dropped w j) k
        go false o (Frame q size) k z = clash cc
    met_refused e (not_due ptype c t other) = not_due_refused ptype c t other
    met_refused e (bad_row row h k) =
        let c = h.content in
        let z : keeps_rules (next r c).row ≡ false = ap keeps_rules (sym h.row_is) ∙ k in
        row_refused h.ptype c h.ends h.due h.last BadRow (rw z)
    met_refused e (twice row h k i) =
        let c = h.content in
        let z : keeps_rules (next r c).row ≡ true = ap keeps_rules (sym h.row_is) ∙ k in
        let w : any (addressed (next r c).row.address) (rows_of r.table) ≡ true = ap (λ (x : Row). any (addressed x.address) (rows_of r.table)) (sym h.row_is) ∙ i in
        row_refused h.ptype c h.ends h.due h.last AddressInTable (rw (z, w))

  -- ---- along the bytes

  front_bytes : (front : List ℕ) (b : ℕ) (bs : List ℕ) → Bytes (front ++ b ∷ bs) → Bytes (front ++ b ∷ [])
  front_bytes front b bs h = all_front (λ x. x < 256) (front ++ b ∷ []) bs (subst Bytes (sym (append_snoc front b bs)) h)

  one_longer : (front : List ℕ) (b : ℕ) → length (front ++ b ∷ []) ≡ suc (length front)
  one_longer front b = omega (arith, length-append front (b ∷ []))

  -- what was refused was met
  run_met : (bs : List ℕ) (r : Reader) (front : List ℕ) → Along n (start f p) front r → Bytes (front ++ bs) → (e : ReadRefusal) (at : ℕ)
      → (reading f p n r bs (length front)).answer ≡ refused_at e at → FirstMet f p n (front ++ bs) e at
  unfolding reading ended accepted refused
  run_met [] r front a h e at g = go (done n r) refl g
    where
      go : (d : Bool) → done n r ≡ d → (cond d (accepted r) (refused f p refusal.Length (length front))).answer ≡ refused_at e at → FirstMet f p n (front ++ []) e at
      go true d z = absurd (not_accepted e at (sym z))
      go false d z =
          let same = same_refused refusal.Length e (length front) at z in
          record { front = front; rest = []; bytes_are = refl; place = sym same.1; reader = r; taken = a; met = subst (Met n r []) same.0 (early d) }
  run_met (b ∷ bs) r front a h e at g = go (byte n r b) refl g (λ s. run_met bs s (front ++ b ∷ []))
    where
      known : Sofar f p n r front
      known = along_known front r a

      met_here : (w : ReadRefusal) → byte n r b ≡ Err w → (d : Bool) → done n r ≡ d → Met n r (b ∷ bs) w
      met_here w t true d = subst (Met n r (b ∷ bs)) (same_refusal refusal.Length w (sym (byte_done n r b d) ∙ t)) (runs_on b bs d)
      met_here w t false d = before b bs d (byte_met r front known b (front_bytes front b bs h) d w t)

      go : (t : Stepped) → byte n r b ≡ t → (unless_refused f p (length front) t (λ s. reading f p n s bs (suc (length front)))).answer ≡ refused_at e at
          → ((s : Reader) → Along n (start f p) (front ++ b ∷ []) s → Bytes ((front ++ b ∷ []) ++ bs) → (e : ReadRefusal) (at : ℕ)
          → (reading f p n s bs (length (front ++ b ∷ []))).answer ≡ refused_at e at → FirstMet f p n ((front ++ b ∷ []) ++ bs) e at)
          → FirstMet f p n (front ++ b ∷ bs) e at
      go (Ok s) t z rest =
          subst (λ (l : List ℕ). FirstMet f p n l e at) (append_snoc front b bs)
          (rest s (more b a t) (subst Bytes (sym (append_snoc front b bs)) h) e at (ap (λ (i : ℕ). (reading f p n s bs i).answer) (one_longer front b) ∙ z))
      go (Err w) t z rest =
          let same = same_refused w e (length front) at z in
          record { front = front; rest = b ∷ bs; bytes_are = refl; place = sym same.1; reader = r; taken = a; met = subst (Met n r (b ∷ bs)) same.0 (met_here w t (done n r) refl) }

  -- the reader along the bytes is the one that reads on
  along_reads : (front : List ℕ) (r : Reader) → Along n (start f p) front r → (rest : List ℕ) → reading f p n (start f p) (front ++ rest) 0 ≡ reading f p n r rest (length front)
  along_reads front r none rest = refl
  along_reads front r (more {bs = bs} {s = s} b a g) rest =
      ap (λ (l : List ℕ). reading f p n (start f p) l 0) (append_snoc bs b rest)
      ∙ along_reads bs s a (b ∷ rest)
      ∙ byte_goes f p n s b rest (length bs) r g
      ∙ ap (λ (i : ℕ). reading f p n r rest i) (sym (one_longer bs b))

  -- what is met is refused
  met_reads : (r : Reader) (front : List ℕ) → Sofar f p n r front → (rest : List ℕ) → Bytes (front ++ rest) → (e : ReadRefusal) → Met n r rest e → (i : ℕ)
      → reading f p n r rest i ≡ refused f p e i
  unfolding reading ended
  met_reads r front k rest h e (early d) i = rw d
  met_reads r front k rest h e (runs_on b bs d) i = byte_refused f p n r b bs i refusal.Length (byte_done n r b d)
  met_reads r front k rest h e (before b bs d m) i =
      byte_refused f p n r b bs i e (met_refused r front k b (front_bytes front b bs h) d e m)

  -- 19 and 20 are of the row that the bytes carry
  ends_carried : (front : List ℕ) (b : ℕ) (r : Reader) (row : Row) → Sofar f p n r front → Bytes (front ++ b ∷ []) → done n r ≡ false → EndsRow r b row
      → Carries (front ++ b ∷ []) r.draft.properties (rows_of r.table ++ row ∷ [])
  unfolding is_due
  ends_carried front b r row k below d h =
      let c = h.content in
      let test = due r front k b below d h.ptype c h.ends h.due in
      let made = equal_true c (content_of (next r c) (slot_at r.slot)) (and_right (eqb h.ptype 6) (equal c (content_of (next r c) (slot_at r.slot))) test) in
      let six : tells r b ≡ frame_of 6 c = h.ends ∙ ap (λ (i : ℕ). frame_of i c) h.due.of_type in
      let same : (next r c).properties ≡ r.draft.properties =
      ap (λ (i : ℕ). (took r.draft (slot_at i).item c).properties) h.last ∙ properties_kept r.draft c 25 (omega arith) in
      let framed = row_framed f p n r b front k c (told_here r front k b below d 6 c six) made (omega (arith, h.last)) in
      subst (λ (x : Row). Carries (front ++ b ∷ []) r.draft.properties (rows_of r.table ++ x ∷ [])) (sym h.row_is)
      (subst (λ (g : Properties). Carries (front ++ b ∷ []) g (rows_of r.table ++ (next r c).row ∷ [])) same framed)

  -- refused just where the first of document 02's sentences is met, at that byte
  pub read_explained : (bytes : List ℕ) → Bytes bytes → Explains f p n bytes
  read_explained bytes h = record {
    only = λ e at g. run_met bytes (start f p) [] none h e at (ap (λ (x : Handover). x.answer) (sym (read_all f p n bytes few)) ∙ g);
    when = λ e at m.
        let q : Bytes (m.front ++ m.rest) = subst Bytes m.bytes_are h in
        read_all f p n bytes few
        ∙ ap (λ (l : List ℕ). reading f p n (start f p) l 0) m.bytes_are
        ∙ along_reads m.front m.reader m.taken m.rest
        ∙ met_reads m.reader m.front (along_known m.front m.reader m.taken) m.rest q e m.met (length m.front)
        ∙ ap (refused f p e) (sym m.place);
    stands = λ front rest r e a. sofar_stands f p n r front (along_known front r a);
    row_carried = λ front rest b r row e a. ends_carried front b r row (along_known front r a) (front_bytes front b rest (subst Bytes e h));
  }
