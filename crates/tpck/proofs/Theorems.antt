-- The theorems of the code's own receiver and buffer: what `receive` answers, byte by byte, is the definition's run, so frames written
-- are read back and every event is explained. Assumes nothing.
use Rattle.std.proofs.Common.{◌≡◌, ℕ, ◌+◌, ◌≤◌, Bool, true, false, cond, ltb, List, [], ◌∷◌, ◌++◌, length, take, drop, sym, refl, ap, ◌∙◌, subst, append-nil, arith, length-append}
use mathlib.Core.Bool.{false≢true}
use lib.Seq.{take-append_seam, append_snoc}
use Rattle.lists.specs.Overlay.{overlay}
use Rattle.lists.proofs.Clash.{clash}
use Rattle.lists.proofs.Overlays.{overlay_take}
use Rattle.lists.proofs.Counted.{counted_part}
use Rattle.tpck.specs.declared.event.Event.{Event}
use Rattle.tpck.specs.declared.receiver.Receiver.{Receiver}
use Rattle.std.specs.Prelude.{Result, Ok, Err}
use Rattle.tpck.specs.declared.writer.Refusal.{Refusal}
use Rattle.tpck.specs.declared.writer.Refusal.TheVariants.{NoRoom, TooMuchData}
use Rattle.tpck.specs.Event.{Told, told}
use Rattle.tpck.specs.Frame.{frame, packet, header, checksum, Valid}
use Rattle.tpck.specs.Receive.{State, Step, step, view, store, receive, fresh, told_by}
use Rattle.tpck.specs.Write.{write, line_of, buffer}
use Rattle.tpck.specs.Line.{run, events, receiver_after, answers, After, hunting, ReadBack}
use Rattle.tpck.specs.Sent.{pending_after}
use Rattle.tpck.specs.Explained.{Explained, LineExplained, WasSent}
use Rattle.tpck.proofs.Ways.{Way, pends, opens, restarts, idles, ends_early, ends_wrong, completes, skips, adds, overflows, step_way}
use Rattle.tpck.proofs.RoundTrip.{valid_delivered, frame_valid}
use Rattle.tpck.proofs.Explaining.{Sound, explained, step_sound}
use Rattle.tpck.proofs.OneOutcome.{only_explained}
use Rattle.tpck.proofs.Sent.{Tracked, step_tracked, frame_sent}

pub view_store : (r : Receiver) (s : State) → view (store r s) ≡ s
view_store r s = λ i. record { inside = s.inside; escaped = s.escaped; body = overlay_take s.body r.bytes i }

pub after_snoc : (r : Receiver) (bs : List ℕ) (b : ℕ) → receiver_after r (bs ++ b ∷ []) ≡ (receive (receiver_after r bs) b).next
unfolding receiver_after
after_snoc r [] b = refl
after_snoc r (x ∷ bs) b = after_snoc (receive r x).next bs b

pub after_view : (r : Receiver) (bs : List ℕ) → view (receiver_after r bs) ≡ run (view r) bs
unfolding receiver_after run
after_view r [] = refl
after_view r (b ∷ bs) = after_view (receive r b).next bs ∙ ap (λ (s : State). run s bs) (view_store r (step (view r) b).next)

pub answers_view : (r : Receiver) (bs : List ℕ) → answers r bs ≡ events (view r) bs
unfolding answers events
answers_view r [] = refl
answers_view r (b ∷ bs) =
    ap (λ (es : List Event). (step (view r) b).event ∷ es)
    (answers_view (receive r b).next bs ∙ ap (λ (s : State). events s bs) (view_store r (step (view r) b).next))

-- `receive` takes a valid frame, with or without needless escapes
pub valid_read_back : (r : Receiver) → r.escaped ≡ false → (ptype : ℕ) (bytes : List ℕ) {line : List ℕ} → Valid ptype bytes line → ReadBack r line ptype bytes
valid_read_back r h ptype bytes {line} v =
    let d = valid_delivered (view r) h ptype bytes v in
    let e : view (receiver_after r line) ≡ hunting (packet ptype bytes) = after_view r line ∙ d.hunts in
    let body : take (receiver_after r line).len (receiver_after r line).bytes ≡ packet ptype bytes = ap (λ (s : State). s.body) e in
    let c = checksum (header ptype bytes) in
    let long : 2 + length bytes ≤ length (take (receiver_after r line).len (receiver_after r line).bytes) = rw body (omega (arith, length-append bytes (c ∷ []))) in
    record {
      told = answers_view r line ∙ d.told;
      hunts = e;
      data_read =
          counted_part (receiver_after r line).len 2 (length bytes) (receiver_after r line).bytes long
          ∙ ap (λ (l : List ℕ). take (length bytes) (drop 2 l)) body
          ∙ take-append_seam bytes (c ∷ []);
    }

-- where `write` answers a length, it is the frame's
written_length : (ptype : ℕ) (bytes out : List ℕ) (n : ℕ) → write ptype bytes out ≡ Ok n → n ≡ length (frame ptype bytes)
written_length ptype bytes out n = go (ltb 255 (length bytes)) (ltb (length out) (length (frame ptype bytes)))
  where
    go : (t u : Bool) → cond t (Err TooMuchData) (cond u (Err NoRoom) (Ok (length (frame ptype bytes)))) ≡ Ok n → n ≡ length (frame ptype bytes)
    go true u h = clash cc
    go false true h = clash cc
    go false false h = cc

-- `receive` takes the frame that `write` leaves in its buffer
pub read_back : (r : Receiver) → r.escaped ≡ false → (ptype : ℕ) (bytes out : List ℕ) (n : ℕ)
    → write ptype bytes out ≡ Ok n → ReadBack r (take n (buffer ptype bytes out)) ptype bytes
read_back r h ptype bytes out n e =
    let f = frame ptype bytes in
    let k = written_length ptype bytes out n e in
    let l : take n (buffer ptype bytes out) ≡ f =
    ap (λ (w : Result ℕ Refusal). take n (overlay (line_of w f) out)) e ∙ ap (λ (m : ℕ). take m (overlay f out)) k ∙ overlay_take f out in
    subst (λ (line : List ℕ). ReadBack r line ptype bytes) (sym l) (valid_read_back r h ptype bytes (frame_valid ptype bytes))

-- after each event
pub after_byte : (r : Receiver) (b : ℕ) → After (receive r b).event (view (receive r b).next)
after_byte r b = subst (λ (s : State). After (step (view r) b).event s) (sym (view_store r (step (view r) b).next)) (go (step_way (view r) b))
  where
    go : {t : Step} → Way (view r) b t → After t.event t.next
    go (pends u) = tt
    go (opens h u) = tt
    go (restarts i u) = refl
    go (idles h u) = tt
    go (ends_early i u f) = (refl, refl)
    go (ends_wrong i u f m) = (refl, refl)
    go (completes i u f m) = (refl, refl)
    go (skips h p) = tt
    go (adds i p f) = tt
    go (overflows i p f) = (refl, refl)

-- a fresh receiver is sound after any bytes
after_sound : (r : Receiver) → Sound (view r) → (bs : List ℕ) → Sound (view (receiver_after r bs))
unfolding receiver_after
after_sound r h [] = h
after_sound r h (b ∷ bs) =
    after_sound (receive r b).next (subst Sound (sym (view_store r (step (view r) b).next)) (step_sound (view r) b h)) bs

fresh_sound : Sound (view fresh)
unfolding Sound
fresh_sound e = absurd (false≢true e)

-- what a line tells of the receiver after it
after_tracked : (r : Receiver) (sent : List ℕ) → Tracked sent (view r) → (bs : List ℕ) → Tracked (sent ++ bs) (view (receiver_after r bs))
unfolding receiver_after
after_tracked r sent h [] = rw append-nil h
after_tracked r sent h (b ∷ bs) =
    rw (← append_snoc sent b bs)
    (after_tracked (receive r b).next (sent ++ b ∷ []) (subst (Tracked (sent ++ b ∷ [])) (sym (view_store r (step (view r) b).next)) (step_tracked sent b (view r) h)) bs)

fresh_tracked : Tracked [] (view fresh)
unfolding pending_after
fresh_tracked = record { escape = refl; body = λ e. absurd (false≢true e) }

-- The auditor's first question, answered: after any bytes whatever, what the next byte does, and the receiver that it leaves, are what
-- document 01 says; the body is what came since an unescaped SOF; and a frame is delivered only where exactly N data bytes and the right
-- checksum came for its Length N.
pub line_explained : (line : List ℕ) (b : ℕ) → LineExplained line b
line_explained line b =
    let r = receiver_after fresh line in
    let k = after_tracked fresh [] fresh_tracked line in
    record {
      escape = k.escape;
      body = k.body;
      byte =
          subst (λ (s : State). Explained (view r) b (told (step (view r) b).event s.body) s) (sym (view_store r (step (view r) b).next))
          (explained (view r) b (after_sound fresh fresh_sound line));
    }

-- Nothing else is explained: of every receiver and byte, the outcome that the sentences name is what `receive` does and leaves.
pub explained_only : (r : Receiver) (b : ℕ) {t : Told} {u : State} → Explained (view r) b t u → (t ≡ told_by (receive r b)) × (u ≡ view (receive r b).next)
explained_only r b x =
    let o = only_explained (view r) b x in
    let e = sym (view_store r (step (view r) b).next) in
    (o.did ∙ ap (λ (s : State). told (step (view r) b).event s.body) e, o.next ∙ e)

-- What is delivered was sent: a frame event comes only at the end of a valid frame of that type and data on the line.
pub delivered_was_sent : (line : List ℕ) (b : ℕ) → WasSent line b
delivered_was_sent line b ptype bytes e =
    frame_sent ptype bytes line (view (receiver_after fresh line)) b (after_tracked fresh [] fresh_tracked line) (line_explained line b).byte e
