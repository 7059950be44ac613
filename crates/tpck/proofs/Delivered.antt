-- What a frame event tells of the receiver, of every receiver value: the first N + 3 bytes of the body are the packet of the event's
-- type and data; for callers, the data can be read off the receiver's array, after Length and Type. Assumes nothing.
use Rattle.std.proofs.Common.{◌≡◌, ℕ, ◌+◌, ◌≤◌, Bool, true, false, List, [], ◌∷◌, length, take, drop, sym, refl, ap, ◌∙◌, subst, arith}
use Rattle.lists.specs.Overlay.{overlay}
use Rattle.lists.proofs.Clash.{clash}
use Rattle.lists.proofs.Overlays.{overlay_take}
use Rattle.lists.proofs.Counted.{counted_part}
use Rattle.tpck.specs.declared.event.Event.{Event}
use Rattle.tpck.specs.declared.event.Event.TheVariants.{Nothing, Dropped, Frame}
use Rattle.tpck.specs.declared.receiver.Receiver.{Receiver}
use Rattle.tpck.specs.Event.{told, frame_of}
use Rattle.tpck.specs.Frame.{length_of, type_of, data_of}
use Rattle.tpck.specs.Receive.{State, Step, step, full, summed, told_of, view, receive, told_by}
use Rattle.tpck.specs.Line.{Holds}
use Rattle.tpck.specs.Scan.{Scan, scan, scan_if, happens}
use Rattle.tpck.proofs.Bodies.{full_least, closed_packet}
use Rattle.tpck.proofs.Ways.{Way, pends, opens, restarts, idles, ends_early, ends_wrong, completes, skips, adds, overflows, step_way}
use Rattle.tpck.proofs.Theorems.{view_store}

-- a body that is complete, of this type and size
pub record Complete (ptype size : ℕ) (body : List ℕ) : Type 0 where
  pub size_is : size ≡ length_of body
  pub whole : size + 3 ≤ length body
  pub packed : Holds body ptype (data_of body)

module _ (ptype size : ℕ) where
  module _ (s : State) (b : ℕ) where
    -- what a step that ends in a frame tells: the body was complete, and stays
    abbrev Tells : Step → Type 0
    Tells t = t.event ≡ Frame ptype size → Complete ptype size s.body × (t.next.body ≡ s.body)

    complete : full s.body ≡ true → summed s.body ≡ true → Frame (type_of s.body) (length_of s.body) ≡ Frame ptype size → Complete ptype size s.body
    complete f m e =
        let k : ptype ≡ type_of s.body = cc in
        let n : size ≡ length_of s.body = cc in
        record {
          size_is = n;
          whole = rw n (full_least (length_of s.body) (length s.body) f);
          packed = rw k (closed_packet s.body f m);
        }

    way_tells : {t : Step} → Way s b t → Tells t
    way_tells (pends u) = λ e. clash cc
    way_tells (opens h u) = λ e. clash cc
    way_tells (restarts i u) = λ e. clash cc
    way_tells (idles h u) = λ e. clash cc
    way_tells (ends_early i u f) = λ e. clash cc
    way_tells (ends_wrong i u f m) = λ e. clash cc
    way_tells (completes i u f m) = λ e. (complete f m e, refl)
    way_tells (skips h p) = λ e. clash cc
    way_tells (adds i p f) = λ e. clash cc
    way_tells (overflows i p f) = λ e. clash cc

    step_tells : Tells (step s b)
    step_tells = way_tells (step_way s b)

    step_complete : (step s b).event ≡ Frame ptype size → Complete ptype size (step s b).next.body
    step_complete e = subst (Complete ptype size) (sym (step_tells e).1) (step_tells e).0

  pub delivered : (r : Receiver) (b : ℕ) → (receive r b).event ≡ Frame ptype size → Complete ptype size (view (receive r b).next).body
  delivered r b e = subst (λ (s : State). Complete ptype size s.body) (sym (view_store r (step (view r) b).next)) (step_complete (view r) b e)

  -- so does a scan that ends in a frame
  pub scan_delivered : (r : Receiver) (bytes : List ℕ) → (scan r bytes).event ≡ Frame ptype size → Complete ptype size (view (scan r bytes).next).body
  unfolding scan
  scan_delivered r [] e = clash cc
  scan_delivered r (b ∷ bs) e = go (happens (receive r b).event) (scan_delivered (receive r b).next bs) e
    where
      rest : Scan
      rest = scan (receive r b).next bs

      go : (t : Bool) → (rest.event ≡ Frame ptype size → Complete ptype size (view rest.next).body)
          → (scan_if (receive r b) rest t).event ≡ Frame ptype size → Complete ptype size (view (scan_if (receive r b) rest t).next).body
      go true h f = delivered r b f
      go false h f = h f

  -- the data, read off an array whose first bytes are such a body
  pub data_read : (len : ℕ) (bytes : List ℕ) → Complete ptype size (take len bytes) → take size (drop 2 bytes) ≡ data_of (take len bytes)
  data_read len bytes c =
      let h : 2 + size ≤ length (take len bytes) = omega (arith, c.whole) in
      counted_part len 2 size bytes h ∙ ap (λ (n : ℕ). take n (drop 2 (take len bytes))) c.size_is

-- what a byte did, told from the receiver's array: after the body it does not matter what stands there
pub told_in_array : (s : State) (b : ℕ) (base : List ℕ) → told (step s b).event (overlay (step s b).next.body base) ≡ told_of (step s b)
told_in_array s b base = go (step s b).event refl
  where
    go : (e : Event) → (step s b).event ≡ e → told e (overlay (step s b).next.body base) ≡ told e (step s b).next.body
    go Nothing h = refl
    go (Dropped d n) h = refl
    go (Frame ptype size) h =
        let c = step_complete ptype size s b h in
        let e = overlay_take (step s b).next.body base in
        let long : 2 + size ≤ length (take (length (step s b).next.body) (overlay (step s b).next.body base)) = rw e (omega (arith, c.whole)) in
        ap (frame_of ptype) (counted_part (length (step s b).next.body) 2 size (overlay (step s b).next.body base) long ∙ ap (λ (l : List ℕ). take size (drop 2 l)) e)

-- Every frame event, of every receiver value, has the right checksum for its Length, type and data: these are the first N + 3 bytes of
-- the body that was handed over.
pub frame_right : (r : Receiver) (b ptype : ℕ) (bytes : List ℕ) → told_by (receive r b) ≡ frame_of ptype bytes → Holds (view r).body ptype bytes
frame_right r b ptype bytes e = go (step (view r) b).event refl (ap (told (step (view r) b).event) (sym (ap (λ (s : State). s.body) (view_store r (step (view r) b).next))) ∙ e)
  where
    go : (x : Event) → (step (view r) b).event ≡ x → told x (step (view r) b).next.body ≡ frame_of ptype bytes → Holds (view r).body ptype bytes
    go Nothing h f = clash cc
    go (Dropped d n) h f = clash cc
    go (Frame k size) h f =
        let t = step_tells k size (view r) b h in
        let same : k ≡ ptype = cc in
        let read : take size (drop 2 (step (view r) b).next.body) ≡ bytes = cc in
        let data_is : data_of (view r).body ≡ bytes =
        ap (λ (n : ℕ). take n (drop 2 (view r).body)) (sym t.0.size_is) ∙ ap (λ (l : List ℕ). take size (drop 2 l)) (sym t.1) ∙ read in
        subst (Holds (view r).body ptype) data_is (subst (λ (n : ℕ). Holds (view r).body n (data_of (view r).body)) same t.0.packed)
