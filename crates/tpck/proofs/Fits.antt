-- A receiver's length within its array, over a byte and over a scan: after a byte it is, the array never shrinks, and it keeps its length
-- where its numbers and those of the line are bytes. So what a receiver has but for its bytes, and its bytes, make it again. Assumes
-- nothing.
use Rattle.std.proofs.Common.{◌≡◌, ℕ, zero, suc, ◌+◌, ◌-◌, ◌<◌, ◌≤◌, min, Bool, true, false, List, [], ◌∷◌, ◌++◌, length, get_or, take, drop, sym, ap, ◌∙◌, arith, lit<, length-append, length-drop, length-take}
use Rattle.lists.specs.Overlay.{overlay}
use Rattle.lists.proofs.Clash.{clash}
use Rattle.lists.proofs.Overlays.{overlay_nil, overlay_taken}
use Rattle.tpck.specs.declared.event.Drop.{Drop}
use Rattle.tpck.specs.declared.event.Event.TheVariants.{Dropped}
use Rattle.tpck.specs.declared.receiver.Receiver.{Receiver}
use Rattle.tpck.specs.Frame.{places, length_of}
use Rattle.tpck.specs.Receive.{Step, view, step, receive, full}
use Rattle.tpck.specs.Scan.{Scan, scan, scan_if, happens, joined, control_of}
use Rattle.tpck.proofs.Bodies.{full_room}
use Rattle.tpck.proofs.Ways.{Way, pends, opens, restarts, idles, ends_early, ends_wrong, completes, skips, adds, overflows, step_way}
use Rattle.tpck.proofs.Drops.{step_drops}

-- ---- a list laid over another

module _ (l s : List ℕ) where
  laid_length : length (overlay l s) ≡ length l + (length s - length l)
  unfolding overlay
  laid_length = length-append l (drop (length l) s) ∙ ap (λ (n : ℕ). length l + n) (length-drop (length l) s)

-- ---- over a byte

module _ (r : Receiver) (b : ℕ) where
  receive_len : (receive r b).next.len ≤ length (receive r b).next.bytes
  receive_len = omega (arith, laid_length (step (view r) b).next.body r.bytes)

  receive_grows : length r.bytes ≤ length (receive r b).next.bytes
  receive_grows = omega (arith, laid_length (step (view r) b).next.body r.bytes)

  receive_taken : (d : Drop) (n : ℕ) → (receive r b).event ≡ Dropped d n → n ≤ length r.bytes
  receive_taken d n e = omega (arith, (step_drops (view r) b d n e).count, length-take r.len r.bytes)

-- the first byte of a part of a list, and of the list with a byte after that part
first_taken : (n : ℕ) (l : List ℕ) → get_or l 0 0 < 256 → get_or (take n l) 0 0 < 256
first_taken zero l h = lit< tt
first_taken (suc n) [] h = h
first_taken (suc n) (x ∷ l) h = h

first_added : (n : ℕ) (l : List ℕ) (b : ℕ) → get_or l 0 0 < 256 → b < 256 → get_or (overlay (take n l ++ b ∷ []) l) 0 0 < 256
unfolding overlay
first_added zero l b h k = k
first_added (suc n) [] b h k = k
first_added (suc n) (x ∷ l) b h k = h

-- a receiver whose array has its places, of which the first holds a byte
pub record Whole (r : Receiver) : Type 0 where
  pub places_are : length r.bytes ≡ places
  pub first_is : get_or r.bytes 0 0 < 256

module _ (r : Receiver) (b : ℕ) (w : Whole r) (octet : b < 256) where
  -- its array after a body was laid over it
  abbrev Laid : List ℕ → Type 0
  Laid body = (length (overlay body r.bytes) ≡ places) × (get_or (overlay body r.bytes) 0 0 < 256)

  same : (body : List ℕ) → overlay body r.bytes ≡ r.bytes → Laid body
  same body e = rw e (w.places_are, w.first_is)

  kept : Laid (view r).body
  kept = same (view r).body (overlay_taken r.len r.bytes)

  emptied : Laid []
  emptied = same [] (overlay_nil r.bytes)

  added : full (view r).body ≡ false → Laid ((view r).body ++ b ∷ [])
  added f =
      let body = (view r).body in
      let room : length body < 258 = full_room (length_of body) (length body) (first_taken r.len r.bytes w.first_is) f in
      let long = length-append body (b ∷ []) in
      (omega (arith, laid_length (body ++ b ∷ []) r.bytes, w.places_are), first_added r.len r.bytes b w.first_is octet)

  by_way : {t : Step} → Way (view r) b t → Laid t.next.body
  by_way (pends u) = kept
  by_way (opens i u) = emptied
  by_way (restarts i u) = emptied
  by_way (idles i u) = kept
  by_way (ends_early i u f) = kept
  by_way (ends_wrong i u f m) = kept
  by_way (completes i u f m) = kept
  by_way (skips i p) = kept
  by_way (adds i p f) = added f
  by_way (overflows i p f) = kept

  receive_whole : Whole (receive r b).next
  receive_whole = let l = by_way (step_way (view r) b) in record { places_are = l.0; first_is = l.1 }

-- ---- over a scan

-- what holds after each byte holds after a scan of at least one
scan_last : (P : Receiver → Type 0) → ((r : Receiver) (b : ℕ) → P (receive r b).next)
    → (r : Receiver) (b : ℕ) (bs : List ℕ) → P (scan r (b ∷ bs)).next
unfolding scan
scan_last P each r b [] = go (happens (receive r b).event)
  where
    go : (t : Bool) → P (scan_if (receive r b) (scan (receive r b).next []) t).next
    go true = each r b
    go false = each r b
scan_last P each r b (c ∷ cs) = go (happens (receive r b).event) (scan_last P each (receive r b).next c cs)
  where
    go : (t : Bool) → P (scan (receive r b).next (c ∷ cs)).next → P (scan_if (receive r b) (scan (receive r b).next (c ∷ cs)) t).next
    go true h = each r b
    go false h = h

-- so the length is within the array
pub scan_len : (r : Receiver) (b : ℕ) (bs : List ℕ) → (scan r (b ∷ bs)).next.len ≤ length (scan r (b ∷ bs)).next.bytes
scan_len = scan_last (λ (r : Receiver). r.len ≤ length r.bytes) receive_len

-- taken apart and put together again
pub joined_control : (r : Receiver) → r.len ≤ places → joined (control_of r) r.bytes ≡ r
joined_control r h =
    let e : min r.len places ≡ r.len = omega arith in
    λ k. record { inside = r.inside; escaped = r.escaped; len = e k; bytes = r.bytes }

-- also after a scan that leaves the array its places
pub scan_joined : (r : Receiver) (b : ℕ) (bs : List ℕ) → length (scan r (b ∷ bs)).next.bytes ≡ places
    → let x = (scan r (b ∷ bs)).next in joined (control_of x) x.bytes ≡ x
scan_joined r b bs h = joined_control (scan r (b ∷ bs)).next (omega (arith, scan_len r b bs))

-- the array has its places after a scan where it had them before and all are bytes
pub scan_whole : (r : Receiver) (bytes : List ℕ) → ((i : ℕ) → get_or bytes i 0 < 256) → Whole r → Whole (scan r bytes).next
unfolding scan
scan_whole r [] octets w = w
scan_whole r (b ∷ bs) octets w =
    let x = receive_whole r b w (octets 0) in
    go (happens (receive r b).event) x (scan_whole (receive r b).next bs (λ i. octets (suc i)) x)
  where
    go : (t : Bool) → Whole (receive r b).next → Whole (scan (receive r b).next bs).next
        → Whole (scan_if (receive r b) (scan (receive r b).next bs) t).next
    go true x y = x
    go false x y = y

pub scan_length : (r : Receiver) (bytes : List ℕ) → ((i : ℕ) → get_or bytes i 0 < 256) → Whole r
    → length (scan r bytes).next.bytes ≡ length r.bytes
scan_length r bytes octets w = (scan_whole r bytes octets w).places_are ∙ sym w.places_are

-- it never has fewer
pub scan_grows : (r : Receiver) (bytes : List ℕ) → length r.bytes ≤ length (scan r bytes).next.bytes
unfolding scan
scan_grows r [] = omega arith
scan_grows r (b ∷ bs) = go (happens (receive r b).event) (scan_grows (receive r b).next bs)
  where
    go : (t : Bool) → length (receive r b).next.bytes ≤ length (scan (receive r b).next bs).next.bytes
        → length r.bytes ≤ length (scan_if (receive r b) (scan (receive r b).next bs) t).next.bytes
    go true h = receive_grows r b
    go false h = omega (arith, receive_grows r b)

-- a drop counts no more bytes than the array has
pub scan_taken : (r : Receiver) (bytes : List ℕ) (d : Drop) (n : ℕ) → (scan r bytes).event ≡ Dropped d n
    → n ≤ length (scan r bytes).next.bytes
unfolding scan
scan_taken r [] d n e = clash cc
scan_taken r (b ∷ bs) d n e = go (happens (receive r b).event) (scan_taken (receive r b).next bs d n) e
  where
    rest : Scan
    rest = scan (receive r b).next bs

    go : (t : Bool) → (rest.event ≡ Dropped d n → n ≤ length rest.next.bytes)
        → (scan_if (receive r b) rest t).event ≡ Dropped d n → n ≤ length (scan_if (receive r b) rest t).next.bytes
    go true h f = omega (arith, receive_taken r b d n f, receive_grows r b)
    go false h f = h f
