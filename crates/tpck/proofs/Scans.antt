-- Laws of `scan`: its clauses, how much is used, and what holds of the receiver and the event that it ends in. Assumes nothing.
use Rattle.std.proofs.Common.{◌≡◌, ℕ, ◌+◌, ◌<◌, ◌≤◌, min, Bool, true, false, List, [], ◌∷◌, length, sym, refl, ap, ◌∙◌, arith}
use Rattle.lists.proofs.Counted.{counted_cut}
use Rattle.tpck.specs.declared.event.Event.{Event}
use Rattle.tpck.specs.declared.event.Event.TheVariants.{Nothing}
use Rattle.tpck.specs.declared.receiver.Receiver.{Receiver}
use Rattle.tpck.specs.declared.receiver.Received.{Received}
use Rattle.tpck.specs.declared.control.Control.{Control}
use Rattle.tpck.specs.declared.control.Scanned.{Scanned}
use Rattle.tpck.specs.Frame.{places}
use Rattle.tpck.specs.Receive.{step, receive, received_from, full, summed, close}
use Rattle.tpck.specs.Scan.{Scan, scan, scan_if, happens, joined, control_of, receiver_of, scanned_of, scanned_as}

-- ---- the clauses

-- so many bytes were used before
abbrev pub scan_after : ℕ → Scan → Scan
scan_after n s = record { next = s.next; event = s.event; used = n + s.used }

-- a scan that ends at this byte
abbrev pub scan_at : Received → ℕ → Scan
scan_at x used = record { next = x.next; event = x.event; used = used }

-- a scan of these parts
abbrev pub scan_of : Receiver → Event → ℕ → Scan
scan_of r event used = record { next = r; event = event; used = used }

pub used_is : (r : Receiver) (event : Event) {m n : ℕ} → m ≡ n → scan_of r event m ≡ scan_of r event n
used_is r event e = λ k. scan_of r event (e k)

pub scan_more : (m n : ℕ) (s : Scan) → scan_after m (scan_after n s) ≡ scan_after (m + n) s
scan_more m n s = used_is s.next s.event (omega arith)

pub scan_ended : (r : Receiver) (n : ℕ) → scan_after n (scan r []) ≡ scan_of r Nothing n
unfolding scan
scan_ended r n = used_is r Nothing (omega arith)

module _ (r : Receiver) (b : ℕ) (bs : List ℕ) {x : Received} (e : receive r b ≡ x) where
  cons : scan r (b ∷ bs) ≡ scan_if x (scan x.next bs) (happens x.event)
  unfolding scan
  cons = ap (λ (y : Received). scan_if y (scan y.next bs) (happens y.event)) e

  -- a byte that does something is the last
  pub scan_stops : happens x.event ≡ true → scan r (b ∷ bs) ≡ scan_at x 1
  scan_stops t = cons ∙ ap (scan_if x (scan x.next bs)) t

  pub scan_goes : happens x.event ≡ false → scan r (b ∷ bs) ≡ scan_after 1 (scan x.next bs)
  scan_goes t =
      let rest = scan x.next bs in
      cons ∙ ap (scan_if x rest) t ∙ used_is rest.next rest.event (omega arith)

-- EOF inside a packet does something
pub close_happens : (body : List ℕ) → happens (close body) ≡ true
close_happens body = go (full body) refl (summed body) refl
  where
    go : (f : Bool) → full body ≡ f → (m : Bool) → summed body ≡ m → happens (close body) ≡ true
    go true f true m = rw (f, m)
    go true f false m = rw (f, m)
    go false f m e = rw f

-- ---- how many bytes are used

-- no more than there are
pub scan_used : (r : Receiver) (bytes : List ℕ) → (scan r bytes).used ≤ length bytes
unfolding scan
scan_used r [] = omega arith
scan_used r (b ∷ bs) = go (happens (receive r b).event) (scan_used (receive r b).next bs)
  where
    go : (t : Bool) → (scan (receive r b).next bs).used ≤ length bs
        → (scan_if (receive r b) (scan (receive r b).next bs) t).used ≤ length (b ∷ bs)
    go true h = omega arith
    go false h = omega arith

-- and one at least, where there is one
pub scan_moves : (r : Receiver) (b : ℕ) (bs : List ℕ) → 0 < (scan r (b ∷ bs)).used
unfolding scan
scan_moves r b bs = go (happens (receive r b).event)
  where
    go : (t : Bool) → 0 < (scan_if (receive r b) (scan (receive r b).next bs) t).used
    go true = omega arith
    go false = omega arith

-- ---- what the code answers

-- what the code answers of a scan whose receiver has a length that the array has
pub scanned_as_lem : (r : Receiver) (event : Event) (used : ℕ) → r.len ≤ places → {s : Scan} → s ≡ scan_of r event used
    → {x : Scanned} → x ≡ scanned_as r.inside r.escaped r.len event used → record { answer : x ≡ scanned_of s; body : r.bytes ≡ s.next.bytes }
scanned_as_lem r event used h e f =
    let n : r.len ≡ min r.len places = omega arith in
    let same = ap (λ (k : ℕ). scanned_as r.inside r.escaped k event used) n in
    record { answer = f ∙ same ∙ ap scanned_of (sym e); body = ap (λ (t : Scan). t.next.bytes) (sym e) }

-- bytes that were used before those of a scan
pub scanned_after : (n : ℕ) (s : Scan) {x : Scanned} → x ≡ scanned_of s
    → record { next = x.next; event = x.event; used = n + x.used } ≡ scanned_of (scan_after n s)
scanned_after n s e = ap (λ (y : Scanned). record { next = y.next; event = y.event; used = n + y.used }) e

-- ---- a length over that of the array

-- the receiver with its length cut at that of the array
abbrev pub cut : Receiver → Receiver
cut r = joined (control_of r) r.bytes

module _ (r : Receiver) (whole : length r.bytes ≡ places) where
  receive_cut : (b : ℕ) → receive (cut r) b ≡ receive r b
  receive_cut b =
      ap (λ (body : List ℕ). received_from r (step (record { inside = r.inside; escaped = r.escaped; body = body }) b))
      (counted_cut r.len r.bytes places whole)

  -- the first byte cuts it
  pub scan_cut : (b : ℕ) (bs : List ℕ) → scan (joined (control_of r) r.bytes) (b ∷ bs) ≡ scan r (b ∷ bs)
  scan_cut b bs = cons (cut r) b bs (receive_cut b) ∙ sym (cons r b bs refl)

  -- and the answer has it cut where there is none
  pub scanned_cut : (line : List ℕ) → scanned_of (scan (cut r) line) ≡ scanned_of (scan r line)
  unfolding scan
  scanned_cut [] =
      let e : min (min r.len places) places ≡ min r.len places = omega arith in
      ap (λ (n : ℕ). scanned_as r.inside r.escaped n Nothing 0) e
  scanned_cut (b ∷ bs) = ap scanned_of (scan_cut b bs)

  pub bytes_cut : (line : List ℕ) → (scan (cut r) line).next.bytes ≡ (scan r line).next.bytes
  unfolding scan
  bytes_cut [] = refl
  bytes_cut (b ∷ bs) = ap (λ (s : Scan). s.next.bytes) (scan_cut b bs)

-- what the code answers of a control and bytes, by a scan of the receiver with its length cut
module _ (control : Control) (bytes : List ℕ) (whole : length bytes ≡ places) (line : List ℕ) where
  abbrev given : Receiver
  given = joined control bytes

  pub held_scan : (len : ℕ) → len ≡ min control.len places → (inside : Bool) → control.inside ≡ inside
      → (t : Scan) → scan (receiver_of inside control.escaped len bytes) line ≡ t
      → {x : Scanned} {body : List ℕ} → x ≡ scanned_of t → body ≡ t.next.bytes
      → record { answer : x ≡ scanned_of (scan given line); body : body ≡ (scan given line).next.bytes }
  held_scan len is inside e t f p q =
      let g : scan (cut given) line ≡ t = (λ k. scan (receiver_of (e k) control.escaped (sym is k) bytes) line) ∙ f in
      record {
        answer = p ∙ ap scanned_of (sym g) ∙ scanned_cut given whole line;
        body = q ∙ ap (λ (u : Scan). u.next.bytes) (sym g) ∙ bytes_cut given whole line;
      }
