-- What a receiver of the code holds after each kind of change. Assumes nothing.
use Rattle.std.proofs.Common.{◌≡◌, ℕ, ◌+◌, ◌<◌, min, Bool, true, false, eqb, List, [], ◌∷◌, ◌++◌, length, get_or, take, set, sym, refl, ap, ◌∙◌, arith, get_or-take}
use borrow.Author.Tests.{eqb-false}
use Rattle.lists.proofs.Overlays.{overlay_taken}
use Rattle.lists.proofs.Counted.{counted_length, counted_snoc, counted_more}
use Rattle.tpck.specs.declared.event.Event.{Event}
use Rattle.tpck.specs.declared.receiver.Receiver.{Receiver}
use Rattle.tpck.specs.declared.receiver.Received.{Received}
use Rattle.tpck.specs.Receive.{State, Step, store, received_from, full, is_full}
use Rattle.tpck.specs.Scan.{receiver_of}

abbrev pub answer : Bool → Bool → ℕ → List ℕ → Event → Received
answer inside escaped len bytes event = record { next = record { inside = inside; escaped = escaped; len = len; bytes = bytes }; event = event }

abbrev state_of : Bool → Bool → List ℕ → State
state_of inside escaped body = record { inside = inside; escaped = escaped; body = body }

abbrev step_to : Bool → Bool → List ℕ → Event → Step
step_to inside escaped body event = record { next = state_of inside escaped body; event = event }

-- the receiver r, whose body has n bytes
module _ (r : Receiver) (whole : length r.bytes ≡ 258) (n : ℕ) (is : n ≡ min r.len 258) where
  pub body_length : length (take r.len r.bytes) ≡ n
  body_length = counted_length r.len r.bytes 258 whole ∙ sym is

  -- the test of the code is the definition's
  pub full_same : is_full (get_or r.bytes 0 0) n ≡ full (take r.len r.bytes)
  full_same = rw body_length (go (eqb n 0) refl)
    where
      go : (t : Bool) → eqb n 0 ≡ t → is_full (get_or r.bytes 0 0) n ≡ is_full (get_or (take r.len r.bytes) 0 0) n
      go true z = rw z
      go false z = rw (get_or-take r.len r.bytes 0 0 (omega (arith, eqb-false n 0 z)))

  -- the body stays
  pub kept_next : (inside escaped : Bool) → receiver_of inside escaped n r.bytes ≡ store r (state_of inside escaped (take r.len r.bytes))
  kept_next inside escaped =
      let e = sym body_length in
      let f = sym (overlay_taken r.len r.bytes) in
      λ i. receiver_of inside escaped (e i) (f i)

  pub kept : (inside escaped : Bool) (event : Event)
      → answer inside escaped n r.bytes event ≡ received_from r (step_to inside escaped (take r.len r.bytes) event)
  kept inside escaped event = ap (λ (x : Receiver). record { next = x; event = event }) (kept_next inside escaped)

  -- the same where its length is told
  pub kept_counted : (inside escaped : Bool) (event : ℕ → Event)
      → answer inside escaped n r.bytes (event n) ≡ received_from r (step_to inside escaped (take r.len r.bytes) (event (length (take r.len r.bytes))))
  kept_counted inside escaped event = ap (λ (m : ℕ). answer inside escaped n r.bytes (event m)) (sym body_length) ∙ kept inside escaped (event (length (take r.len r.bytes)))

  -- a byte is added
  pub added_next : (b : ℕ) → n < 258 → (inside escaped : Bool)
      → receiver_of inside escaped (n + 1) (set r.bytes n b) ≡ store r (state_of inside escaped (take r.len r.bytes ++ b ∷ []))
  added_next b h inside escaped =
      let e : n ≡ r.len = omega arith in
      let f : r.len < 258 = omega arith in
      rw e (λ i. receiver_of inside escaped (counted_more r.len r.bytes 258 whole b f i) (counted_snoc r.len r.bytes 258 whole b f i))

  pub added : (b : ℕ) → n < 258 → (inside escaped : Bool) (event : Event)
      → answer inside escaped (n + 1) (set r.bytes n b) event ≡ received_from r (step_to inside escaped (take r.len r.bytes ++ b ∷ []) event)
  added b h inside escaped event = ap (λ (x : Receiver). record { next = x; event = event }) (added_next b h inside escaped)
