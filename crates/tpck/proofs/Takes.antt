-- What `receive` answers to a receiver of these parts, whose length the array has, by the meaning of the byte: inside a packet and while
-- hunting. Assumes nothing.
use Rattle.std.proofs.Common.{◌≡◌, ℕ, ◌+◌, ◌<◌, ◌≤◌, min, Bool, true, false, eqb, List, length, get_or, take, set, sym, refl, ap, ◌∙◌, arith, eqb-true}
use mathlib.Core.Bool.{false≢true}
use Rattle.lists.proofs.Overlays.{overlay_nil}
use Rattle.tpck.specs.declared.event.Drop.TheVariants.{Restarted, TooLong}
use Rattle.tpck.specs.declared.event.Event.TheVariants.{Nothing, Dropped}
use Rattle.tpck.specs.declared.receiver.Meaning.{Meaning}
use Rattle.tpck.specs.declared.receiver.Meaning.TheVariants.{Escape, Start, End, Plain}
use Rattle.tpck.specs.declared.receiver.Receiver.{Receiver}
use Rattle.tpck.specs.Frame.{sof, eof, esc}
use Rattle.tpck.specs.Receive.{meaning_of, step_as, view, receive, received_from, is_full, full, close}
use Rattle.tpck.specs.Scan.{is_start, receiver_of}
use Rattle.tpck.specs.Sent.{pending_next}
use Rattle.tpck.proofs.Steps.{step_as_lem}
use Rattle.tpck.proofs.Changes.{answer, kept, kept_counted, added, body_length, full_same}

-- what `receive` answers, by the meaning of the byte
by_meaning : (r : Receiver) (b : ℕ) (m : Meaning) → meaning_of r.escaped b ≡ m → receive r b ≡ received_from r (step_as m (view r) b)
by_meaning r b m e = ap (received_from r) (step_as_lem (view r) b m e)

-- a start, and what any other byte leaves pending
start_means : (escaped : Bool) (b : ℕ) → is_start escaped b ≡ true → meaning_of escaped b ≡ Start
start_means true b t = absurd (false≢true t)
start_means false b t = rw (eqb-true b sof t)

abbrev Other : Meaning → (pending : Bool) → Type 0
Other Escape pending = pending ≡ true
Other Start pending = ⊥
Other End pending = pending ≡ false
Other Plain pending = pending ≡ false

other_means : (escaped : Bool) (b : ℕ) → is_start escaped b ≡ false → Other (meaning_of escaped b) (pending_next escaped b)
other_means true b t = refl
other_means false b t = go (eqb b esc) refl (eqb b eof) refl
  where
    go : (x : Bool) → eqb b esc ≡ x → (z : Bool) → eqb b eof ≡ z → Other (meaning_of false b) (eqb b esc)
    go true e z f = rw e refl
    go false e true f = rw (e, t, f) refl
    go false e false f = rw (e, t, f) refl

module _ (escaped : Bool) (len : ℕ) (bytes : List ℕ) (within : len ≤ 258) (whole : length bytes ≡ 258) (b : ℕ) where
  least : len ≡ min len 258
  least = omega arith

  -- a packet is open
  abbrev open_with : Receiver
  open_with = receiver_of true escaped len bytes

  pub takes_escape : meaning_of escaped b ≡ Escape → receive open_with b ≡ answer true true len bytes Nothing
  takes_escape e = by_meaning open_with b Escape e ∙ sym (kept open_with whole len least true true Nothing)

  pub takes_start : meaning_of escaped b ≡ Start → receive open_with b ≡ answer true false 0 bytes (Dropped Restarted len)
  takes_start e =
      by_meaning open_with b Start e
      ∙ (λ k. answer true false 0 (overlay_nil bytes k) (Dropped Restarted (body_length open_with whole len least k)))

  pub takes_end : meaning_of escaped b ≡ End → receive open_with b ≡ answer false false len bytes (close (take len bytes))
  takes_end e = by_meaning open_with b End e ∙ sym (kept open_with whole len least false false (close (take len bytes)))

  module _ (plain : meaning_of escaped b ≡ Plain) where
    pub takes_over : is_full (get_or bytes 0 0) len ≡ true → receive open_with b ≡ answer false false len bytes (Dropped TooLong len)
    takes_over f =
        let t : full (take len bytes) ≡ true = sym (full_same open_with whole len least) ∙ f in
        by_meaning open_with b Plain plain ∙ rw t (sym (kept_counted open_with whole len least false false (Dropped TooLong)))

    pub takes_added : is_full (get_or bytes 0 0) len ≡ false → len < 258
        → receive open_with b ≡ answer true false (len + 1) (set bytes len b) Nothing
    takes_added f room =
        let t : full (take len bytes) ≡ false = sym (full_same open_with whole len least) ∙ f in
        by_meaning open_with b Plain plain ∙ rw t (sym (added open_with whole len least b room true false Nothing))

  -- none is open
  abbrev hunting_with : Receiver
  hunting_with = receiver_of false escaped len bytes

  pub takes_sof : is_start escaped b ≡ true → receive hunting_with b ≡ answer true false 0 bytes Nothing
  takes_sof t = by_meaning hunting_with b Start (start_means escaped b t) ∙ (λ k. answer true false 0 (overlay_nil bytes k) Nothing)

  pub takes_other : is_start escaped b ≡ false → receive hunting_with b ≡ answer false (pending_next escaped b) len bytes Nothing
  takes_other t = go (meaning_of escaped b) refl (other_means escaped b t)
    where
      go : (m : Meaning) → meaning_of escaped b ≡ m → Other m (pending_next escaped b)
          → receive hunting_with b ≡ answer false (pending_next escaped b) len bytes Nothing
      go Escape e p = by_meaning hunting_with b Escape e ∙ rw p (sym (kept hunting_with whole len least false true Nothing))
      go Start e p = absurd p
      go End e p = by_meaning hunting_with b End e ∙ rw p (sym (kept hunting_with whole len least false false Nothing))
      go Plain e p = by_meaning hunting_with b Plain e ∙ rw p (sym (kept hunting_with whole len least false false Nothing))
