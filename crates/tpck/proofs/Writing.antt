-- What `write` answers and leaves in its buffer, by its three ways. Assumes nothing.
use Rattle.std.proofs.Common.{◌≡◌, ℕ, ◌+◌, ◌%◌, ◌^◌, ◌<◌, ◌≤◌, List, [], ◌∷◌, ◌++◌, length, drop, sym, refl, ap, ◌∙◌, arith, le-ltb, lt-ltb}
use lib.Seq.{sets, sets-eq}
use Rattle.lists.specs.Overlay.{overlay}
use Rattle.lists.proofs.Overlays.{overlay_nil}
use Rattle.std.specs.Prelude.{Ok, Err}
use Rattle.tpck.specs.declared.writer.Refusal.TheVariants.{NoRoom, TooMuchData}
use Rattle.tpck.specs.Frame.{checksum, stuffed, enclosed, frame}
use Rattle.tpck.specs.Write.{write, buffer}
use Rattle.tpck.proofs.Stuffing.{whole_length}
use Rattle.tpck.proofs.Sums.{checksum_header}

pub too_much : (ptype : ℕ) (bytes out : List ℕ) → 255 < length bytes → (Err TooMuchData ≡ write ptype bytes out) × (out ≡ buffer ptype bytes out)
too_much ptype bytes out h = rw (lt-ltb 255 (length bytes) h) (refl, sym (overlay_nil out))

-- data of at most 255 bytes; the sum that the code finds of them, and the number of bytes of the frame
module _ (ptype size : ℕ) (bytes out : List ℕ) (few : length bytes < 256) (counted : size ≡ length bytes) (sum escapes n : ℕ)
    (summed : sum ≡ checksum ((size + ptype) % 2 ^ 8 ∷ bytes))
    (escaped : escapes + length bytes ≡ length (stuffed bytes))
    (added : n ≡ length (stuffed (size ∷ [])) + length (stuffed (ptype ∷ [])) + (escapes + size) + length (stuffed (sum ∷ [])) + 2) where
  -- what the code writes is the frame
  written : enclosed (size ∷ ptype ∷ bytes ++ sum ∷ []) ≡ frame ptype bytes
  written = rw (summed ∙ checksum_header size ptype bytes, counted)

  -- and the number of its bytes
  pub width_is : n ≡ length (enclosed (size ∷ ptype ∷ bytes ++ sum ∷ []))
  width_is = omega (arith, whole_length size ptype bytes sum)

  sized : n ≡ length (frame ptype bytes)
  sized = width_is ∙ ap length written

  pub no_room : length out < n → (Err NoRoom ≡ write ptype bytes out) × (out ≡ buffer ptype bytes out)
  no_room h =
      rw (le-ltb 255 (length bytes) (omega arith), lt-ltb (length out) (length (frame ptype bytes)) (omega (arith, sized)))
      (refl, sym (overlay_nil out))

  pub wrote : n ≤ length out → (next : List ℕ) → next ≡ sets out 0 (enclosed (size ∷ ptype ∷ bytes ++ sum ∷ []))
      → (Ok n ≡ write ptype bytes out) × (next ≡ buffer ptype bytes out)
  unfolding overlay
  wrote h next f =
      let fits : length (frame ptype bytes) ≤ length out = omega (arith, sized) in
      let z : 0 + length (frame ptype bytes) ≡ length (frame ptype bytes) = omega arith in
      rw (le-ltb 255 (length bytes) (omega arith), le-ltb (length out) (length (frame ptype bytes)) fits)
      (ap Ok sized, f ∙ rw written (sets-eq (frame ptype bytes) out 0 (omega arith) ∙ ap (λ (k : ℕ). frame ptype bytes ++ drop k out) z))
