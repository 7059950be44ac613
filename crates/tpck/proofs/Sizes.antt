-- A frame has at least 5 and at most 517 bytes, and no more than two for each byte of its body. Assumes nothing.
use Rattle.std.proofs.Common.{◌≡◌, ℕ, ◌+◌, ◌*◌, ◌<◌, ◌≤◌, Bool, true, false, eqb, List, [], ◌∷◌, length, refl, arith, eqb-true}
use borrow.Author.Tests.{eqb-false}
use Rattle.tpck.specs.Frame.{stuffed, checksum, header, frame}
use Rattle.tpck.proofs.Stuffing.{width_le, width_least, width_plain, stuffed_le, whole_length}

module _ (ptype : ℕ) (bytes : List ℕ) where
  -- 000: a packet is at least 5 bytes long
  pub frame_least : 5 ≤ length (frame ptype bytes)
  frame_least =
      let sum = checksum (header ptype bytes) in
      omega (arith, whole_length (length bytes) ptype bytes sum, width_least (length bytes), width_least ptype, width_least sum)

  -- no more than two bytes on the line for each byte of the body, and SOF and EOF
  pub frame_twice : length (frame ptype bytes) ≤ 2 * length bytes + 8
  frame_twice =
      let sum = checksum (header ptype bytes) in
      omega (arith, whole_length (length bytes) ptype bytes sum, width_le (length bytes), width_le ptype, width_le sum, stuffed_le bytes)

  -- document 01: none exceeds 517, since a Length of 255 needs no escape
  pub frame_most : length bytes ≤ 255 → length (frame ptype bytes) ≤ 517
  frame_most few = go (eqb (length bytes) 255) refl
    where
      sum : ℕ
      sum = checksum (header ptype bytes)

      go : (t : Bool) → eqb (length bytes) 255 ≡ t → length (frame ptype bytes) ≤ 517
      go true z =
          let e : length bytes ≡ 255 = omega (arith, eqb-true) in
          let one : length (stuffed (length bytes ∷ [])) ≡ 1 = rw e (width_plain 255 refl) in
          omega (arith, whole_length (length bytes) ptype bytes (checksum (header ptype bytes)), width_le ptype, width_le (checksum (header ptype bytes)), stuffed_le bytes)
      go false z =
          let less : length bytes < 255 = omega (arith, eqb-false) in
          omega (arith, whole_length (length bytes) ptype bytes (checksum (header ptype bytes)), width_le (length bytes), width_le ptype, width_le (checksum (header ptype bytes)), stuffed_le bytes)
