-- No line of a frame is longer than 1,024 bytes. Assumes nothing.
use Rattle.std.proofs.Common.{ℕ, ◌^◌, ◌<◌, ◌≤◌, List, [], ◌∷◌, ◌++◌, length, arith, length-append}
use Rattle.text.specs.Place.{space, newline}
use Rattle.text.specs.Decimal.{decimal}
use Rattle.text.specs.Hex.{hex_bytes}
use Rattle.text.specs.Event.{event_text}
use Rattle.text.proofs.Lengths.{decimal_most, hex_length, event_most}
use Rattle.frames.specs.Lines.{frame_word, frame_line}

pub frame_line_most : (offset ptype : ℕ) (bytes : List ℕ) → offset < 2 ^ 64 → ptype < 2 ^ 64 → length bytes ≤ 255 → length (frame_line offset ptype bytes) ≤ 1024
unfolding frame_line
frame_line_most offset ptype bytes h i j =
    let t0 = event_text offset frame_word ptype in
    let t1 = t0 ++ space ∷ decimal (length bytes) in
    let t2 = t1 ++ hex_bytes bytes in
    omega (
      arith,
      length-append t2 (newline ∷ []),
      length-append t1 (hex_bytes bytes),
      length-append t0 (space ∷ decimal (length bytes)),
      event_most offset frame_word ptype h i,
      decimal_most (length bytes) (omega arith),
      hex_length bytes,
    )
