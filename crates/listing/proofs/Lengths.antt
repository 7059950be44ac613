-- No line is longer than 256 bytes. Assumes nothing.
use Rattle.std.proofs.Common.{◌≡◌, ℕ, ◌^◌, ◌<◌, ◌≤◌, List, [], ◌∷◌, ◌++◌, length, take, arith, length-append, length-take}
use Rattle.text.specs.Place.{newline}
use Rattle.text.specs.Hex.{hex_bytes}
use Rattle.text.specs.Event.{event_text, event_line, reply_word}
use Rattle.text.proofs.Lengths.{hex_length, event_most, event_line_most}
use Rattle.listing.specs.Lines.{reply_line}

pub short_line_most : (offset : ℕ) (word : List ℕ) (number : ℕ) → length word ≤ 200 → offset < 2 ^ 64 → number < 2 ^ 64 → length (event_line offset word number) ≤ 256
short_line_most offset word number w h i = omega (arith, event_line_most offset word number h i)

pub reply_line_most : (offset n : ℕ) (bytes : List ℕ) → offset < 2 ^ 64 → n < 2 ^ 64 → length bytes ≡ 32 → length (reply_line offset n bytes) ≤ 256
unfolding reply_line
reply_line_most offset n bytes h i j =
    let t0 = event_text offset reply_word n in
    let t1 = t0 ++ hex_bytes (take n bytes) in
    omega (
      arith,
      length-append t1 (newline ∷ []),
      length-append t0 (hex_bytes (take n bytes)),
      event_most offset reply_word n h i,
      hex_length (take n bytes),
      length-take n bytes,
    )
