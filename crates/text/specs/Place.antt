-- Text in a buffer, at a place: what is put there (ours).
--
-- A text goes in byte by byte from a place on, and what does not fit is cut off at the buffer's end: the library's `sets`, in
-- which a store past the end does nothing.
use Rattle.std.specs.Prelude.{ℕ, ◌+◌, ◌≡◌, min, max, List, length}
use Rattle.std.proofs.lemmas.List.Edits.{sets}
use Rattle.text.specs.declared.place.Text.{Text}

-- (ours) the place after a text of n bytes put at `at` in a buffer of that size: the buffer's end where the text is cut off
-- there, and `at` itself where that is past the end already
abbrev pub place_after : ℕ → ℕ → ℕ → ℕ
place_after size at n = max at (min (at + n) size)

-- (ours) the next text goes to the front of this buffer
pub record Begun (text : Text) (buffer : List ℕ) : Type 0 where
  pub front : text.at ≡ 0
  pub untouched : text.out.now ≡ buffer

-- (ours) a text was put: the same buffer is lent, the place is the one after the text, and the text stands where the place was
pub record Puts (s : List ℕ) (before after : Text) : Type 0 where
  pub same_buffer : after.out.ghost_name ≡ before.out.ghost_name
  pub place : after.at ≡ place_after (length before.out.now) before.at (length s)
  pub bytes : after.out.now ≡ sets before.out.now before.at s

-- (ours) the byte between two words
abbrev pub space : ℕ
space = 32

-- (ours) the byte that ends a line
abbrev pub newline : ℕ
newline = 10
