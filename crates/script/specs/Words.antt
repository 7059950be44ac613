-- The words of a line (ours: docs/REPLAY.md): runs of bytes between spaces.
use Rattle.std.specs.Prelude.{ℕ, ◌-◌, ◌≤◌, ◌<◌, not, List, eqb, length, take, drop}
use Rattle.text.specs.Place.{space}
use Rattle.text.specs.Slices.{place_where, place_of}
use Rattle.script.specs.declared.words.Word.{Word}

-- (ours) the first place from `at` on that holds no space
abbrev pub word_start : List ℕ → ℕ → ℕ
word_start l at = place_where (λ x. not (eqb x space)) l at

-- (ours) the first word from `at` on: it begins at the first byte that is no space and ends before the next space. Where no
-- word is left both places are the line's end.
unfoldable pub next_word : List ℕ → ℕ → Word
next_word l at = record { start = word_start l at; end = place_of space l (word_start l at) }

-- (ours) the places of a word that is read from `at` on lie in the line, in their order
pub record InLine (l : List ℕ) (at : ℕ) (w : Word) : Type 0 where
  pub ordered : w.start ≤ w.end
  pub within : w.end ≤ length l
  pub ahead : w.start < w.end → at ≤ w.start

-- (ours) the bytes of a word
abbrev pub word_bytes : List ℕ → Word → List ℕ
word_bytes l w = take (w.end - w.start) (drop w.start l)
