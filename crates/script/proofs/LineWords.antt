-- A word that names a serial line is neither a number nor a byte, so a second one, or one in another place, makes the line bad.
-- Assumes nothing.
use Prim.Native.Nat.{ℕ}
use mathlib.Core.Path.{◌≡◌, refl, sym, subst}
use mathlib.Core.Bool.{Bool, true, false, cond}
use mathlib.Core.List.{List}
use Rattle.lists.specs.Equal.{equal}
use Rattle.lists.proofs.Equals.{equal_true}
use Rattle.text.specs.Words.{controller_word, panel_word}
use Rattle.updates.specs.declared.line.Line.TheVariants as line
use Rattle.std.proofs.Common.{Some, None}
use Rattle.script.specs.Place.{Place}
use Rattle.script.specs.Numbers.{digit_value, in_base_from, in_base, hex_mark, number_in, byte_in}
use Rattle.script.specs.Names.{named, line_named}
use Rattle.script.specs.Reading.{word_from, read_number, is_byte}

-- the word names a line
abbrev pub NamesLine : List ℕ → Type 0
NamesLine w = line_named w ≡ None → ⊥

-- what holds of both words holds of each word that names a line
of_both : (P : List ℕ → Type 0) → P controller_word → P panel_word → (w : List ℕ) → NamesLine w → P w
unfolding named
of_both P controller panel w known = go (equal w controller_word) (equal w panel_word) refl refl known
  where
    go : (s t : Bool) → equal w controller_word ≡ s → equal w panel_word ≡ t
        → (cond s (Some line.Controller) (cond t (Some line.Panel) None) ≡ None → ⊥) → P w
    go true t e f k = subst P (sym (equal_true w controller_word e)) controller
    go false true e f k = subst P (sym (equal_true w panel_word f)) panel
    go false false e f k = absurd (k refl)

no_number : (most : ℕ) (w : List ℕ) → NamesLine w → number_in most w ≡ None
unfolding number_in hex_mark in_base in_base_from digit_value
no_number most w known = of_both (λ v. number_in most v ≡ None) refl refl w known

pub line_no_number : (most : ℕ) (l : List ℕ) (c : Place) → NamesLine (word_from l c) → (read_number most l c).next.good ≡ false
unfolding read_number
line_no_number most l c known = rw (no_number most (word_from l c) known)

pub line_no_byte : (w : List ℕ) → NamesLine w → is_byte w ≡ false
unfolding byte_in
line_no_byte w known = of_both (λ v. is_byte v ≡ false) refl refl w known
