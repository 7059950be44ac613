-- A line that met a bad word stays bad, whatever is read after it. Assumes nothing.
use Prim.Native.Nat.{ℕ, zero, suc, min}
use mathlib.Core.Path.{◌≡◌, refl}
use mathlib.Core.Bool.{Bool, true, false, cond, ◌&&◌}
use mathlib.Core.List.{List}
use lib.ListN.{length}
use Rattle.lists.specs.Filter.{every}
use Rattle.std.proofs.Common.{Option, Some, None, Err, is_ok}
use Rattle.script.specs.declared.names.SettingName.{SettingName}
use Rattle.script.specs.declared.names.SettingName.TheVariants.{Mode, Cool, Slab, Fan}
use Rattle.updates.specs.declared.line.Line.{Line}
use Rattle.script.specs.Place.{Place}
use Rattle.lists.specs.Equal.{equal}
use Rattle.script.specs.Numbers.{number_in}
use Rattle.script.specs.Names.{setting_named, line_named}
use Rattle.script.specs.Reading.{word_from, after_word, ended, number_read, read_number, after_values, read_seven, words_from, is_byte, bytes_after, counted, read_bytes}
use Rattle.script.specs.Arguments.{line_if, read_line, field_named, read_row, read_field, silence_word, heard_if, read_heard}

module _ (l : List ℕ) where
  pub number_stays_bad : (most : ℕ) (c : Place) → c.good ≡ false → (read_number most l c).next.good ≡ false
  unfolding read_number
  number_stays_bad most c bad = go (number_in most (word_from l c))
    where
      go : (n : Option ℕ) → (number_read (after_word l c) n).next.good ≡ false
      go (Some v) = bad
      go None = refl

  values_stay_bad : (n : ℕ) (c : Place) → c.good ≡ false → (after_values n l c).good ≡ false
  unfolding after_values
  values_stay_bad zero c bad = bad
  values_stay_bad (suc n) c bad = number_stays_bad 255 (after_values n l c) (values_stay_bad n c bad)

  seven_stay_bad : (c : Place) → c.good ≡ false → (read_seven l c).next.good ≡ false
  unfolding read_seven
  seven_stay_bad c bad = values_stay_bad 7 c bad

  module _ (c : Place) (bad : c.good ≡ false) where
    pub line_stays_bad : (read_line l c).next.good ≡ false
    unfolding read_line
    line_stays_bad = go (line_named (word_from l c))
      where
        go : (n : Option Line) → (line_if n l c).next.good ≡ false
        go (Some on) = bad
        go None = bad

    pub row_stays_bad : (read_row l c).next.good ≡ false
    unfolding read_row
    row_stays_bad =
        let address = number_stays_bad 65535 c bad in
        let version = number_stays_bad 4294967295 _ address in
        let mask = number_stays_bad 65535 _ version in
        let mode = number_stays_bad 255 _ mask in
        let state = number_stays_bad 255 _ mode in
        let events = number_stays_bad 255 _ state in
        let cool = seven_stay_bad _ events in
        let slab = seven_stay_bad _ cool in
        seven_stay_bad _ slab

    pub field_stays_bad : (read_field l c).next.good ≡ false
    unfolding read_field
    field_stays_bad = go (setting_named (word_from l c))
      where
        address : (read_number 65535 l (after_word l c)).next.good ≡ false
        address = number_stays_bad 65535 (after_word l c) bad

        go : (name : Option SettingName) → (field_named name l (after_word l c) (read_number 65535 l (after_word l c))).next.good ≡ false
        go (Some Mode) = address
        go (Some Cool) = number_stays_bad 255 (read_number 65535 l (after_word l c)).next address
        go (Some Slab) = number_stays_bad 255 (read_number 65535 l (after_word l c)).next address
        go (Some Fan) = number_stays_bad 255 (read_number 65535 l (after_word l c)).next address
        go None = refl

    -- `silence` makes no bad line good
    pub heard_stays_bad : (read_heard l c).next.good ≡ false
    unfolding read_heard
    heard_stays_bad = go (equal (word_from l c) silence_word)
      where
        go : (t : Bool) → (heard_if t l c).next.good ≡ false
        go true = bad
        go false = number_stays_bad 255 c bad

    pub bytes_stay_bad : (size : ℕ) → is_ok (read_bytes size l c) ≡ false
    unfolding read_bytes bytes_after
    bytes_stay_bad size = rw bad (go (every is_byte (words_from l c.at)))
      where
        go : (t : Bool) → is_ok (cond t (counted false (min (length (bytes_after l c)) size)) (Err 0)) ≡ false
        go true = refl
        go false = refl

    pub ended_stays_bad : ended l c ≡ false
    unfolding ended
    ended_stays_bad = rw bad
