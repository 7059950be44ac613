-- What is read off a line: how large a number is, the values of a row, and the words up to the line's end. Assumes nothing.
use Prim.Native.Nat.{ℕ, zero, suc, ◌-◌, ◌≤◌, ◌<◌, min}
use mathlib.Core.Path.{◌≡◌, refl, sym, ◌∙◌}
use mathlib.Core.Bool.{Bool, true, false, cond}
use mathlib.Core.List.{List, [], ◌∷◌, ◌++◌, append-nil, append_assoc}
use native.Mathlib.Omega.{arith}
use borrow.Author.Tests.{eqb-false}
use lib.ListN.{length}
use lib.Seq.{sets}
use Rattle.lists.specs.Filter.{every}
use Rattle.text.specs.declared.place.Text.{Text}
use Rattle.text.specs.Place.{Begun, Puts}
use Rattle.text.proofs.Places.{puts_nothing, puts_then}
use Rattle.std.proofs.Common.{Option, Some, None, Ok, Err}
use Rattle.script.specs.declared.cursor.Cursor.{Cursor}
use Rattle.script.specs.Place.{Place, place, moved}
use Rattle.script.specs.Words.{next_word, word_bytes}
use Rattle.script.specs.Numbers.{number_in, byte_in}
use Rattle.script.specs.Reading.{word_from, after_word, is_none, number_read, read_number, after_values, values_read, words_within, words_from, before, bytes_in, is_byte, bytes_after, counted, read_bytes}
use Rattle.script.proofs.WordPlaces.{word_inside, word_past, word_none, word_some}
use Rattle.script.proofs.Digits.{number_most}

-- what is read is not above the most that is taken
pub read_most : (most : ℕ) (l : List ℕ) (c : Place) → (read_number most l c).value ≤ most
unfolding read_number
read_most most l c = go (number_in most (word_from l c)) refl
  where
    go : (n : Option ℕ) → number_in most (word_from l c) ≡ n → (number_read (after_word l c) n).value ≤ most
    go (Some v) e = number_most most (word_from l c) v e
    go None e = omega arith

-- one value more of a row
module _ (i : ℕ) (l : List ℕ) (c : Place) {next : Place} (at : next ≡ after_values i l c) {value : ℕ} (is : value ≡ (read_number 255 l next).value) where
  pub values_more : {values : List ℕ} → values ≡ values_read i l c → values ++ value ∷ [] ≡ values_read (suc i) l c
  unfolding values_read
  values_more e = rw (e, is, at)

  pub after_more : {after : Place} → after ≡ (read_number 255 l next).next → after ≡ after_values (suc i) l c
  unfolding after_values
  after_more e = rw (e, at)

-- ---- the words from a place on

-- a word that is there ends after the place
ends_after : (l : List ℕ) (at : ℕ) → is_none (next_word l at) ≡ false → (at < (next_word l at).end) × ((next_word l at).end ≤ length l)
ends_after l at e =
    let i = word_inside l at in
    let n = eqb-false (next_word l at).start (next_word l at).end e in
    let less : (next_word l at).start < (next_word l at).end = omega (arith, i.ordered) in
    (omega (arith, i.ahead less), i.within)

-- the words are the same for any k that leaves none out
enough : (j k : ℕ) (l : List ℕ) (at : ℕ) → length l - at ≤ j → length l - at ≤ k → words_within j l at ≡ words_within k l at
unfolding words_within
enough zero zero l at h i = refl
enough zero (suc k) l at h i = rw (word_past l at (omega arith))
enough (suc j) zero l at h i = rw (word_past l at (omega arith))
enough (suc j) (suc k) l at h i = go (is_none (next_word l at)) refl (λ p q. enough j k l (next_word l at).end p q)
  where
    go : (t : Bool) → is_none (next_word l at) ≡ t
        → (length l - (next_word l at).end ≤ j → length l - (next_word l at).end ≤ k → words_within j l (next_word l at).end ≡ words_within k l (next_word l at).end)
        → cond t [] (word_bytes l (next_word l at) ∷ words_within j l (next_word l at).end) ≡ cond t [] (word_bytes l (next_word l at) ∷ words_within k l (next_word l at).end)
    go true e f = refl
    go false e f =
        let b = ends_after l at e in
        rw (f (omega (arith, b.0)) (omega (arith, b.0)))

pub words_none : (l : List ℕ) (at : ℕ) → is_none (next_word l at) ≡ true → words_from l at ≡ []
unfolding words_from words_within
words_none l at e = go (length l)
  where
    go : (k : ℕ) → words_within k l at ≡ []
    go zero = refl
    go (suc k) = rw e

pub words_next : (l : List ℕ) (at : ℕ) → is_none (next_word l at) ≡ false → words_from l at ≡ word_bytes l (next_word l at) ∷ words_from l (next_word l at).end
unfolding words_from words_within
words_next l at e = enough (length l) (suc (length l)) l at (omega arith) (omega arith) ∙ rw e

words_few : (k : ℕ) (l : List ℕ) (at : ℕ) → length (words_within k l at) ≤ k
unfolding words_within
words_few zero l at = omega arith
words_few (suc k) l at = go (is_none (next_word l at)) (words_few k l (next_word l at).end)
  where
    go : (t : Bool) → length (words_within k l (next_word l at).end) ≤ k → length (cond t [] (word_bytes l (next_word l at) ∷ words_within k l (next_word l at).end)) ≤ suc k
    go true h = omega arith
    go false h = omega arith

bytes_in_few : (ws : List (List ℕ)) → length (bytes_in ws) ≤ length ws
unfolding bytes_in
bytes_in_few [] = omega arith
bytes_in_few (w ∷ ws) = go (byte_in w) (bytes_in_few ws)
  where
    go : (n : Option ℕ) → length (bytes_in ws) ≤ length ws → length (before n (bytes_in ws)) ≤ suc (length ws)
    go (Some b) h = omega arith
    go None h = omega arith

-- a line lists no more bytes than it is long
pub bytes_few : (l : List ℕ) (c : Place) → length (bytes_after l c) ≤ length l
unfolding bytes_after words_from
bytes_few l c = omega (arith, bytes_in_few (words_within (length l) l c.at), words_few (length l) l c.at)

-- ---- the bytes up to the line's end

-- from one cursor on the bytes of the words before another are put, and those of the words from it on are left
pub record Gathered (from : Cursor) (begun text : Text) (next : Cursor) : Type 0 where
  pub line : next.line ≡ from.line
  pub still : next.good ≡ from.good
  pub done : List ℕ
  pub put : Puts done begun text
  pub rest : bytes_in (words_from from.line.now from.at) ≡ done ++ bytes_in (words_from from.line.now next.at)
  pub good : every is_byte (words_from from.line.now from.at) ≡ every is_byte (words_from from.line.now next.at)

module _ (from : Cursor) (begun : Text) where
  pub gathered_none : Gathered from begun begun from
  gathered_none = record { line = refl; still = refl; done = []; put = puts_nothing begun; rest = refl; good = refl }

  module _ {text : Text} {next : Cursor} (g : Gathered from begun text next) {word : List ℕ} (is : word ≡ word_from next.line.now (place next)) where
    here : word ≡ word_bytes from.line.now (next_word from.line.now next.at)
    here = rw g.line at is

    -- no word is left
    module _ (none : length word ≡ 0) where
      last : words_from from.line.now next.at ≡ []
      last = words_none from.line.now next.at (word_none from.line.now next.at (rw here at none))

      all : bytes_in (words_from from.line.now from.at) ≡ g.done
      unfolding bytes_in
      all = g.rest ∙ rw last (append-nil g.done)

      module _ {before : List ℕ} (b : Begun begun before) where
        pub gathered_count : counted next.good text.at ≡ read_bytes (length before) from.line.now (place from)
        unfolding read_bytes bytes_after
        gathered_count =
            let n : text.at ≡ min (length g.done) (length before) = rw (g.put.place, b.front, b.untouched) (omega arith) in
            rw (g.still, g.good, last, all, n)

        pub gathered_bytes : text.out.now ≡ sets before 0 (bytes_after from.line.now (place from))
        unfolding bytes_after
        gathered_bytes = g.put.bytes ∙ rw (b.front, b.untouched, all)

    module _ (some : length word ≡ 0 → ⊥) where
      more : words_from from.line.now next.at ≡ word ∷ words_from from.line.now (next_word from.line.now next.at).end
      more = rw here (words_next from.line.now next.at (word_some from.line.now next.at (rw here at some)))

      -- a word that writes no byte
      module _ (bad : byte_in word ≡ None) {before : List ℕ} (b : Begun begun before) where
        pub gathered_refused : Err 0 ≡ read_bytes (length before) from.line.now (place from)
        unfolding read_bytes
        gathered_refused = rw (g.good, more, bad)

        pub gathered_before : text.out.now ≡ sets before 0 (bytes_after from.line.now (place from))
        unfolding bytes_after bytes_in
        gathered_before =
            let done : bytes_in (words_from from.line.now from.at) ≡ g.done = g.rest ∙ rw (more, bad) (append-nil g.done) in
            g.put.bytes ∙ rw (b.front, b.untouched, done)

      -- a word that writes a byte
      pub gathered_more : {b : ℕ} → byte_in word ≡ Some b → {text₂ : Text} → Puts (b ∷ []) text text₂
          → Gathered from begun text₂ (moved next (after_word next.line.now (place next)))
      unfolding bytes_in
      gathered_more {b} value p =
          let end : next_word next.line.now next.at ≡ next_word from.line.now next.at = rw g.line in
          record {
            line = g.line;
            still = g.still;
            done = g.done ++ b ∷ [];
            put = puts_then g.put p;
            rest = rw end (g.rest ∙ rw (more, value) (sym (append_assoc g.done (b ∷ []) (bytes_in (words_from from.line.now (next_word from.line.now next.at).end)))));
            good = rw end (g.good ∙ rw (more, value));
          }
