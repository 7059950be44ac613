-- Words: where a word lies, and the steps of a loop that compares two. Assumes nothing.
use Prim.Native.Nat.{ℕ, ◌≤◌, ◌<◌, ◌-◌}
use mathlib.Core.Path.{◌≡◌, refl, sym, ◌∙◌}
use mathlib.Core.Bool.{Bool, true, false, not}
use mathlib.Core.List.{List}
use native.Mathlib.Omega.{arith}
use borrow.Author.Tests.{eq-eqb, ne_eqb, eqb-true, eqb-false, leb-true, leb-false}
use lib.Dec.{eqb, leb}
use lib.ListN.{length, drop, length-take, length-drop}
use Rattle.text.specs.Place.{space}
use Rattle.text.specs.Slices.{place_of}
use Rattle.text.proofs.Scans.{where_end, where_between, where_within}
use Rattle.script.specs.declared.words.Word.{Word}
use Rattle.script.specs.Words.{word_start, next_word, InLine, word_bytes}
use Rattle.script.specs.Reading.{is_none}

module _ (l : List ℕ) (at : ℕ) where
  pub word_is : {w : Word} → w.start ≡ word_start l at → w.end ≡ place_of space l w.start → w ≡ next_word l at
  unfolding next_word
  word_is {w} s e = let f : w.end ≡ place_of space l (word_start l at) = e ∙ rw s in λ i. record { start = s i; end = f i }

  pub word_inside : InLine l at (next_word l at)
  unfolding next_word
  word_inside =
      let b = where_between (λ x. eqb x space) l (word_start l at) (where_within (λ x. not (eqb x space)) l at) in
      record {
        ordered = b.0;
        within = b.1;
        ahead = λ h. go (leb at (length l)) refl h;
      }
    where
      go : (t : Bool) → leb at (length l) ≡ t → word_start l at < place_of space l (word_start l at) → at ≤ word_start l at
      go true e h = (where_between (λ x. not (eqb x space)) l at (leb-true at (length l) e)).0
      go false e h =
          let past = where_end (λ x. not (eqb x space)) l at (omega (arith, leb-false at (length l) e)) in
          let b = where_within (λ x. eqb x space) l (word_start l at) in
          absurd (omega arith)

  -- no word is left past the end
  pub word_past : length l ≤ at → is_none (next_word l at) ≡ true
  unfolding next_word
  word_past h =
      let e : word_start l at ≡ length l = where_end (λ x. not (eqb x space)) l at h in
      rw (e, where_end (λ x. eqb x space) l (length l) (omega arith)) (eq-eqb (length l) (length l) refl)

  -- a word has as many bytes as lie between its places
  pub word_length : length (word_bytes l (next_word l at)) ≡ (next_word l at).end - (next_word l at).start
  word_length =
      let i = word_inside in
      omega (arith, i.within, length-take ((next_word l at).end - (next_word l at).start) (drop (next_word l at).start l), length-drop (next_word l at).start l)

  pub word_none : length (word_bytes l (next_word l at)) ≡ 0 → is_none (next_word l at) ≡ true
  word_none e = let i = word_inside in eq-eqb (next_word l at).start (next_word l at).end (omega (arith, i.ordered, word_length))

  pub word_some : (length (word_bytes l (next_word l at)) ≡ 0 → ⊥) → is_none (next_word l at) ≡ false
  word_some n = let i = word_inside in ne_eqb (next_word l at).start (next_word l at).end (λ e. n (omega (arith, word_length)))

  -- a word that has a byte ends after the place
  pub word_after : (length (word_bytes l (next_word l at)) ≡ 0 → ⊥) → (at < (next_word l at).end) × ((next_word l at).end ≤ length l)
  word_after n =
      let i = word_inside in
      let some = word_some n in
      let apart = eqb-false (next_word l at).start (next_word l at).end some in
      let less : (next_word l at).start < (next_word l at).end = omega (arith, i.ordered) in
      (omega (arith, i.ahead less), i.within)

  -- whether no word is left, by the length of the next one
  pub word_empty : eqb (length (word_bytes l (next_word l at))) 0 ≡ is_none (next_word l at)
  word_empty = go (eqb (length (word_bytes l (next_word l at))) 0) refl
    where
      go : (t : Bool) → eqb (length (word_bytes l (next_word l at))) 0 ≡ t → t ≡ is_none (next_word l at)
      go true e = sym (word_none (eqb-true (length (word_bytes l (next_word l at))) 0 e))
      go false e = sym (word_some (eqb-false (length (word_bytes l (next_word l at))) 0 e))
