-- Laws of the texts of a list: none, one more, all, and how long they are. Assumes nothing.
use Prim.Native.Nat.{ℕ, suc, ◌+◌, ◌*◌, ◌≤◌, ◌<◌}
use mathlib.Core.Path.{◌≡◌, refl, sym, ap}
use mathlib.Core.List.{List, [], ◌∷◌, ◌++◌, append_assoc, append-nil}
use native.Mathlib.Numerals.{add-one}
use native.Mathlib.Omega.{arith}
use lib.ListN.{length, take, get_or, length-append}
use lib.Seq.{take-suc, take_all}
use Rattle.text.specs.Texts.{texts}
use Rattle.text.specs.declared.place.Text.{Text}
use Rattle.text.specs.Place.{Puts}
use Rattle.text.proofs.Places.{puts_nothing, puts_then, puts_same}

module _ {A : Type 0} (text : A → List ℕ) where
  texts_nil : texts text [] ≡ []
  unfolding texts
  texts_nil = refl

  texts_append : (xs ys : List A) → texts text (xs ++ ys) ≡ texts text xs ++ texts text ys
  unfolding texts
  texts_append [] ys = refl
  texts_append (x ∷ xs) ys = rw (texts_append xs ys) (sym (append_assoc (text x) (texts text xs) (texts text ys)))

  texts_one : (x : A) → texts text (x ∷ []) ≡ text x
  unfolding texts
  texts_one x = append-nil (text x)

  pub texts_next : (s : List A) (i : ℕ) (d : A) → i < length s → texts text (take (i + 1) s) ≡ texts text (take i s) ++ text (get_or s i d)
  texts_next s i d h = rw (add-one, take-suc s i d h, texts_append (take i s) (get_or s i d ∷ []), texts_one (get_or s i d))

  -- where no text of an element is longer than that
  pub texts_most : (most : ℕ) (d : A) (s : List A) → ((i : ℕ) → i < length s → length (text (get_or s i d)) ≤ most) → length (texts text s) ≤ length s * most
  unfolding texts
  texts_most most d [] h = omega arith
  texts_most most d (x ∷ s) h =
      let front : length (text x) ≤ most = h 0 (omega arith) in
      let rest = texts_most most d s (λ i k. h (suc i) (omega arith)) in
      omega (arith, length-append (text x) (texts text s))

  -- a loop that puts the text of one element after the other: it begins, goes on and ends
  pub puts_none : (s : List A) (t : Text) → Puts (texts text (take 0 s)) t t
  puts_none s t = rw texts_nil (puts_nothing t)

  module _ (s : List A) {i : ℕ} {a b : Text} (p : Puts (texts text (take i s)) a b) where
    pub puts_next : (d : A) → i < length s → {c : Text} → Puts (text (get_or s i d)) b c → Puts (texts text (take (i + 1) s)) a c
    puts_next d h q = rw (texts_next s i d h) (puts_then p q)

    pub puts_all : length s ≤ i → Puts (texts text s) a b
    puts_all h = puts_same p (ap (texts text) (take_all i s h))
