-- A list is its elements, place by place. Assumes nothing.
use mathlib.Core.Path.{◌≡◌, refl, sym, ap, ◌∙◌}
use mathlib.Core.List.{List, [], ◌∷◌}
use Prim.Native.Nat.{ℕ, zero, suc}
use native.Mathlib.Omega.{arith}
use lib.ListN.{length, get_or}

module _ {A : Type 0} (d : A) where
  -- so many elements of a list, from a place on
  abbrev pub places : (n i : ℕ) → List A → List A
  places zero i l = []
  places (suc n) i l = get_or l i d ∷ places n (suc i) l

  places_shift : (n i : ℕ) (x : A) (l : List A) → places n (suc i) (x ∷ l) ≡ places n i l
  places_shift zero i x l = refl
  places_shift (suc n) i x l = ap (λ (k : List A). get_or l i d ∷ k) (places_shift n (suc i) x l)

  pub all_places : (l : List A) (n : ℕ) → length l ≡ n → l ≡ places n 0 l
  all_places [] zero h = refl
  all_places [] (suc n) h = absurd (omega arith)
  all_places (x ∷ l) zero h = absurd (omega arith)
  all_places (x ∷ l) (suc n) h = ap (λ (k : List A). x ∷ k) (all_places l n (omega arith) ∙ sym (places_shift n 0 x l))
