-- An array that holds a list in front, and the count of its elements: the list is `take count array`, also where the count is
-- over the array's length. Its length, its elements and parts, and one element more; the struct of both is in Refills. Assumes
-- nothing.
use mathlib.Core.Path.{◌≡◌, refl, sym, ap, ◌∙◌}
use mathlib.Core.Bool.{Bool, true, false}
use mathlib.Core.List.{List, [], ◌∷◌, ◌++◌}
use Prim.Native.Nat.{ℕ, zero, suc, ◌+◌, ◌<◌, ◌≤◌, min}
use native.Mathlib.Numerals.{add-one}
use native.Mathlib.Omega.{arith}
use native.Mathlib.Nat.{not-suc-le-zero, le_of_suc-le-suc}
use borrow.Author.Tests.{leb-true, leb-false}
use lib.Dec.{leb}
use lib.ListN.{length, take, drop, get_or, set, length-take, length-drop, length-append, take-append-drop}
use lib.Seq.{take_all, take-suc, get_or-take, take-append-le, drop-append-le}
use Rattle.lists.specs.Overlay.{overlay}
use Rattle.lists.proofs.Overlays.{overlay_snoc, overlay_taken}

module _ {A : Type 0} where
  -- an element within a list is the same by any default
  pub get_d_any : (l : List A) (i : ℕ) (d e : A) → i < length l → get_or l i d ≡ get_or l i e
  get_d_any [] i d e h = absurd (not-suc-le-zero h)
  get_d_any (x ∷ xs) zero d e h = refl
  get_d_any (x ∷ xs) (suc i) d e h = get_d_any xs i d e (le_of_suc-le-suc h)

  -- one element further in a list
  module _ (l : List A) (i : ℕ) (d : A) (h : i < length l) where
    pub take_next : take (i + 1) l ≡ take i l ++ (get_or l i d ∷ [])
    take_next = ap (λ (n : ℕ). take n l) (add-one i) ∙ take-suc l i d h

  -- a part of the list is that part of the array
  pub counted_part : (m n k : ℕ) (array : List A) → n + k ≤ length (take m array) → take k (drop n array) ≡ take k (drop n (take m array))
  counted_part m n k array h =
      ap (λ (l : List A). take k (drop n l)) (sym (take-append-drop m array))
      ∙ ap (λ (l : List A). take k l) (drop-append-le n (take m array) (drop m array) (omega arith))
      ∙ take-append-le k (drop n (take m array)) (drop m array) (simp length-drop (omega arith))

  module _ (n : ℕ) (array : List A) (size : ℕ) (long : length array ≡ size) where
    pub counted_length : length (take n array) ≡ min n size
    counted_length = length-take n array ∙ rw long

    -- the count cut at the array's length holds the same list
    pub counted_cut : take (min n size) array ≡ take n array
    counted_cut = go (leb n size) refl
      where
        go : (t : Bool) → leb n size ≡ t → take (min n size) array ≡ take n array
        go true z = let e : min n size ≡ n = omega (arith, leb-true) in rw e
        go false z =
            let e : min n size ≡ size = omega (arith, leb-false) in
            let h : length array ≤ n = omega (arith, leb-false) in
            take_all (min n size) array (omega arith) ∙ sym (take_all n array h)

    pub counted_at : (i : ℕ) (d : A) → i < min n size → get_or (take n array) i d ≡ get_or array i d
    counted_at i d h = get_or-take n array i d (omega arith)

    -- one element more, stored after the last
    module _ (x : A) (room : n < size) where
      pub counted_snoc : set array n x ≡ overlay (take n array ++ (x ∷ [])) array
      counted_snoc =
          let e : length (take n array) ≡ n = counted_length ∙ omega arith in
          ap (λ (s : List A). set s n x) (sym (overlay_taken n array))
          ∙ ap (λ (k : ℕ). set (overlay (take n array) array) k x) (sym e)
          ∙ overlay_snoc (take n array) array x (omega arith)

      pub counted_more : n + 1 ≡ length (take n array ++ (x ∷ []))
      counted_more = sym (length-append (take n array) (x ∷ []) ∙ ap (λ (k : ℕ). k + 1) (counted_length ∙ omega arith))
