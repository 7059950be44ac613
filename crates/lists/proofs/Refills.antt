-- A struct that holds a list in an array with a count, as the device table its rows and the queue its updates: the list is read by
-- `take count array`, also where the count is over the array's length, and another list is put in by laying it over the array's
-- front. The laws of all such structs, once. Assumes nothing.
use mathlib.Core.Path.{◌≡◌, sym, ap, ◌∙◌}
use mathlib.Core.Bool.{true, false}
use mathlib.Core.List.{List, [], ◌∷◌, ◌++◌}
use Prim.Native.Nat.{ℕ, ◌+◌, ◌<◌, ◌≤◌, min}
use native.Mathlib.Omega.{arith}
use borrow.Author.Tests.{le-leb, lt-leb}
use lib.Dec.{leb}
use lib.ListN.{length, take, get_or, set, length-set}
use Rattle.lists.specs.Overlay.{overlay}
use Rattle.lists.proofs.Overlays.{overlay_nil, overlay_take, overlay_taken, overlay_set, overlay_overlay}
use Rattle.lists.proofs.Counted.{get_d_any, counted_length, counted_at, counted_snoc, counted_more}

-- `array` and `count` are the struct's two parts, `made` is the struct of two such parts, `list` reads its list and `refill` puts
-- another one in. An instance proves each by `refl`.
pub record Counted {A S : Type 0} (array : S → List A) (count : S → ℕ) (made : List A → ℕ → S) (list : S → List A) (refill : S → List A → S) : Type 0 where
  pub array_made : (l : List A) (n : ℕ) → array (made l n) ≡ l
  pub count_made : (l : List A) (n : ℕ) → count (made l n) ≡ n
  pub list_is : (s : S) → list s ≡ take (count s) (array s)
  pub refill_is : (s : S) (l : List A) → refill s l ≡ made (overlay l (array s)) (length l)

module _ {A S : Type 0} {array : S → List A} {count : S → ℕ} {made : List A → ℕ → S} {list : S → List A} {refill : S → List A → S}
    (k : Counted array count made list refill) (s : S)
  where
    array_refill : (l : List A) → array (refill s l) ≡ overlay l (array s)
    array_refill l = ap array (k.refill_is s l) ∙ k.array_made (overlay l (array s)) (length l)

    count_refill : (l : List A) → count (refill s l) ≡ length l
    count_refill l = ap count (k.refill_is s l) ∙ k.count_made (overlay l (array s)) (length l)

    laid : overlay (list s) (array s) ≡ array s
    laid = ap (λ (l : List A). overlay l (array s)) (k.list_is s) ∙ overlay_taken (count s) (array s)

    -- the array's front, as long as the list, is the list
    pub list_front : take (length (list s)) (array s) ≡ list s
    list_front = ap (λ (a : List A). take (length (list s)) a) (sym laid) ∙ overlay_take (list s) (array s)

    -- what is put in is what is read
    pub refill_read : (l : List A) → list (refill s l) ≡ l
    refill_read l =
        k.list_is (refill s l)
        ∙ ap (λ (n : ℕ). take n (array (refill s l))) (count_refill l)
        ∙ ap (λ (a : List A). take (length l) a) (array_refill l)
        ∙ overlay_take l (array s)

    -- the later of two lists stays
    pub refill_twice : (j l : List A) → length j ≤ length l → refill (refill s j) l ≡ refill s l
    refill_twice j l h =
        k.refill_is (refill s j) l
        ∙ ap (λ (a : List A). made a (length l)) (ap (λ (a : List A). overlay l a) (array_refill j) ∙ overlay_overlay l j (array s) h)
        ∙ sym (k.refill_is s l)

    -- no list: the array stays, and the count is 0
    pub refill_none : made (array s) 0 ≡ refill s []
    refill_none = ap (λ (a : List A). made a 0) (sym (overlay_nil (array s))) ∙ sym (k.refill_is s [])

    -- its own list: the array stays, and the count is cut at the array's length
    pub refill_same : made (array s) (length (list s)) ≡ refill s (list s)
    refill_same = ap (λ (a : List A). made a (length (list s))) (sym laid) ∙ sym (k.refill_is s (list s))

    -- one element changed
    pub refill_set : (i : ℕ) (x : A) → i < length (list s) → made (set (array s) i x) (length (list s)) ≡ refill s (set (list s) i x)
    refill_set i x h =
        ap (λ (a : List A). made (set a i x) (length (list s))) (sym laid)
        ∙ ap (λ (a : List A). made a (length (list s))) (sym (overlay_set (list s) (array s) i x h))
        ∙ ap (made (overlay (set (list s) i x) (array s))) (sym (length-set (list s) i x))
        ∙ sym (k.refill_is s (set (list s) i x))

    -- the array has `size` places
    module _ (size : ℕ) (long : length (array s) ≡ size) where
      pub list_length : length (list s) ≡ min (count s) size
      list_length = ap length (k.list_is s) ∙ counted_length (count s) (array s) size long

      pub list_most : length (list s) ≤ size
      list_most = rw list_length (omega arith)

      -- an element of the list, by any default
      pub list_at : (i : ℕ) (d e : A) → i < length (list s) → get_or (array s) i d ≡ get_or (list s) i e
      list_at i d e h =
          sym (counted_at (count s) (array s) size long i d (rw list_length at h))
          ∙ ap (λ (l : List A). get_or l i d) (sym (k.list_is s))
          ∙ get_d_any (list s) i d e h

      pub list_full : size ≤ count s → leb size (length (list s)) ≡ true
      list_full h = le-leb size (length (list s)) (rw list_length (omega arith))

      pub list_room : count s < size → leb size (length (list s)) ≡ false
      list_room h = lt-leb size (length (list s)) (rw list_length (omega arith))

      -- one element more, stored after the last
      module _ (x : A) (room : count s < size) where
        pub list_more : count s + 1 ≡ length (list s ++ (x ∷ []))
        list_more = counted_more (count s) (array s) size long x room ∙ ap (λ (l : List A). length (l ++ (x ∷ []))) (sym (k.list_is s))

        pub list_snoc : made (set (array s) (count s) x) (count s + 1) ≡ refill s (list s ++ (x ∷ []))
        list_snoc =
            ap (λ (a : List A). made a (count s + 1)) (counted_snoc (count s) (array s) size long x room)
            ∙ ap (λ (l : List A). made (overlay (l ++ (x ∷ [])) (array s)) (count s + 1)) (sym (k.list_is s))
            ∙ ap (made (overlay (list s ++ (x ∷ [])) (array s))) list_more
            ∙ sym (k.refill_is s (list s ++ (x ∷ [])))
