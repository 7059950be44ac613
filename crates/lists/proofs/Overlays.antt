-- Laws of `overlay`, over any element type: what it holds in front, one element more, one overlay on another. Assumes nothing.
use mathlib.Core.Path.{◌≡◌, refl, sym, ap, ◌∙◌}
use mathlib.Core.List.{List, [], ◌∷◌, ◌++◌, append_assoc}
use Prim.Native.Nat.{ℕ, zero, suc, ◌+◌, ◌-◌, ◌<◌, ◌≤◌}
use native.Mathlib.Numerals.{add-one}
use native.Mathlib.Omega.{arith}
use lib.ListN.{length, drop, take, get_or, set, length-append, length-set}
use lib.Seq.{drop-cons, drop-drop, append_snoc, take-append_seam, drop-append_seam, drop-append-add, set-append_seam, set-append_left}
use lib.Seq.{get_or-append-add, get_or-drop}
use Rattle.lists.specs.Overlay.{overlay}

module _ {A : Type 0} where
  pub overlay_nil : (s : List A) → overlay [] s ≡ s
  unfolding overlay
  overlay_nil s = refl

  pub overlay_take : (l s : List A) → take (length l) (overlay l s) ≡ l
  unfolding overlay
  overlay_take l s = take-append_seam l (drop (length l) s)

  -- past the front stands what stood there before
  pub overlay_past : (l s : List A) (i : ℕ) (d : A) → length l ≤ i → get_or (overlay l s) i d ≡ get_or s i d
  unfolding overlay
  overlay_past l s i d h =
      let e : i ≡ length l + (i - length l) = omega arith in
      ap (λ (n : ℕ). get_or (l ++ drop (length l) s) n d) e
      ∙ get_or-append-add l (drop (length l) s) (i - length l) d
      ∙ get_or-drop (length l) s (i - length l) d
      ∙ ap (λ (n : ℕ). get_or s n d) (sym e)

  pub overlay_snoc : (l s : List A) (x : A) → length l < length s → set (overlay l s) (length l) x ≡ overlay (l ++ (x ∷ [])) s
  unfolding overlay
  overlay_snoc l s x h =
      ap (λ (r : List A). set (l ++ r) (length l) x) (drop-cons s (length l) x h)
      ∙ set-append_seam l (get_or s (length l) x) (drop (suc (length l)) s) x
      ∙ sym (append_snoc l x (drop (suc (length l)) s))
      ∙ ap (λ (n : ℕ). (l ++ (x ∷ [])) ++ drop n s) (sym (length-append l (x ∷ []) ∙ add-one (length l)))

  pub overlay_overlay : (l k s : List A) → length k ≤ length l → overlay l (overlay k s) ≡ overlay l s
  unfolding overlay
  overlay_overlay l k s h =
      let e : length l ≡ length k + (length l - length k) = omega arith in
      ap (λ (r : List A). l ++ r)
      (ap (λ (n : ℕ). drop n (k ++ drop (length k) s)) e
      ∙ drop-append-add k (drop (length k) s) (length l - length k)
      ∙ drop-drop (length l - length k) (length k) s
      ∙ ap (λ (n : ℕ). drop n s) (sym e))

  -- a list behind another: laid over what the first has left
  pub overlay_behind : (k l s : List A) → take (length k) (overlay k s) ++ overlay l (drop (length k) (overlay k s)) ≡ overlay (k ++ l) s
  unfolding overlay
  overlay_behind k l s =
      let rest = drop (length k) s in
      let back = drop-drop (length l) (length k) s ∙ ap (λ (n : ℕ). drop n s) (sym (length-append k l)) in
      (λ i. take-append_seam k rest i ++ (l ++ drop (length l) (drop-append_seam k rest i)))
      ∙ ap (λ (r : List A). k ++ (l ++ r)) back ∙ sym (append_assoc k l (drop (length (k ++ l)) s))

  -- what stands in front laid over itself, for any n
  pub overlay_taken : (n : ℕ) (s : List A) → overlay (take n s) s ≡ s
  unfolding overlay
  overlay_taken zero s = refl
  overlay_taken (suc n) [] = refl
  overlay_taken (suc n) (x ∷ s) = ap (λ (r : List A). x ∷ r) (overlay_taken n s)

  pub overlay_set : (l s : List A) (i : ℕ) (x : A) → i < length l → overlay (set l i x) s ≡ set (overlay l s) i x
  unfolding overlay
  overlay_set l s i x h = ap (λ (n : ℕ). set l i x ++ drop n s) (length-set l i x) ∙ sym (set-append_left l (drop (length l) s) i x h)
