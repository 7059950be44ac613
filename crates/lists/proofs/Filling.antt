-- An array that a loop fills from its front on, place by place: the list that it has so far, and the number of its elements.
-- Assumes nothing.
use mathlib.Core.Path.{◌≡◌, refl, sym, ap, ◌∙◌}
use mathlib.Core.List.{List, [], ◌∷◌, ◌++◌}
use Prim.Native.Nat.{ℕ, ◌+◌, ◌<◌}
use native.Mathlib.Omega.{arith}
use lib.ListN.{length, set, length-append}
use Rattle.lists.specs.Overlay.{overlay}
use Rattle.lists.proofs.Overlays.{overlay_nil, overlay_snoc}

-- the list l, of n elements, is laid over what stood in the array before
pub record Filled {A : Type 0} (before l array : List A) (n : ℕ) : Type 0 where
  pub laid : array ≡ overlay l before
  pub counted : n ≡ length l

module _ {A : Type 0} where
  pub filled_none : (before : List A) → Filled before [] before 0
  filled_none before = record { laid = sym (overlay_nil before); counted = refl }

  module _ {before l array : List A} {n : ℕ} (f : Filled before l array n) where
    pub filled_same : {m : List A} → m ≡ l → Filled before m array n
    filled_same e = record { laid = f.laid ∙ ap (λ (k : List A). overlay k before) (sym e); counted = f.counted ∙ ap length (sym e) }

    -- one element more
    pub filled_next : (x : A) → n < length before → {y : A} → x ≡ y → {m : List A} → m ≡ l ++ (y ∷ [])
        → Filled before m (set array n x) (n + 1)
    filled_next x room {y} same {m} more =
        let h : length l < length before = omega (arith, f.counted) in
        record {
          laid =
              ap (λ (z : A). set array n z) same
              ∙ ap (λ (a : List A). set a n y) f.laid
              ∙ ap (λ (k : ℕ). set (overlay l before) k y) f.counted
              ∙ overlay_snoc l before y h
              ∙ ap (λ (k : List A). overlay k before) (sym more);
          counted = omega (arith, f.counted, length-append l (y ∷ []), ap length more);
        }
