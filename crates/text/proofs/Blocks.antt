-- However an input is cut into blocks, the lines of the blocks one after another are those of the whole. Assumes nothing.
use Prim.Native.Nat.{ℕ}
use mathlib.Core.Path.{◌≡◌, sym, ◌∙◌, ap}
use mathlib.Core.List.{List, [], ◌∷◌, ◌++◌, flatten}
use Rattle.text.specs.Blocks.{printed}

-- It is enough that no bytes have no lines, and that two blocks have the lines of both as one.
module _ {K : Type 0} (after : K → List ℕ → K) (lines : K → List ℕ → List ℕ)
    (none : (k : K) → lines k [] ≡ [])
    (both : (k : K) (xs ys : List ℕ) → lines k (xs ++ ys) ≡ lines k xs ++ lines (after k xs) ys)
  where
    pub blocks_make_whole : (k : K) (blocks : List (List ℕ)) → printed after lines k blocks ≡ lines k (flatten blocks)
    unfolding printed flatten
    blocks_make_whole k [] = sym (none k)
    blocks_make_whole k (block ∷ blocks) =
        ap (λ (l : List ℕ). lines k block ++ l) (blocks_make_whole (after k block) blocks) ∙ sym (both k block (flatten blocks))
