-- Whether two lists of bytes are equal.
use Rattle.std.specs.Prelude.{ℕ, Bool, true, false, ◌&&◌, List, [], ◌∷◌, eqb}

-- (ours) the same bytes in the same places, and as many
unfoldable pub equal : List ℕ → List ℕ → Bool
equal [] [] = true
equal [] (y ∷ l) = false
equal (x ∷ k) [] = false
equal (x ∷ k) (y ∷ l) = eqb x y && equal k l
