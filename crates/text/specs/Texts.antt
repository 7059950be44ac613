-- The texts of the elements of a list, one after the other (ours).
use Rattle.std.specs.Prelude.{ℕ, List, [], ◌∷◌, ◌++◌}

module _ {A : Type 0} (text : A → List ℕ) where
  -- (ours) the text of each element, in the order of the list
  unfoldable pub texts : List A → List ℕ
  texts [] = []
  texts (x ∷ l) = text x ++ texts l
