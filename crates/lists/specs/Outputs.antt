-- What a list gives, element by element: what a loop over it writes.
use Rattle.std.specs.Prelude.{ℕ, ◌+◌, List, [], ◌∷◌, ◌++◌}

module _ {S A B : Type 0} (next : S → A → S) (out : ℕ → S → A → List B) where
  -- (ours) the outputs of the elements one after the other: each by its place, of which i is the first element's, by the state before
  -- it, and by itself; an element takes the state on
  unfoldable pub outputs : ℕ → S → List A → List B
  outputs i s [] = []
  outputs i s (x ∷ l) = out i s x ++ outputs (i + 1) (next s x) l
