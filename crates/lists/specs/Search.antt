-- The first element of a list that passes a test: itself, its place, and the list with it changed.
use Rattle.std.specs.Prelude.{ℕ, suc, Bool, cond, List, [], ◌∷◌}
use Rattle.std.proofs.Math.Option.{Option, none, some}

module _ {A : Type 0} where
  -- (ours) the first element that passes
  abbrev pub first : (A → Bool) → List A → Option A
  first p [] = none
  first p (x ∷ l) = cond (p x) (some x) (first p l)

  -- (ours) its place, where the list's own first place is i
  abbrev pub place_from : (A → Bool) → List A → ℕ → Option ℕ
  place_from p [] i = none
  place_from p (x ∷ l) i = cond (p x) (some i) (place_from p l (suc i))

  -- (ours) the list with the first element that passes changed, and no other
  abbrev pub change_first : (A → Bool) → (A → A) → List A → List A
  change_first p w [] = []
  change_first p w (x ∷ l) = cond (p x) (w x ∷ l) (x ∷ change_first p w l)
