-- Two lists that hold the same elements.
use mathlib.Core.List.{List, Permᴰ}

-- (ours) the same elements, each as often, in any order
abbrev pub Permutation : {A : Type 0} → List A → List A → Type 0
Permutation l₁ l₂ = Permᴰ l₁ l₂
