-- What holds of a whole list holds of each of its members. Assumes nothing.
use mathlib.Core.Path.{◌≡◌, sym, ap, ◌∙◌}
use mathlib.Core.Bool.{Bool, true}
use mathlib.Core.List.{List, map, Memᴰ, head-eq_of_cons-eq, tail-eq_of_cons-eq}
use Rattle.lists.specs.Filter.{every}
use Rattle.lists.proofs.Filters.{and_left, and_right}

-- a member passes the test that every element passes
pub mem_every : {A : Type 0} (p : A → Bool) {a : A} {l : List A} → every p l ≡ true → Memᴰ a l → p a ≡ true
mem_every p h (Memᴰ.head {x = x} {xs = l} e) = ap p e ∙ and_left (p x) (every p l) h
mem_every p h (Memᴰ.tail {x = x} {xs = l} m) = mem_every p (and_right (p x) (every p l) h) m

module _ {A B : Type 0} (f g : A → B) where
  -- two functions that agree on a list agree at a member
  pub mem_map_same : {a : A} {l : List A} → map f l ≡ map g l → Memᴰ a l → f a ≡ g a
  mem_map_same h (Memᴰ.head {x = x} {xs = l} e) = ap f e ∙ head-eq_of_cons-eq h ∙ sym (ap g e)
  mem_map_same h (Memᴰ.tail {x = x} {xs = l} m) = mem_map_same (tail-eq_of_cons-eq h) m
