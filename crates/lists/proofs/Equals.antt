-- When two lists are equal. Assumes nothing.
use mathlib.Core.Path.{◌≡◌, refl}
use mathlib.Core.Bool.{true, false≢true}
use mathlib.Core.List.{List, [], ◌∷◌}
use Prim.Native.Nat.{ℕ}
use native.Mathlib.Omega.{arith}
use lib.Dec.{eqb}
use lib.Pointwise.{pointwise}
use borrow.Author.Tests.{eqb-true, eq-eqb}
use Rattle.lists.proofs.Filters.{and_left, and_right}
use Rattle.lists.specs.Equal.{equal}

pub equal_self : (l : List ℕ) → equal l l ≡ true
unfolding equal
equal_self [] = refl
equal_self (x ∷ l) = rw (eq-eqb x x refl) (equal_self l)

pub equal_true : (k l : List ℕ) → equal k l ≡ true → k ≡ l
unfolding equal
equal_true [] [] e = refl
equal_true [] (y ∷ l) e = absurd (false≢true e)
equal_true (x ∷ k) [] e = absurd (false≢true e)
equal_true (x ∷ k) (y ∷ l) e =
    let h : x ≡ y = omega (arith, eqb-true x y (and_left _ _ e)) in
    let t = equal_true k l (and_right (eqb x y) (equal k l) e) in
    λ i. h i ∷ t i

-- it is what `==` says of two slices
pub pointwise_equal : (k l : List ℕ) → pointwise eqb k l ≡ equal k l
unfolding equal
pointwise_equal [] [] = refl
pointwise_equal [] (y ∷ l) = refl
pointwise_equal (x ∷ k) [] = refl
pointwise_equal (x ∷ k) (y ∷ l) = rw (pointwise_equal k l)
