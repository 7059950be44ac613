-- Laws of std's `find`: what the first element that passes a test tells, and what it tells that there is none. Assumes nothing.
use mathlib.Core.Path.{◌≡◌, refl, sym, subst}
use mathlib.Core.Bool.{Bool, true, false, cond}
use mathlib.Core.List.{List, [], ◌∷◌, Memᴰ}
use Prim.Native.Nat.{ℕ, zero, suc, ◌<◌}
use native.Mathlib.Nat.{not-suc-le-zero, le_of_suc-le-suc}
use native.Mathlib.Omega.{arith}
use lib.ListN.{length, take, get_or}
use Rattle.std.specs.Prelude.{Some, None}
use Rattle.std.specs.List.{find}
use Rattle.lists.specs.Filter.{All}
use Rattle.lists.proofs.Clash.{clash}

module _ {A : Type 0} where
  pub some_is : (x y : A) → Some x ≡ Some y → x ≡ y
  some_is x y e = cc

module _ {A : Type 0} (p : A → Bool) where
  -- x stands at a place of the list and passes, and no element before it does
  pub record FoundAt (l : List A) (x : A) : Type 0 where
    pub place : ℕ
    pub inside : place < length l
    pub stands : (d : A) → get_or l place d ≡ x
    pub member : Memᴰ x l
    pub passes : p x ≡ true
    pub before : All (λ y. p y ≡ false) (take place l)

  pub found_told : (l : List A) (x : A) → find p l ≡ Some x → FoundAt l x
  found_told [] x e = clash cc
  found_told (y ∷ l) x e = go (p y) refl e (found_told l x)
    where
      go : (b : Bool) → p y ≡ b → cond b (Some y) (find p l) ≡ Some x → (find p l ≡ Some x → FoundAt l x) → FoundAt (y ∷ l) x
      go true t h f =
          let z = some_is y x h in
          record { place = 0; inside = omega arith; stands = λ d. z; member = Memᴰ.head (sym z); passes = subst (λ (w : A). p w ≡ true) z t; before = tt }
      go false t h f =
          let q = f h in
          record {
            place = suc q.place;
            inside = omega (arith, q.inside);
            stands = q.stands;
            member = Memᴰ.tail q.member;
            passes = q.passes;
            before = (t, q.before);
          }

  pub found_is : (l : List A) (i : ℕ) (d : A) → i < length l → p (get_or l i d) ≡ true → All (λ y. p y ≡ false) (take i l) → find p l ≡ Some (get_or l i d)
  found_is [] i d h t b = absurd (not-suc-le-zero h)
  found_is (x ∷ l) zero d h t b = rw t
  found_is (x ∷ l) (suc i) d h t b = rw b.0 (found_is l i d (le_of_suc-le-suc h) t b.1)

  pub none_told : (l : List A) → find p l ≡ None → All (λ y. p y ≡ false) l
  none_told [] e = tt
  none_told (x ∷ l) e = go (p x) refl e (none_told l)
    where
      go : (b : Bool) → p x ≡ b → cond b (Some x) (find p l) ≡ None → (find p l ≡ None → All (λ y. p y ≡ false) l) → All (λ y. p y ≡ false) (x ∷ l)
      go true t h f = clash cc
      go false t h f = (t, f h)

  pub none_is : (l : List A) → All (λ y. p y ≡ false) l → find p l ≡ None
  none_is [] h = refl
  none_is (x ∷ l) h = rw h.0 (none_is l h.1)
