-- Laws of the first element that passes a test. First the steps of a loop that looks for its place, then what the place tells
-- of the element and of the changed list. Assumes nothing.
use mathlib.Core.Path.{◌≡◌, refl, sym, ap, subst}
use mathlib.Core.Bool.{Bool, true, false, cond, ◌||◌}
use mathlib.Core.List.{List, [], ◌∷◌, map}
use mathlib.Core.Option
use mathlib.Core.Option.{Option, none, some}
use Prim.Native.Nat.{ℕ, suc, ◌+◌, ◌<◌, ◌≤◌}
use native.Mathlib.Numerals.{add-one}
use native.Mathlib.Omega.{arith}
use lib.ListN.{length, drop, get_or, set, drop_of_length-le}
use lib.Seq.{drop-cons}
use Rattle.lists.specs.Filter.{any, All}
use Rattle.lists.proofs.Clash.{clash}
use Rattle.lists.specs.Search.{first, place_from, change_first}

module _ {A : Type 0} (p : A → Bool) (l : List A) (i : ℕ) where
  pub place_end : length l ≤ i → place_from p (drop i l) i ≡ none
  place_end h = rw (drop_of_length-le l {i = i} h)

  module _ (d : A) (h : i < length l) where
    pub place_hit : p (get_or l i d) ≡ true → place_from p (drop i l) i ≡ some i
    place_hit e = rw (drop-cons l i d h, e)

    pub place_pass : p (get_or l i d) ≡ false → place_from p (drop i l) i ≡ place_from p (drop (i + 1) l) (i + 1)
    place_pass e = rw (add-one, drop-cons l i d h, e)

-- the place among the values of a function is the place of the element that has the value
pub place_map : {A B : Type 0} (p : B → Bool) (f : A → B) (l : List A) (k : ℕ) → place_from p (map f l) k ≡ place_from (λ x. p (f x)) l k
place_map p f [] k = refl
place_map p f (x ∷ l) k = rw (place_map p f l (suc k))

-- what the place j of the first element that passes tells
pub record FoundAt {A : Type 0} (p : A → Bool) (l : List A) (j : ℕ) : Type 0 where
  pub inside : j < length l
  pub passes : (d : A) → p (get_or l j d) ≡ true
  pub element : (d : A) → first p l ≡ some (get_or l j d)
  pub changed : (w : A → A) (d : A) → change_first p w l ≡ set l j (w (get_or l j d))

abbrev pub is_place : Option ℕ → Bool
is_place none = false
is_place (some i) = true

some_same : (i j : ℕ) → some i ≡ some j → i ≡ j
some_same i j e = cc

module _ {A : Type 0} (p : A → Bool) where
  found_from : (l : List A) (k i : ℕ) → place_from p l k ≡ some i → (j : ℕ) × (i ≡ k + j) × FoundAt p l j
  found_from [] k i e = clash cc
  found_from (x ∷ l) k i e = go (p x) refl e (found_from l (suc k) i)
    where
      go : (b : Bool) → p x ≡ b → cond b (some k) (place_from p l (suc k)) ≡ some i
          → (place_from p l (suc k) ≡ some i → (j : ℕ) × (i ≡ suc k + j) × FoundAt p l j) → (j : ℕ) × (i ≡ k + j) × FoundAt p (x ∷ l) j
      go true t h f = (
        0,
        (let z : k ≡ i = some_same k i h in omega arith),
        record { inside = omega arith; passes = λ d. t; element = λ d. rw t; changed = λ w d. rw t },
      )
      go false t h f =
          let q = f h in (
            suc q.0,
            omega (arith, q.1),
            record {
              inside = omega (arith, q.2.inside);
              passes = q.2.passes;
              element = λ d. rw t (q.2.element d);
              changed = λ w d. rw t (ap (λ (m : List A). x ∷ m) (q.2.changed w d));
            },
          )

  pub found_at : (l : List A) (i : ℕ) → place_from p l 0 ≡ some i → FoundAt p l i
  found_at l i e =
      let q = found_from l 0 i e in
      let z : i ≡ q.0 = omega (arith, q.1) in
      subst (λ (j : ℕ). FoundAt p l j) (sym z) q.2

  -- no place, no element, and nothing to change
  pub record Missing (l : List A) : Type 0 where
    pub element : first p l ≡ none
    pub unchanged : (w : A → A) → change_first p w l ≡ l

  pub place_missing : (l : List A) (k : ℕ) → place_from p l k ≡ none → Missing l
  place_missing [] k e = record { element = refl; unchanged = λ w. refl }
  place_missing (x ∷ l) k e = go (p x) refl e (place_missing l (suc k))
    where
      go : (b : Bool) → p x ≡ b → cond b (some k) (place_from p l (suc k)) ≡ none → (place_from p l (suc k) ≡ none → Missing l) → Missing (x ∷ l)
      go true t h f = clash cc
      go false t h f = record { element = rw t (f h).element; unchanged = λ w. rw t (ap (λ (m : List A). x ∷ m) ((f h).unchanged w)) }

  pub change_length : (w : A → A) (l : List A) → length (change_first p w l) ≡ length l
  change_length w [] = refl
  change_length w (x ∷ l) = go (p x) (change_length w l)
    where
      go : (b : Bool) → length (change_first p w l) ≡ length l → length (cond b (w x ∷ l) (x ∷ change_first p w l)) ≡ length (x ∷ l)
      go true h = refl
      go false h = ap suc h

  -- there is a place where some element passes, and none where no element does
  pub place_any : (l : List A) (k : ℕ) → any p l ≡ is_place (place_from p l k)
  place_any [] k = refl
  place_any (x ∷ l) k = go (p x) (place_any l (suc k))
    where
      go : (b : Bool) → any p l ≡ is_place (place_from p l (suc k)) → (b || any p l) ≡ is_place (cond b (some k) (place_from p l (suc k)))
      go true h = refl
      go false h = h

-- a change that a second test does not see: what that test finds stays in its place
module _ {A : Type 0} (p q : A → Bool) (w : A → A) (keep : (x : A) → q (w x) ≡ q x) where
  pub change_place : (l : List A) (k : ℕ) → place_from q (change_first p w l) k ≡ place_from q l k
  change_place [] k = refl
  change_place (x ∷ l) k = go (p x) (change_place l (suc k))
    where
      go : (b : Bool) → place_from q (change_first p w l) (suc k) ≡ place_from q l (suc k) → place_from q (cond b (w x ∷ l) (x ∷ change_first p w l)) k ≡ place_from q (x ∷ l) k
      go true h = rw (keep x)
      go false h = rw h

  -- an element that the first test passes over stays as it is
  pub change_apart : ((x : A) → p x ≡ true → q x ≡ false) → (l : List A) → first q (change_first p w l) ≡ first q l
  change_apart apart [] = refl
  change_apart apart (x ∷ l) = go (p x) refl (change_apart apart l)
    where
      go : (b : Bool) → p x ≡ b → first q (change_first p w l) ≡ first q l → first q (cond b (w x ∷ l) (x ∷ change_first p w l)) ≡ first q (x ∷ l)
      go true e h = rw (keep x, apart x e)
      go false e h = rw h

module _ {A : Type 0} (p : A → Bool) (w : A → A) (keep : (x : A) → p (w x) ≡ p x) where
  -- the first element that passes, after its change
  pub change_first_lem : (l : List A) → first p (change_first p w l) ≡ Option.map w (first p l)
  change_first_lem [] = refl
  change_first_lem (x ∷ l) = go (p x) refl (change_first_lem l)
    where
      go : (b : Bool) → p x ≡ b → first p (change_first p w l) ≡ Option.map w (first p l)
          → first p (cond b (w x ∷ l) (x ∷ change_first p w l)) ≡ Option.map w (cond b (some x) (first p l))
      go true e h = rw (keep x, e)
      go false e h = rw (e, h)

-- a property that the first element that passes keeps when it is changed
pub change_all : {A : Type 0} (P : A → Type 0) (p : A → Bool) (w : A → A) (l : List A) → ((x : A) → first p l ≡ some x → P x → P (w x)) → All P l → All P (change_first p w l)
change_all P p w [] f h = tt
change_all P p w (x ∷ l) f h = go (p x) f (λ g. change_all P p w l g h.1)
  where
    go : (b : Bool) → ((y : _) → cond b (some x) (first p l) ≡ some y → P y → P (w y))
        → (((y : _) → first p l ≡ some y → P y → P (w y)) → All P (change_first p w l)) → All P (cond b (w x ∷ l) (x ∷ change_first p w l))
    go true g rest = (g x refl h.0, h.1)
    go false g rest = (h.0, rest g)

-- what a change does not touch
pub change_map : {A B : Type 0} (p : A → Bool) (w : A → A) (g : A → B) → ((x : A) → g (w x) ≡ g x) → (l : List A) → map g (change_first p w l) ≡ map g l
change_map p w g keep [] = refl
change_map {A} {B} p w g keep (x ∷ l) = go (p x) (change_map p w g keep l)
  where
    go : (b : Bool) → map g (change_first p w l) ≡ map g l → map g (cond b (w x ∷ l) (x ∷ change_first p w l)) ≡ map g (x ∷ l)
    go true h = rw (keep x)
    go false h = ap (λ (m : List B). g x ∷ m) h
