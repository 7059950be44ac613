-- Two lists whose elements are matched place by place, as a queue and the record that is kept of it: what they have in common, and
-- what stays matched when both are changed or filtered by tests that agree. Assumes nothing.
use mathlib.Core.Path.{◌≡◌, refl, ap}
use mathlib.Core.Bool.{Bool, true, false, cond, ◌||◌, true≢false, false≢true}
use mathlib.Core.List.{List, [], ◌∷◌, ◌++◌, map}
use Prim.Native.Nat.{ℕ, suc, ◌+◌, ◌≤◌}
use native.Mathlib.Omega.{arith}
use lib.ListN.{length}
use Rattle.lists.specs.Filter.{filter, any, All}

-- from place p on, each element is related to the one at its place
pub data Matching {A B : Type 0} (R : ℕ → A → B → Type 0) : ℕ → List A → List B → Type 0 where
  end : {p : ℕ} → Matching R p [] []
  next : {p : ℕ} {a : A} {b : B} {l : List A} {m : List B} → R p a b → Matching R (suc p) l m → Matching R p (a ∷ l) (b ∷ m)

module _ {A B : Type 0} (R : ℕ → A → B → Type 0) where
  pub match_length : {p : ℕ} {l : List A} {m : List B} → Matching R p l m → length l ≡ length m
  match_length end = refl
  match_length (next h r) = ap suc (match_length r)

  -- two readings that agree on matched elements
  pub match_map : {C : Type 0} (f : A → C) (g : B → C) → ((p : ℕ) (a : A) (b : B) → R p a b → f a ≡ g b)
      → {p : ℕ} {l : List A} {m : List B} → Matching R p l m → map f l ≡ map g m
  match_map f g agree end = refl
  match_map f g agree (next {p = p} {a = a} {b = b} h r) = λ i. agree p a b h i ∷ match_map f g agree r i

  -- tests that agree on matched elements
  pub match_any : (f : A → Bool) (g : B → Bool) → ((p : ℕ) (a : A) (b : B) → R p a b → f a ≡ g b)
      → {p : ℕ} {l : List A} {m : List B} → Matching R p l m → any f l ≡ any g m
  match_any f g agree end = refl
  match_any f g agree (next {p = p} {a = a} {b = b} h r) = λ i. agree p a b h i || match_any f g agree r i

  -- what the relation shows of the first list
  pub match_all : (P : A → Type 0) → ((p : ℕ) (a : A) (b : B) → R p a b → P a) → {p : ℕ} {l : List A} {m : List B} → Matching R p l m → All P l
  match_all P shows end = tt
  match_all P shows (next {p = p} {a = a} {b = b} h r) = (shows p a b h, match_all P shows r)

  -- one more at the end of both
  pub match_snoc : (a : A) (b : B) {p : ℕ} {l : List A} {m : List B} → R (p + length m) a b → Matching R p l m → Matching R p (l ++ (a ∷ [])) (m ++ (b ∷ []))
  match_snoc a b {p} h end = next {p = p} {a = a} {b = b} (let e : p + 0 ≡ p = omega arith in rw e at h) end
  match_snoc a b {p} h (next {m = m} k r) =
      next k (match_snoc a b (let e : p + suc (length m) ≡ suc p + length m = omega arith in rw e at h) r)

-- from one relation to another: each law takes the relation that is known, then the one that is wanted
module _ {A B : Type 0} (R : ℕ → A → B → Type 0) where
  -- the same lists, moved from place n to place p
  pub match_imp : (Q : ℕ → A → B → Type 0) {n p : ℕ} → ((i : ℕ) (a : A) (b : B) → R (n + i) a b → Q (p + i) a b)
      → {l : List A} {m : List B} → Matching R n l m → Matching Q p l m
  match_imp Q {n} {p} keep end = end
  match_imp Q {n} {p} keep (next {a = a} {b = b} h r) =
      next {p = p} {a = a} {b = b}
      (let e : p + 0 ≡ p = omega arith in rw e at (keep 0 a b (let d : n + 0 ≡ n = omega arith in rw d h)))
      (match_imp Q {n = suc n} {p = suc p}
      (λ i x y k.
      let e : p + suc i ≡ suc p + i = omega arith in
      let d : n + suc i ≡ suc n + i = omega arith in
      rw e at (keep (suc i) x y (rw d k)))
      r)

  stay : (Q : ℕ → A → B → Type 0) {p : ℕ} (a : A) (b : B) {l : List A} {m : List B} (c d : Bool) → c ≡ d → (c ≡ true → Q p a b)
      → Matching Q (suc p) l m → Matching Q p l m → Matching Q p (cond c (a ∷ l) l) (cond d (b ∷ m) m)
  stay Q a b true true e h k w = next (h refl) k
  stay Q a b true false e h k w = absurd (true≢false e)
  stay Q a b false true e h k w = absurd (false≢true e)
  stay Q a b false false e h k w = w

  -- both lists filtered by tests that agree on matched elements: who stays stands at its place or further to the front
  pub match_filter : (Q : ℕ → A → B → Type 0) (f : A → Bool) (g : B → Bool) → ((n : ℕ) (a : A) (b : B) → R n a b → f a ≡ g b)
      → ((p n : ℕ) (a : A) (b : B) → p ≤ n → R n a b → f a ≡ true → Q p a b)
      → {n p : ℕ} {l : List A} {m : List B} → p ≤ n → Matching R n l m → Matching Q p (filter f l) (filter g m)
  match_filter Q f g agree keep below end = end
  match_filter Q f g agree keep {n} {p} below (next {a = a} {b = b} h r) =
      stay Q {p = p} a b (f a) (g b) (agree n a b h) (keep p n a b below h)
      (match_filter Q f g agree keep {n = suc n} {p = suc p} (omega arith) r)
      (match_filter Q f g agree keep {n = suc n} {p = p} (omega arith) r)

-- one of the lists changed
pub match_left : {A B C : Type 0} (R : ℕ → C → B → Type 0) (f : A → C) {p : ℕ} {l : List A} {m : List B}
    → Matching (λ n a b. R n (f a) b) p l m → Matching R p (map f l) m
match_left R f end = end
match_left R f (next h r) = next h (match_left R f r)

pub match_right : {A B C : Type 0} (R : ℕ → A → C → Type 0) (g : B → C) {p : ℕ} {l : List A} {m : List B}
    → Matching (λ n a b. R n a (g b)) p l m → Matching R p l (map g m)
match_right R g end = end
match_right R g (next h r) = next h (match_right R g r)
