-- Laws of `filter`, `any`, `every` and `All`: the steps of a loop over a list, then each against `◌++◌`, `map` and each other; with
-- mathlib's laws of `map` beside them. Assumes nothing.
use mathlib.Core.Path.{◌≡◌, refl, sym, ap, ◌∙◌, subst}
use mathlib.Core.Bool.{Bool, true, false, cond, not, ◌&&◌, ◌||◌, true≢false}
use mathlib.Core.List.{List, [], ◌∷◌, ◌++◌, map, Memᴰ, append-nil}
pub use mathlib.Core.List.Memᴰ.{map as mem-map}
pub use mathlib.Core.List.{map-append}
use Prim.Native.Nat.{ℕ, ◌<◌, ◌≤◌, zero, suc}
use native.Mathlib.Omega.{arith}
use native.Mathlib.Nat.{not-suc-le-zero, le_of_suc-le-suc}
use lib.ListN.{length, get_or}
use Rattle.lists.specs.Filter.{filter, any, every, All}

or_assoc : (a b c : Bool) → ((a || b) || c) ≡ (a || (b || c))
or_assoc true b c = refl
or_assoc false b c = refl

pub or_left : (a b : Bool) → (a || b) ≡ false → a ≡ false
or_left true b e = e
or_left false b e = refl

pub or_right : (a b : Bool) → (a || b) ≡ false → b ≡ false
or_right true b e = absurd (true≢false e)
or_right false b e = e

pub and_left : (a b : Bool) → (a && b) ≡ true → a ≡ true
and_left true b e = refl
and_left false b e = e

pub and_right : (a b : Bool) → (a && b) ≡ true → b ≡ true
and_right true b e = e
and_right false b e = absurd (true≢false (sym e))

pub cond_append : {A : Type 0} (b : Bool) (x y z : List A) → cond b x y ++ z ≡ cond b (x ++ z) (y ++ z)
cond_append true x y z = refl
cond_append false x y z = refl

module _ {A : Type 0} where
  pub any_append : (p : A → Bool) (l m : List A) → any p (l ++ m) ≡ (any p l || any p m)
  any_append p [] m = refl
  any_append p (x ∷ l) m = rw (any_append p l m) (sym (or_assoc (p x) (any p l) (any p m)))

  pub any_filter : (p k : A → Bool) (l : List A) → any p l ≡ false → any p (filter k l) ≡ false
  any_filter p k [] e = refl
  any_filter p k (x ∷ l) e = go (k x) (or_left (p x) (any p l) e) (any_filter p k l (or_right (p x) (any p l) e))
    where
      go : (c : Bool) → p x ≡ false → any p (filter k l) ≡ false → any p (cond c (x ∷ filter k l) (filter k l)) ≡ false
      go true e₁ e₂ = rw (e₁, e₂)
      go false e₁ e₂ = e₂

  pub filter_append : (p : A → Bool) (l m : List A) → filter p (l ++ m) ≡ filter p l ++ filter p m
  filter_append p [] m = refl
  filter_append p (x ∷ l) m = rw (filter_append p l m) (sym (cond_append (p x) (x ∷ filter p l) (filter p l) (filter p m)))

  -- one element more, which passes or does not
  pub filter_snoc : (p : A → Bool) (l : List A) (x : A) → p x ≡ true → filter p (l ++ (x ∷ [])) ≡ filter p l ++ (x ∷ [])
  filter_snoc p l x e = rw (filter_append p l (x ∷ []), e)

  pub filter_skip : (p : A → Bool) (l : List A) (x : A) → p x ≡ false → filter p (l ++ (x ∷ [])) ≡ filter p l
  filter_skip p l x e = rw (filter_append p l (x ∷ []), e) (append-nil (filter p l))

  pub filter_length : (p : A → Bool) (l : List A) → length (filter p l) ≤ length l
  filter_length p [] = omega arith
  filter_length p (x ∷ l) = go (p x) (filter_length p l)
    where
      go : (c : Bool) → length (filter p l) ≤ length l → length (cond c (x ∷ filter p l) (filter p l)) ≤ length (x ∷ l)
      go true h = omega arith
      go false h = omega arith

  -- what passes has what the test shows
  pub filter_all : (P : A → Type 0) (p : A → Bool) → ((a : A) → p a ≡ true → P a) → (l : List A) → All P (filter p l)
  filter_all P p f [] = tt
  filter_all P p f (x ∷ l) = go (p x) refl (filter_all P p f l)
    where
      go : (c : Bool) → p x ≡ c → All P (filter p l) → All P (cond c (x ∷ filter p l) (filter p l))
      go true e h = (f x e, h)
      go false e h = h

  -- where every element passes, the one at a place does, and what follows for each holds for every one
  pub every_at : (p : A → Bool) (l : List A) (i : ℕ) (d : A) → i < length l → every p l ≡ true → p (get_or l i d) ≡ true
  every_at p [] i d h e = absurd (not-suc-le-zero h)
  every_at p (x ∷ l) zero d h e = and_left (p x) (every p l) e
  every_at p (x ∷ l) (suc i) d h e = every_at p l i d (le_of_suc-le-suc h) (and_right (p x) (every p l) e)

  pub every_imp : (p q : A → Bool) → ((x : A) → p x ≡ true → q x ≡ true) → (l : List A) → every p l ≡ true → every q l ≡ true
  every_imp p q f [] e = refl
  every_imp p q f (x ∷ l) e = rw (f x (and_left (p x) (every p l) e), every_imp p q f l (and_right (p x) (every p l) e))

  -- where nothing passes, taking what passes out changes nothing
  pub filter_not_any : (p : A → Bool) (l : List A) → any p l ≡ false → filter (λ x. not (p x)) l ≡ l
  filter_not_any p [] e = refl
  filter_not_any p (x ∷ l) e =
      rw (or_left (p x) (any p l) e) (ap (λ (r : List A). x ∷ r) (filter_not_any p l (or_right (p x) (any p l) e)))

  all_cond : (P : A → Type 0) (c : Bool) (a : A) (l : List A) → P a → All P l → All P (cond c (a ∷ l) l)
  all_cond P true a l h hs = (h, hs)
  all_cond P false a l h hs = hs

  pub all_filter : (P : A → Type 0) (p : A → Bool) (l : List A) → All P l → All P (filter p l)
  all_filter P p [] h = tt
  all_filter P p (x ∷ l) h = all_cond P (p x) x (filter p l) h.0 (all_filter P p l h.1)

  pub all_append : (P : A → Type 0) (l m : List A) → All P l → All P m → All P (l ++ m)
  all_append P [] m h k = k
  all_append P (x ∷ l) m h k = (h.0, all_append P l m h.1 k)

  pub all_front : (P : A → Type 0) (l m : List A) → All P (l ++ m) → All P l
  all_front P [] m h = tt
  all_front P (x ∷ l) m h = (h.0, all_front P l m h.1)

  pub all_back : (P : A → Type 0) (l m : List A) → All P (l ++ m) → All P m
  all_back P [] m h = h
  all_back P (x ∷ l) m h = all_back P l m h.1

  pub all_imp : (P Q : A → Type 0) → ((a : A) → P a → Q a) → (l : List A) → All P l → All Q l
  all_imp P Q f [] h = tt
  all_imp P Q f (x ∷ l) h = (f x h.0, all_imp P Q f l h.1)

  pub mem_all : (P : A → Type 0) {a : A} {l : List A} → All P l → Memᴰ a l → P a
  mem_all P h (Memᴰ.head e) = subst P (sym e) h.0
  mem_all P h (Memᴰ.tail m) = mem_all P h.1 m

  mem_cond : (c : Bool) (x : A) {a : A} {l : List A} → Memᴰ a l → Memᴰ a (cond c (x ∷ l) l)
  mem_cond true x m = Memᴰ.tail m
  mem_cond false x m = m

  pub mem_filter : (p : A → Bool) {a : A} {l : List A} → p a ≡ true → Memᴰ a l → Memᴰ a (filter p l)
  mem_filter p {a} h (Memᴰ.head {x = x} {xs = l} e) =
      subst (λ (c : Bool). Memᴰ a (cond c (x ∷ filter p l) (filter p l))) (sym (ap p (sym e) ∙ h)) (Memᴰ.head e)
  mem_filter p {a} h (Memᴰ.tail {x = x} m) = mem_cond (p x) x (mem_filter p h m)

module _ {A B : Type 0} where
  -- a change that g does not see
  pub map_after : (g : A → B) (f : A → A) → ((x : A) → g (f x) ≡ g x) → (l : List A) → map g (map f l) ≡ map g l
  map_after g f h [] = refl
  map_after g f h (x ∷ l) = rw (h x, map_after g f h l)

  pub map_not_any : (p : A → Bool) (f g : A → B) (l : List A) → any p l ≡ false → map (λ x. cond (p x) (f x) (g x)) l ≡ map g l
  map_not_any p f g [] e = refl
  map_not_any p f g (x ∷ l) e =
      rw (or_left (p x) (any p l) e) (ap (λ (r : List B). g x ∷ r) (map_not_any p f g l (or_right (p x) (any p l) e)))

  pub any_map : (p : B → Bool) (f : A → B) (l : List A) → any p (map f l) ≡ any (λ x. p (f x)) l
  any_map p f [] = refl
  any_map p f (x ∷ l) = ap (λ (r : Bool). p (f x) || r) (any_map p f l)

  pub all_map : (P : A → Type 0) (Q : B → Type 0) (f : A → B) → ((a : A) → P a → Q (f a)) → (l : List A) → All P l → All Q (map f l)
  all_map P Q f g [] h = tt
  all_map P Q f g (x ∷ l) h = (g x h.0, all_map P Q f g l h.1)
