-- Laws of `Permutation`: what it keeps (length, membership, tests, properties), against `filter` and `map`, and the moves that a
-- queue makes (the head to the tail, a part to the end). Assumes nothing.
use mathlib.Core.Path.{◌≡◌, refl, ap, ◌∙◌, subst}
use mathlib.Core.Bool.{Bool, true, false, cond, not, ◌||◌, true≢false, false≢true}
use mathlib.Core.List.{List, [], ◌∷◌, ◌++◌, append_assoc}
use mathlib.Core.List.Permᴰ
use mathlib.Core.List.{Memᴰ}
pub use mathlib.Core.List.Permᴰ.{append_comm as perm_append_comm}
pub use mathlib.Core.List.Permᴰ.{map as perm-map}
use Prim.Native.Nat.{suc}
use lib.ListN.{length}
use Rattle.lists.specs.Filter.{filter, any, All}
use Rattle.lists.specs.Permutation.{Permutation}

or_comm₃ : (a b c : Bool) → (a || (b || c)) ≡ (b || (a || c))
or_comm₃ true true c = refl
or_comm₃ true false c = refl
or_comm₃ false true c = refl
or_comm₃ false false c = refl

module _ {A : Type 0} where
  pub perm_of_eq : {l m : List A} → l ≡ m → Permutation l m
  perm_of_eq {l} e = subst (λ (k : List A). Permutation l k) e (Permᴰ.refl l)

  pub perm_length : {l₁ l₂ : List A} → Permutation l₁ l₂ → length l₁ ≡ length l₂
  perm_length Permᴰ.nil = refl
  perm_length (Permᴰ.cons e d) = ap suc (perm_length d)
  perm_length (Permᴰ.swap e₁ e₂) = refl
  perm_length (Permᴰ.trans d₁ d₂) = perm_length d₁ ∙ perm_length d₂

  pub perm_any : (p : A → Bool) {l₁ l₂ : List A} → Permutation l₁ l₂ → any p l₁ ≡ any p l₂
  perm_any p Permᴰ.nil = refl
  perm_any p (Permᴰ.cons {a = a} {b = b} {l₁ = l₁} {l₂ = l₂} e d) = cc (perm_any p d)
  perm_any p (Permᴰ.swap {a = a} {b = b} {l = l} e₁ e₂) = rw (← e₁, ← e₂) (or_comm₃ (p a) (p b) (any p l))
  perm_any p (Permᴰ.trans d₁ d₂) = perm_any p d₁ ∙ perm_any p d₂

  pub perm_all : (P : A → Type 0) {l₁ l₂ : List A} → Permutation l₁ l₂ → All P l₁ → All P l₂
  perm_all P Permᴰ.nil h = h
  perm_all P (Permᴰ.cons e d) h = (subst P e h.0, perm_all P d h.1)
  perm_all P (Permᴰ.swap e₁ e₂) h = (subst P e₂ h.1.0, (subst P e₁ h.0, h.1.1))
  perm_all P (Permᴰ.trans d₁ d₂) h = perm_all P d₂ (perm_all P d₁ h)

  pub mem_perm : {a : A} {l₁ l₂ : List A} → Permutation l₁ l₂ → Memᴰ a l₁ → Memᴰ a l₂
  mem_perm Permᴰ.nil m = m
  mem_perm (Permᴰ.cons e d) (Memᴰ.head h) = Memᴰ.head (h ∙ e)
  mem_perm (Permᴰ.cons e d) (Memᴰ.tail m) = Memᴰ.tail (mem_perm d m)
  mem_perm (Permᴰ.swap e₁ e₂) (Memᴰ.head h) = Memᴰ.tail (Memᴰ.head (h ∙ e₁))
  mem_perm (Permᴰ.swap e₁ e₂) (Memᴰ.tail (Memᴰ.head h)) = Memᴰ.head (h ∙ e₂)
  mem_perm (Permᴰ.swap e₁ e₂) (Memᴰ.tail (Memᴰ.tail m)) = Memᴰ.tail (Memᴰ.tail m)
  mem_perm (Permᴰ.trans d₁ d₂) m = mem_perm d₂ (mem_perm d₁ m)

  filter_cons : {a b : A} {l₁ l₂ : List A} (c d : Bool) → c ≡ d → a ≡ b → Permutation l₁ l₂ → Permutation (cond c (a ∷ l₁) l₁) (cond d (b ∷ l₂) l₂)
  filter_cons true true e f p = Permᴰ.cons f p
  filter_cons true false e f p = absurd (true≢false e)
  filter_cons false true e f p = absurd (false≢true e)
  filter_cons false false e f p = p

  filter_swap : (c d : Bool) (a b : A) (l : List A)
      → Permutation (cond c (a ∷ cond d (b ∷ l) l) (cond d (b ∷ l) l)) (cond d (b ∷ cond c (a ∷ l) l) (cond c (a ∷ l) l))
  filter_swap true true a b l = Permᴰ.swap refl refl
  filter_swap true false a b l = Permᴰ.refl (a ∷ l)
  filter_swap false true a b l = Permᴰ.refl (b ∷ l)
  filter_swap false false a b l = Permᴰ.refl l

  pub perm_filter : (p : A → Bool) {l₁ l₂ : List A} → Permutation l₁ l₂ → Permutation (filter p l₁) (filter p l₂)
  perm_filter p Permᴰ.nil = Permᴰ.nil
  perm_filter p (Permᴰ.cons {a = a} {b = b} e d) = filter_cons (p a) (p b) (ap p e) e (perm_filter p d)
  perm_filter p (Permᴰ.swap {a = a} {b = b} {l = l} e₁ e₂) = rw (← e₁, ← e₂) (filter_swap (p a) (p b) a b (filter p l))
  perm_filter p (Permᴰ.trans d₁ d₂) = Permᴰ.trans (perm_filter p d₁) (perm_filter p d₂)

  split_cons : (c : Bool) (a : A) (l m : List A) {k : List A} → Permutation (l ++ m) k → Permutation (cond c (a ∷ l) l ++ cond (not c) (a ∷ m) m) (a ∷ k)
  split_cons true a l m p = Permᴰ.cons refl p
  split_cons false a l m p = Permᴰ.trans (Permᴰ.middle a l m) (Permᴰ.cons refl p)

  -- what passes a test and what does not are the whole
  pub perm_split : (p : A → Bool) (l : List A) → Permutation (filter p l ++ filter (λ x. not (p x)) l) l
  perm_split p [] = Permᴰ.nil
  perm_split p (x ∷ l) = split_cons (p x) x (filter p l) (filter (λ y. not (p y)) l) (perm_split p l)

  -- the head at the tail
  pub perm_last : (a : A) (l : List A) → Permutation (a ∷ l) (l ++ (a ∷ []))
  perm_last a l = Permᴰ.symm (Permᴰ.trans (Permᴰ.middle a l []) (Permᴰ.cons refl (Permᴰ.append-nil l)))

  -- e leaves the middle and is put at the end
  pub perm_moved : (x y e : List A) {w : List A} → Permutation (x ++ y) w → Permutation (x ++ (e ++ y)) (w ++ e)
  perm_moved x y e p = Permᴰ.trans (Permᴰ.append_left x (perm_append_comm e y)) (rw append_assoc at (Permᴰ.append_right e p))
