-- The values of a row, by setting and by state. Assumes nothing.
use mathlib.Core.Path.{◌≡◌, refl, sym, ap, ◌∙◌}
use mathlib.Core.Bool.{Bool, true, false, ◌&&◌}
use mathlib.Core.List.{List, [], ◌∷◌}
use Prim.Native.Nat.{ℕ, zero, suc, ◌+◌, ◌<◌, ◌≤◌}
use native.Mathlib.Omega.{arith}
use lib.ListN.{length, get_or, take}
use Rattle.std.proofs.lemmas.List.{take_all}
use Rattle.std.proofs.lemmas.List.Folds.{list_all_more, list_all_at}
use Rattle.lists.specs.Filter.{every}
use Rattle.devices.specs.declared.field.Setting.{Setting}
use Rattle.devices.specs.declared.field.Setting.TheVariants.{Cool, Slab, Fan}
use Rattle.devices.specs.declared.row.Row.{Row}
use Rattle.devices.specs.Row.{holds, holds_in_states, holds_at, states, values_held}

-- a state stands at its own place
pub state_at : (s : ℕ) → s < 7 → get_or states s 0 ≡ s
state_at zero h = refl
state_at (suc zero) h = refl
state_at (suc (suc zero)) h = refl
state_at (suc (suc (suc zero))) h = refl
state_at (suc (suc (suc (suc zero)))) h = refl
state_at (suc (suc (suc (suc (suc zero))))) h = refl
state_at (suc (suc (suc (suc (suc (suc zero)))))) h = refl
state_at (suc (suc (suc (suc (suc (suc (suc s))))))) h = absurd (omega arith)

-- both tests of every element, or every element by one and then by the other
every_both : {A : Type 0} (p q : A → Bool) (l : List A) → every (λ x. p x && q x) l ≡ (every p l && every q l)
every_both p q [] = refl
every_both p q (x ∷ l) = rw (every_both p q l) (go (p x) (q x) (every p l) (every q l))
  where
    go : (a b c d : Bool) → ((a && b) && (c && d)) ≡ ((a && c) && (b && d))
    go true true c d = refl
    go true false true d = refl
    go true false false d = refl
    go false b c d = refl

-- the three settings state by state
pub held_by_state : (r : Row) → values_held r ≡ every (holds_at r) states
unfolding values_held holds_in_states
held_by_state r =
    let cool : ℕ → Bool = λ s. holds r (Cool s) in
    let slab : ℕ → Bool = λ s. holds r (Slab s) in
    let fan : ℕ → Bool = λ s. holds r (Fan s) in
    sym (every_both (λ s. cool s && slab s) fan states ∙ rw (every_both cool slab states) (go (every cool states) (every slab states) (every fan states)))
  where
    go : (a b c : Bool) → ((a && b) && c) ≡ (a && (b && (c && true)))
    go true true true = refl
    go true true false = refl
    go true false c = refl
    go false b c = refl

-- ---- the loops that check them, state by state and setting by setting

-- one more element that passes
pub passed_more : {A : Type 0} (p : A → Bool) (l : List A) (i : ℕ) (d : A) → i < length l
    → every p (take i l) ≡ true → p (get_or l i d) ≡ true → every p (take (i + 1) l) ≡ true
passed_more p l i d h before e = rw (list_all_more p l i d h, before, e)

-- all elements passed
pub passed_all : {A : Type 0} (p : A → Bool) (l : List A) (i : ℕ) → length l ≤ i → every p (take i l) ≡ true → every p l ≡ true
passed_all p l i h e = ap (every p) (sym (take_all i l h)) ∙ e

-- the settings that have a value for a state
abbrev pub settings_at : ℕ → List Setting
settings_at s = Cool s ∷ Slab s ∷ Fan s ∷ []

module _ (r : Row) (s : ℕ) where
  pub held_at : every (holds r) (settings_at s) ≡ holds_at r s
  held_at = go (holds r (Cool s)) (holds r (Slab s)) (holds r (Fan s))
    where
      go : (a b c : Bool) → (a && (b && (c && true))) ≡ ((a && b) && c)
      go true true true = refl
      go true true false = refl
      go true false c = refl
      go false b c = refl

  -- one of them that is not held
  pub unheld_at : (i : ℕ) (d : Setting) → i < 3 → holds r (get_or (settings_at s) i d) ≡ false → holds_at r s ≡ false
  unheld_at i d h e = sym held_at ∙ list_all_at (holds r) (settings_at s) i d h e
