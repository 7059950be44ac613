-- Fields that are the same are equal, and a field is the same as itself; the kinds by their numbers; the field of a setting is formed,
-- and formed fields with one address and one setting are equal. Assumes nothing.
use mathlib.Core.Path.{◌≡◌, refl, sym, ap, ◌∙◌}
use mathlib.Core.Bool.{Bool, true, false, cond, true≢false}
use mathlib.Core.List.{[], ◌∷◌, map}
use Prim.Native.Nat.{ℕ, zero, suc, ◌≤◌}
use native.Mathlib.Omega.{arith}
use lib.Dec.{eqb}
use borrow.Author.Tests.{eq-eqb, eqb-true}
use Rattle.lists.proofs.Filters.{and_left, and_right}
use Rattle.devices.specs.declared.field.Setting.{Setting}
use Rattle.devices.specs.declared.field.Setting.TheVariants.{Mode, Cool, Slab, Fan}
use Rattle.devices.specs.declared.field.Field.{Field}
use Rattle.devices.specs.contracts.field.FieldPartialEq.TheImpl as field_eq
use Rattle.devices.specs.Field.{kind_of, state_of, setting_by, setting, field_of, Formed, same_field}

-- the kinds by their numbers, as C reads them: mode, cool, slab, fan
pub kind_numbers : (s : ℕ) → map kind_of (Mode ∷ Cool s ∷ Slab s ∷ Fan s ∷ []) ≡ 0 ∷ 1 ∷ 2 ∷ 3 ∷ []
kind_numbers s = refl

-- the field of a setting names it
pub setting_field : (a : ℕ) (x : Setting) → setting (field_of a x) ≡ x
unfolding setting
setting_field a Mode = refl
setting_field a (Cool s) = refl
setting_field a (Slab s) = refl
setting_field a (Fan s) = refl

pub field_formed : (a : ℕ) (x : Setting) → Formed (field_of a x)
field_formed a Mode = record { kind = omega arith; mode = λ e. refl }
field_formed a (Cool s) = record { kind = omega arith; mode = λ e. absurd (omega arith) }
field_formed a (Slab s) = record { kind = omega arith; mode = λ e. absurd (omega arith) }
field_formed a (Fan s) = record { kind = omega arith; mode = λ e. absurd (omega arith) }

-- a test between two settings whose states are at most n
either_most : (b : Bool) (x y : Setting) (n : ℕ) → state_of x ≤ n → state_of y ≤ n → state_of (cond b x y) ≤ n
either_most true x y n p q = p
either_most false x y n p q = q

-- the setting's state is the field's, or 0 of a mode
pub state_named : (f : Field) → state_of (setting f) ≤ f.state
unfolding setting
state_named f =
    either_most (eqb f.kind 0) _ _ _ (omega arith)
    (either_most (eqb f.kind 1) _ _ _ (omega arith) (either_most (eqb f.kind 2) _ _ _ (omega arith) (omega arith)))

-- a formed field is the field of its address and its setting
named_by : (a k s : ℕ) → k ≤ 3 → (k ≡ 0 → s ≡ 0) → field_of a (setting_by k s) ≡ record { address = a; kind = k; state = s }
named_by a zero s h n = λ i. record { address = a; kind = 0; state = sym (n refl) i }
named_by a (suc zero) s h n = refl
named_by a (suc (suc zero)) s h n = refl
named_by a (suc (suc (suc zero))) s h n = refl
named_by a (suc (suc (suc (suc k)))) s h n = absurd (omega arith)

-- formed fields are told apart by their addresses and settings
pub formed_eq : (f g : Field) → Formed f → Formed g → f.address ≡ g.address → setting f ≡ setting g → f ≡ g
unfolding setting
formed_eq f g p q a x =
    sym (named_by f.address f.kind f.state p.kind p.mode)
    ∙ ap (λ (n : ℕ). field_of n (setting f)) a
    ∙ ap (field_of g.address) x
    ∙ named_by g.address g.kind g.state q.kind q.mode

-- what `==` of two fields computes
pub derived_is : (f g : Field) → (field_eq.ghosts).eq f g ≡ same_field f g
unfolding same_field
derived_is f g = refl

pub same_refl : (f : Field) → same_field f f ≡ true
unfolding same_field
same_refl f = rw (eq-eqb f.address f.address refl, eq-eqb f.kind f.kind refl, eq-eqb f.state f.state refl)

pub same_eq : (f g : Field) → same_field f g ≡ true → f ≡ g
unfolding same_field
same_eq f g e =
    let r = and_right (eqb f.address g.address) _ e in
    let a : f.address ≡ g.address = eqb-true f.address g.address (and_left _ _ e) in
    let k : f.kind ≡ g.kind = eqb-true f.kind g.kind (and_left _ _ r) in
    let s : f.state ≡ g.state = eqb-true f.state g.state (and_right (eqb f.kind g.kind) _ r) in
    λ i. record { address = a i; kind = k i; state = s i }

-- settings, compared as the fields of one address
pub same_setting : (x y : Setting) → same_field (field_of 0 x) (field_of 0 y) ≡ true → x ≡ y
same_setting x y e = sym (setting_field 0 x) ∙ ap setting (same_eq (field_of 0 x) (field_of 0 y) e) ∙ setting_field 0 y

pub other_setting : (x y : Setting) → same_field (field_of 0 x) (field_of 0 y) ≡ false → x ≡ y → ⊥
other_setting x y e z = true≢false (sym (same_refl (field_of 0 x)) ∙ ap (λ (w : Setting). same_field (field_of 0 x) (field_of 0 w)) z ∙ e)
