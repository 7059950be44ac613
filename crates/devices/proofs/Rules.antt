-- Rows that keep the rules: what the rules tell of a row, that storing a legal value keeps them, and that a row that is added
-- keeps them. Assumes nothing.
use mathlib.Core.Path.{◌≡◌, refl, sym, ap, ◌∙◌, subst}
use mathlib.Core.Bool.{Bool, true, false, not, cond}
use mathlib.Core.List.{List, [], ◌∷◌}
use Prim.Native.Nat.{ℕ, zero, suc, ◌<◌, ◌≤◌}
use native.Mathlib.Omega.{arith}
use lib.ListN.{length, get_or}
use lib.Dec.{leb}
use borrow.Author.Tests.{leb-true, leb-false}
use Rattle.std.specs.Prelude.{Ok, Err}
use Rattle.lists.specs.Filter.{any, All}
use Rattle.lists.proofs.Filters.{and_left, and_right, every_at, every_imp}
use Rattle.lists.proofs.Clash.{clash}
use Rattle.lists.proofs.Searches.{change_all}
use Rattle.devices.specs.declared.field.Setting.{Setting}
use Rattle.devices.specs.declared.field.Setting.TheVariants.{Mode, Cool, Slab, Fan}
use Rattle.devices.specs.declared.field.Field.{Field}
use Rattle.devices.specs.declared.row.Row.{Row}
use Rattle.devices.specs.declared.table.RowRefusal.TheVariants.{BadRow, AddressInTable, TableFull}
use Rattle.devices.specs.Field.{setting, field_of, same_field}
use Rattle.devices.specs.Row.{not_available, address_legal, mask_legal, state_legal, events_legal, cooling, slab, fan, has, stored, in_range, legal, holds, holds_in_states, states, state_settings, values_held, device_legal, time_legal, keeps_rules, with_value}
use Rattle.devices.specs.Table.{table_places, addressed, accepts, store, row_answer}
use Rattle.devices.proofs.Fields.{same_setting, other_setting}
use Rattle.devices.proofs.Values.{state_at}
use Rattle.devices.proofs.Storing.{Place, state_below, fixed_of, legal_has, with_fixed, with_has, with_legal, stored_same, stored_other}

-- the rules one by one
pub record Rules (r : Row) : Type 0 where
  pub address : address_legal r.address ≡ true
  pub mask : mask_legal r.mask ≡ true
  pub state : state_legal r.state ≡ true
  pub events : events_legal r.events ≡ true
  pub mode : holds r Mode ≡ true
  pub values : values_held r ≡ true

pub rules_of : (r : Row) → keeps_rules r ≡ true → Rules r
unfolding keeps_rules
rules_of r e =
    let device = and_left (device_legal r) _ e in
    let time = and_left (time_legal r) _ (and_right (device_legal r) _ e) in
    let values = and_right (time_legal r) _ (and_right (device_legal r) _ e) in
    record {
      address = and_left _ _ device;
      mask = and_right (address_legal r.address) _ device;
      state = and_left _ _ time;
      events = and_right (state_legal r.state) _ time;
      mode = and_left _ _ values;
      values = and_right (holds r Mode) _ values;
    }

pub of_rules : (r : Row) → Rules r → keeps_rules r ≡ true
unfolding keeps_rules
of_rules r k = rw (k.address, k.mask, k.state, k.events, k.mode, k.values)

-- a setting that has a value for each state, by its number
in_states : (r : Row) (n : ℕ) → n < 3 → values_held r ≡ true → (s : ℕ) → s < 7 → holds r (get_or state_settings n Fan s) ≡ true
unfolding values_held holds_in_states
in_states r n h e s k =
    let setting : ℕ → Setting = get_or state_settings n Fan in
    ap (λ (x : ℕ). holds r (setting x)) (sym (state_at s k))
    ∙ every_at (λ x. holds r (setting x)) states s 0 k (every_at (holds_in_states r) state_settings n Fan h e)

-- a row that keeps the rules holds a legal value for each setting that its device has
pub rules_hold : (r : Row) (x : Setting) → Rules r → has r x ≡ true → holds r x ≡ true
unfolding has
rules_hold r Mode k e = k.mode
rules_hold r (Cool s) k e = in_states r 0 (omega arith) k.values s (state_below r.mask cooling s e)
rules_hold r (Slab s) k e = in_states r 1 (omega arith) k.values s (state_below r.mask slab s e)
rules_hold r (Fan s) k e = in_states r 2 (omega arith) k.values s (state_below r.mask fan s e)

-- a value that is not 0xFF stands in the list
present : (l : List ℕ) (s : ℕ) → get_or l s not_available ≤ 254 → s < length l
present [] s h = absurd (omega arith)
present (x ∷ l) zero h = omega arith
present (x ∷ l) (suc s) h = let k : s < length l = present l s h in omega arith

held_legal : (r : Row) (x : Setting) → has r x ≡ true → holds r x ≡ true → legal r x (stored r x) ≡ true
unfolding holds
held_legal r x e h = rw e at h

legal_range : (r : Row) (x : Setting) (v : ℕ) → legal r x v ≡ true → in_range r x v ≡ true
unfolding legal
legal_range r x v e = and_right (has r x) _ e

-- so it has a place for the value of each
range_place : (r : Row) (x : Setting) → in_range r x (stored r x) ≡ true → Place r x
unfolding in_range stored
range_place r Mode h = tt
range_place r (Cool s) h = present r.cool s (leb-true _ _ h)
range_place r (Slab s) h = present r.slab s (leb-true _ _ h)
range_place r (Fan s) h = present r.fan s (omega (arith, leb-true (get_or r.fan s not_available) 100 h))

pub rules_place : (r : Row) (x : Setting) → Rules r → has r x ≡ true → Place r x
rules_place r x k e = range_place r x (legal_range r x (stored r x) (held_legal r x e (rules_hold r x k e)))

-- the row with a legal value stored: each setting holds as before
module _ (r : Row) (x : Setting) (v : ℕ) (k : Rules r) (e : legal r x v ≡ true) where
  with_same_holds : holds (with_value r x v) x ≡ true
  unfolding holds
  with_same_holds =
      rw (with_has r x v x, legal_has r x v e, stored_same r x v (rules_place r x k (legal_has r x v e)), with_legal r x v x v, e)

  with_holds : (y : Setting) → holds r y ≡ true → holds (with_value r x v) y ≡ true
  unfolding holds
  with_holds y h = go (same_field (field_of 0 x) (field_of 0 y)) refl
    where
      go : (t : Bool) → same_field (field_of 0 x) (field_of 0 y) ≡ t → holds (with_value r x v) y ≡ true
      go true z = subst (λ (w : Setting). holds (with_value r x v) w ≡ true) (same_setting x y z) with_same_holds
      go false z = rw (with_has r x v y, stored_other r x y v (other_setting x y z), with_legal r x v y (stored r y)) h

  fixed : (n : ℕ) (p : ℕ → Bool) → p (get_or (fixed_of r) n 0) ≡ true → p (get_or (fixed_of (with_value r x v)) n 0) ≡ true
  fixed n p h = ap (λ (l : List ℕ). p (get_or l n 0)) (with_fixed r x v) ∙ h

  -- and so the rules are kept
  pub rules_with : Rules (with_value r x v)
  unfolding values_held holds_in_states
  rules_with = record {
    address = fixed 0 address_legal k.address;
    mask = fixed 2 mask_legal k.mask;
    state = fixed 3 state_legal k.state;
    events = fixed 4 events_legal k.events;
    mode = with_holds Mode k.mode;
    values = every_imp (holds_in_states r) (holds_in_states (with_value r x v))
        (λ setting. every_imp (λ s. holds r (setting s)) (λ s. holds (with_value r x v) (setting s)) (λ s. with_holds (setting s)) states)
        state_settings k.values;
  }

-- in the rows of a table
pub store_rules : (l : List Row) (f : Field) (v : ℕ) → accepts l f v ≡ true → All Rules l → All Rules (store l f v)
unfolding store accepts
store_rules l f v e h =
    change_all Rules (addressed f.address) (λ r. with_value r (setting f) v) l
    (λ r z k. rules_with r (setting f) v k (rw z at e))
    h

-- a row that is added keeps the rules, its address is new, and there was room
pub record Admitted (l : List Row) (r : Row) : Type 0 where
  pub rules : Rules r
  pub new : any (addressed r.address) l ≡ false
  pub room : length l < 32

pub admitted : (l : List Row) (r : Row) → row_answer l r ≡ Ok tt → Admitted l r
unfolding row_answer
admitted l r e = go (keeps_rules r) (any (addressed r.address) l) (leb table_places (length l)) refl refl refl e
  where
    go : (k a b : Bool) → keeps_rules r ≡ k → any (addressed r.address) l ≡ a → leb table_places (length l) ≡ b
        → cond (not k) (Err BadRow) (cond a (Err AddressInTable) (cond b (Err TableFull) (Ok (tt {0})))) ≡ Ok (tt {0}) → Admitted l r
    go true false false z₁ z₂ z₃ d = record { rules = rules_of r z₁; new = z₂; room = leb-false table_places (length l) z₃ }
    go true false true z₁ z₂ z₃ d = clash cc
    go true true b z₁ z₂ z₃ d = clash cc
    go false a b z₁ z₂ z₃ d = clash cc
