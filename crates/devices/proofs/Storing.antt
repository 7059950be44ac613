-- What storing a value changes and what it keeps: first of a row, then of the table's rows. Assumes nothing.
use mathlib.Core.Path.{◌≡◌, refl, sym, ap, ◌∙◌}
use mathlib.Core.Bool.{Bool, true, false}
use mathlib.Core.List.{List, [], ◌∷◌, map}
use mathlib.Core.Option
use mathlib.Core.Option.{Option, none, some}
use Prim.Native.Nat.{ℕ, ◌<◌}
use native.Mathlib.Omega.{arith}
use lib.ListN.{length, get_or, set}
use lib.Seq.{get_or-set_same, get_or-set_other}
use lib.Dec.{eqb}
use borrow.Author.Tests.{eqb-true, eqb-false, ne_eqb, leb-true}
use Rattle.std.specs.Prelude.{Some, None, is_some}
use Rattle.lists.proofs.Filters.{and_left}
use Rattle.lists.specs.Search.{change_first}
use Rattle.lists.proofs.Refills.{list_most, list_at, refill_set}
use Rattle.lists.proofs.Searches.{change_length, change_map, change_place, change_apart, change_first_lem}
use Rattle.devices.specs.declared.field.Setting.{Setting}
use Rattle.devices.specs.declared.field.Setting.TheVariants.{Mode, Cool, Slab, Fan}
use Rattle.devices.specs.declared.field.Field.{Field}
use Rattle.devices.specs.declared.row.Row.{Row}
use Rattle.devices.specs.declared.table.Table.{Table}
use Rattle.devices.specs.Field.{setting}
use Rattle.devices.specs.Row.{not_available, for_state, has, stored, in_force, in_range, legal, with_value, blank_row}
use Rattle.devices.specs.Table.{rows_of, used_rows, refill_rows, addressed, row_of, find, row_at, accepts, store, store_if, store_legal, value_in, value_of}
use Rattle.devices.proofs.Places.{found, position_is, place_inside, place_row, place_changed, missing_row}
use Rattle.devices.proofs.Rows.{table_counted}

-- the row has a place for the setting's value
abbrev pub Place : Row → Setting → Type 0
Place r Mode = Unit {0}
Place r (Cool s) = s < length r.cool
Place r (Slab s) = s < length r.slab
Place r (Fan s) = s < length r.fan

pub state_below : (mask bit s : ℕ) → for_state mask bit s ≡ true → s < 7
unfolding for_state
state_below mask bit s e = omega (arith, leb-true s 6 (and_left _ _ e))

-- the numbers of a row that no store changes, in their order: address, version, mask, state, events
abbrev pub fixed_of : Row → List ℕ
fixed_of r = r.address ∷ r.version ∷ r.mask ∷ r.state ∷ r.events ∷ []

pub with_fixed : (r : Row) (x : Setting) (v : ℕ) → fixed_of (with_value r x v) ≡ fixed_of r
unfolding with_value
with_fixed r Mode v = refl
with_fixed r (Cool s) v = refl
with_fixed r (Slab s) v = refl
with_fixed r (Fan s) v = refl

module _ (r : Row) (x : Setting) (v : ℕ) where
  with_address : (with_value r x v).address ≡ r.address
  with_address = ap (λ (l : List ℕ). get_or l 0 0) (with_fixed r x v)

  with_mask : (with_value r x v).mask ≡ r.mask
  with_mask = ap (λ (l : List ℕ). get_or l 2 0) (with_fixed r x v)

-- what the device has, and what is legal, go by the mask
has_by_mask : (r q : Row) (x : Setting) → r.mask ≡ q.mask → has r x ≡ has q x
unfolding has
has_by_mask r q Mode e = refl
has_by_mask r q (Cool s) e = rw e
has_by_mask r q (Slab s) e = rw e
has_by_mask r q (Fan s) e = rw e

range_by_mask : (r q : Row) (x : Setting) (v : ℕ) → r.mask ≡ q.mask → in_range r x v ≡ in_range q x v
unfolding in_range
range_by_mask r q Mode v e = rw e
range_by_mask r q (Cool s) v e = refl
range_by_mask r q (Slab s) v e = refl
range_by_mask r q (Fan s) v e = refl

module _ (r : Row) (x : Setting) (v : ℕ) where
  pub with_has : (y : Setting) → has (with_value r x v) y ≡ has r y
  with_has y = has_by_mask (with_value r x v) r y (with_mask r x v)

  pub with_legal : (y : Setting) (w : ℕ) → legal (with_value r x v) y w ≡ legal r y w
  unfolding legal
  with_legal y w = rw (with_has y, range_by_mask (with_value r x v) r y w (with_mask r x v))

-- the value stored is the value held, and every other value stays
pub stored_same : (r : Row) (x : Setting) (v : ℕ) → Place r x → stored (with_value r x v) x ≡ v
unfolding stored with_value
stored_same r Mode v h = refl
stored_same r (Cool s) v h = get_or-set_same r.cool s v not_available h
stored_same r (Slab s) v h = get_or-set_same r.slab s v not_available h
stored_same r (Fan s) v h = get_or-set_same r.fan s v not_available h

other_state : (l : List ℕ) (s t v : ℕ) → (s ≡ t → ⊥) → get_or (set l s v) t not_available ≡ get_or l t not_available
other_state l s t v h = get_or-set_other l s t v not_available (λ z. h (sym z))

pub stored_other : (r : Row) (x y : Setting) (v : ℕ) → (x ≡ y → ⊥) → stored (with_value r x v) y ≡ stored r y
unfolding stored with_value
stored_other r Mode Mode v h = absurd (h refl)
stored_other r Mode (Cool t) v h = refl
stored_other r Mode (Slab t) v h = refl
stored_other r Mode (Fan t) v h = refl
stored_other r (Cool s) Mode v h = refl
stored_other r (Cool s) (Cool t) v h = other_state r.cool s t v (λ z. h (ap Cool z))
stored_other r (Cool s) (Slab t) v h = refl
stored_other r (Cool s) (Fan t) v h = refl
stored_other r (Slab s) Mode v h = refl
stored_other r (Slab s) (Cool t) v h = refl
stored_other r (Slab s) (Slab t) v h = other_state r.slab s t v (λ z. h (ap Slab z))
stored_other r (Slab s) (Fan t) v h = refl
stored_other r (Fan s) Mode v h = refl
stored_other r (Fan s) (Cool t) v h = refl
stored_other r (Fan s) (Slab t) v h = refl
stored_other r (Fan s) (Fan t) v h = other_state r.fan s t v (λ z. h (ap Fan z))

module _ (r : Row) (x : Setting) (v : ℕ) where
  pub in_force_same : Place r x → has r x ≡ true → in_force (with_value r x v) x ≡ v
  unfolding in_force
  in_force_same h e = rw (with_has r x v x, e) (stored_same r x v h)

  pub in_force_other : (y : Setting) → (x ≡ y → ⊥) → in_force (with_value r x v) y ≡ in_force r y
  unfolding in_force
  in_force_other y h = rw (with_has r x v y, stored_other r x y v h)

  pub legal_has : legal r x v ≡ true → has r x ≡ true
  unfolding legal
  legal_has e = and_left _ _ e

  keeps_address : (a : ℕ) → addressed a (with_value r x v) ≡ addressed a r
  keeps_address a = ap (λ (n : ℕ). eqb n a) (with_address r x v)

-- in the rows of a table
module _ (l : List Row) (f : Field) (v : ℕ) where
  pub store_length : length (store l f v) ≡ length l
  unfolding store
  store_length = change_length (addressed f.address) (λ r. with_value r (setting f) v) l

  -- the rows keep their order, their addresses, versions, masks, states and events
  pub store_fixed : map fixed_of (store l f v) ≡ map fixed_of l
  unfolding store
  store_fixed = change_map (addressed f.address) (λ r. with_value r (setting f) v) fixed_of (λ r. with_fixed r (setting f) v) l

  pub store_place : (a : ℕ) → find (store l f v) a ≡ find l a
  unfolding store find
  store_place a =
      position_is (addressed a) (change_first (addressed f.address) (λ r. with_value r (setting f) v) l)
      ∙ ap found (change_place (addressed f.address) (addressed a) (λ r. with_value r (setting f) v) (λ r. keeps_address r (setting f) v a) l 0)
      ∙ sym (position_is (addressed a) l)

  -- the row of the field's address, and every other
  pub store_row : row_of (store l f v) f.address ≡ Option.map (λ r. with_value r (setting f) v) (row_of l f.address)
  unfolding store
  store_row = change_first_lem (addressed f.address) (λ r. with_value r (setting f) v) (λ r. keeps_address r (setting f) v f.address) l

  pub store_other_row : (a : ℕ) → (f.address ≡ a → ⊥) → row_of (store l f v) a ≡ row_of l a
  unfolding store
  store_other_row a h =
      change_apart (addressed f.address) (addressed a) (λ r. with_value r (setting f) v) (λ r. keeps_address r (setting f) v a)
      (λ r e. ne_eqb r.address a (λ z. h (sym (eqb-true r.address f.address e) ∙ z)))
      l

  -- every other place, also of a row with the same address
  pub store_other_place : (i j : ℕ) → find l f.address ≡ Some i → (j ≡ i → ⊥) → row_at (store l f v) j ≡ row_at l j
  unfolding store row_at
  store_other_place i j e h =
      ap (λ (m : List Row). get_or m j blank_row) (place_changed l f.address i e (λ r. with_value r (setting f) v))
      ∙ get_or-set_other l i j (with_value (row_at l i) (setting f) v) blank_row h

  -- a legal value that is stored is then in force
  pub store_value : (r : Row) → row_of l f.address ≡ some r → Place r (setting f) → legal r (setting f) v ≡ true → value_of (store l f v) f ≡ v
  unfolding value_of
  store_value r e h k = rw (store_row, e) (in_force_same r (setting f) v h (legal_has r (setting f) v k))

  -- and every other field, of another address or another setting, keeps its value
  pub store_other_value : (g : Field) → (f.address ≡ g.address → setting f ≡ setting g → ⊥) → value_of (store l f v) g ≡ value_of l g
  unfolding value_of setting
  store_other_value g h = go (eqb f.address g.address) refl
    where
      in_row : (o : Option Row) → (setting f ≡ setting g → ⊥) → value_in (Option.map (λ r. with_value r (setting f) v) o) (setting g) ≡ value_in o (setting g)
      in_row none n = refl
      in_row (some r) n = in_force_other r (setting f) v (setting g) n

      go : (t : Bool) → eqb f.address g.address ≡ t → value_in (row_of (store l f v) g.address) (setting g) ≡ value_in (row_of l g.address) (setting g)
      go true z =
          let a : f.address ≡ g.address = eqb-true f.address g.address z in
          rw (← a, store_row) (in_row (row_of l f.address) (h a))
      go false z = rw (store_other_row g.address (eqb-false f.address g.address z))

-- the value by the place that the search found
module _ (l : List Row) (f : Field) (v : ℕ) where
  pub accepts_missing : find l f.address ≡ None → accepts l f v ≡ false
  unfolding accepts
  accepts_missing e = rw (missing_row l f.address e)

  module _ (i : ℕ) (e : find l f.address ≡ Some i) where
    pub accepts_found : accepts l f v ≡ legal (row_at l i) (setting f) v
    unfolding accepts
    accepts_found = rw (place_row l f.address i e)

    pub store_found : store l f v ≡ set l i (with_value (row_at l i) (setting f) v)
    unfolding store
    store_found = place_changed l f.address i e (λ r. with_value r (setting f) v)

-- a value that is stored where it is legal
module _ (t : Table) (f : Field) (v : ℕ) where
  pub legal_is : is_some (store_legal t f v) ≡ accepts (rows_of t) f v
  unfolding store_legal
  legal_is = go (accepts (rows_of t) f v)
    where
      go : (b : Bool) → is_some (store_if t f v b) ≡ b
      go true = refl
      go false = refl

  pub legal_not : accepts (rows_of t) f v ≡ false → store_legal t f v ≡ None
  unfolding store_legal
  legal_not e = rw e

  pub legal_stored : accepts (rows_of t) f v ≡ true → store_legal t f v ≡ Some (refill_rows t (store (rows_of t) f v))
  unfolding store_legal
  legal_stored e = rw e

-- by the place that the search found: the row there decides, and is the one that changes
module _ (t : Table) (f : Field) (v : ℕ) where
  pub stored_missing : find (rows_of t) f.address ≡ None → store_legal t f v ≡ None
  stored_missing e = legal_not t f v (accepts_missing (rows_of t) f v e)

  module _ (long : length t.rows ≡ 32) (i : ℕ) (e : find (rows_of t) f.address ≡ Some i) where
    pub found_below : i < 32
    found_below = omega (arith, place_inside (rows_of t) f.address i e, list_most table_counted t 32 long)

    module _ (r : Row) (d : Row) (h : r ≡ get_or t.rows i d) where
      here : row_at (rows_of t) i ≡ r
      unfolding row_at
      here = sym (h ∙ list_at table_counted t 32 long i d blank_row (place_inside (rows_of t) f.address i e))

      judged : accepts (rows_of t) f v ≡ legal r (setting f) v
      judged = accepts_found (rows_of t) f v i e ∙ ap (λ (q : Row). legal q (setting f) v) here

      pub stored_refused : legal r (setting f) v ≡ false → store_legal t f v ≡ None
      stored_refused k = legal_not t f v (judged ∙ k)

      pub stored_found : legal r (setting f) v ≡ true
          → store_legal t f v ≡ Some (record { count = used_rows t; rows = set t.rows i (with_value r (setting f) v) })
      stored_found k =
          legal_stored t f v (judged ∙ k)
          ∙ ap (λ (l : List Row). Some (refill_rows t l)) (store_found (rows_of t) f v i e)
          ∙ sym (ap (λ (u : Table). Some u) (refill_set table_counted t i _ (place_inside (rows_of t) f.address i e)))
          ∙ ap (λ (q : Row). Some (record { count = used_rows t; rows = set t.rows i (with_value q (setting f) v) })) here
