-- What a frame brings leaves every earlier frame's value alone, in the values and behind a row's first frame. Assumes nothing.
use mathlib.Core.Path.{◌≡◌, refl, sym, ap, ◌∙◌}
use mathlib.Core.Bool.{Bool, true, false, not, ◌&&◌, false≢true}
use mathlib.Core.List.{List, [], ◌∷◌, ◌++◌, map}
use Prim.Native.Nat.{ℕ, zero, suc, ◌+◌, ◌<◌}
use native.Mathlib.Omega.{arith}
use lib.Dec.{eqb}
use lib.ListN.{take}
use borrow.Author.Tests.{eq-eqb, eqb-true, eqb-false}
use Rattle.lists.specs.Filter.{every}
use Rattle.lists.proofs.Filters.{and_left, and_right}
use Rattle.devices.specs.declared.row.Row.{Row}
use Rattle.devices.specs.declared.field.Setting.{Setting}
use Rattle.devices.specs.declared.field.Setting.TheVariants.{Mode, Cool, Slab, Fan}
use Rattle.devices.specs.Field.{kind_of, state_of}
use Rattle.devices.specs.Row.{row, stored, with_value}
use Rattle.devices.proofs.Storing.{stored_other}
use Rattle.trpc.specs.Bytes.{bytes_of}
use Rattle.trpc.specs.Payload.{setting_payload}
use Rattle.trpc.specs.declared.properties.Properties.{Properties}
use Rattle.trpc.specs.declared.methods.GatewayMethod.{GatewayMethod}
use Rattle.trpc.specs.declared.methods.GatewayMethod.TheVariants.{NetworkError, ReportingEnable, FirmwareRevision, ProtocolVersion, DateTime}
use Rattle.transfer.specs.declared.draft.Draft.{Draft}
use Rattle.transfer.specs.declared.slots.Slot.{Slot}
use Rattle.transfer.specs.declared.slots.Item.{Item}
use Rattle.transfer.specs.declared.slots.Item.TheVariants.{OfGateway, OfRow}
use Rattle.transfer.specs.declared.slots.Part.{Part}
use Rattle.transfer.specs.declared.slots.Part.TheVariants.{Attributes, Version, State, Events, Value}
use Rattle.transfer.specs.Slots.{value_slots, row_slots, slots, slot_at}
use Rattle.transfer.specs.Contents.{value_payload, part_payload, payload_of, content_of}
use Rattle.transfer.specs.Carry.{value_in, took_value, took_part, took}

abbrev number : GatewayMethod → ℕ
number NetworkError = 0
number ReportingEnable = 1
number FirmwareRevision = 2
number ProtocolVersion = 3
number DateTime = 4

abbrev part_number : Part → ℕ
part_number Attributes = 0
part_number Version = 1
part_number State = 2
part_number Events = 3
part_number (Value x) = 4

abbrev apart_setting : Setting → Setting → Bool
apart_setting x y = not (eqb (kind_of x) (kind_of y) && eqb (state_of x) (state_of y))

apart_not : (x y : Setting) → apart_setting x y ≡ true → x ≡ y → ⊥
apart_not x y h e = false≢true (sym (rw (eq-eqb (kind_of x) (kind_of x) refl, eq-eqb (state_of x) (state_of x) refl)) ∙ ap (apart_setting x) e ∙ h)

abbrev apart_part : Part → Part → Bool
apart_part Attributes q = false
apart_part Version q = not (eqb (part_number Version) (part_number q))
apart_part State q = not (eqb (part_number State) (part_number q))
apart_part Events q = not (eqb (part_number Events) (part_number q))
apart_part (Value x) Attributes = true
apart_part (Value x) Version = true
apart_part (Value x) State = true
apart_part (Value x) Events = true
apart_part (Value x) (Value y) = apart_setting x y

abbrev pub apart : Item → Item → Bool
apart (OfGateway m) (OfGateway k) = not (eqb (number m) (number k))
apart (OfGateway m) (OfRow q) = true
apart (OfRow p) (OfGateway k) = true
apart (OfRow p) (OfRow q) = apart_part p q

value_kept : (g : Properties) (m k : GatewayMethod) (c : List ℕ) → not (eqb (number m) (number k)) ≡ true → value_payload (took_value g m c) k ≡ value_payload g k
unfolding value_payload took_value
value_kept g NetworkError NetworkError c e = absurd (false≢true e)
value_kept g NetworkError ReportingEnable c e = refl
value_kept g NetworkError FirmwareRevision c e = refl
value_kept g NetworkError ProtocolVersion c e = refl
value_kept g NetworkError DateTime c e = refl
value_kept g ReportingEnable NetworkError c e = refl
value_kept g ReportingEnable ReportingEnable c e = absurd (false≢true e)
value_kept g ReportingEnable FirmwareRevision c e = refl
value_kept g ReportingEnable ProtocolVersion c e = refl
value_kept g ReportingEnable DateTime c e = refl
value_kept g FirmwareRevision NetworkError c e = refl
value_kept g FirmwareRevision ReportingEnable c e = refl
value_kept g FirmwareRevision FirmwareRevision c e = absurd (false≢true e)
value_kept g FirmwareRevision ProtocolVersion c e = refl
value_kept g FirmwareRevision DateTime c e = refl
value_kept g ProtocolVersion NetworkError c e = refl
value_kept g ProtocolVersion ReportingEnable c e = refl
value_kept g ProtocolVersion FirmwareRevision c e = refl
value_kept g ProtocolVersion ProtocolVersion c e = absurd (false≢true e)
value_kept g ProtocolVersion DateTime c e = refl
value_kept g DateTime NetworkError c e = refl
value_kept g DateTime ReportingEnable c e = refl
value_kept g DateTime FirmwareRevision c e = refl
value_kept g DateTime ProtocolVersion c e = refl
value_kept g DateTime DateTime c e = absurd (false≢true e)

module _ (r : Row) where
  -- a stored value is of the mode and the three lists alone
  stored_kept : (a v m s e : ℕ) (y : Setting) → stored (row a v m r.mode s e r.cool r.slab r.fan) y ≡ stored r y
  unfolding stored
  stored_kept a v m s e Mode = refl
  stored_kept a v m s e (Cool n) = refl
  stored_kept a v m s e (Slab n) = refl
  stored_kept a v m s e (Fan n) = refl

  -- a value leaves all else of the row
  record Kept (w : Row) : Type 0 where
    is : w ≡ row r.address r.version r.mask w.mode r.state r.events w.cool w.slab w.fan

  with_kept : (x : Setting) (v : ℕ) → Kept (with_value r x v)
  unfolding with_value
  with_kept Mode v = record { is = refl }
  with_kept (Cool n) v = record { is = refl }
  with_kept (Slab n) v = record { is = refl }
  with_kept (Fan n) v = record { is = refl }

  with_part : (x : Setting) (v : ℕ) (q : Part) → apart_part (Value x) q ≡ true → part_payload (with_value r x v) q ≡ part_payload r q
  unfolding part_payload
  with_part x v Attributes e = ap (λ (w : Row). bytes_of 2 w.address ++ bytes_of 2 w.mask) (with_kept x v).is
  with_part x v Version e = ap (λ (w : Row). bytes_of 2 w.address ++ bytes_of 4 w.version) (with_kept x v).is
  with_part x v State e = ap (λ (w : Row). bytes_of 2 w.address ++ (w.state ∷ [])) (with_kept x v).is
  with_part x v Events e = ap (λ (w : Row). bytes_of 2 w.address ++ (w.events ∷ [])) (with_kept x v).is
  with_part x v (Value y) e =
      ap (λ (w : Row). setting_payload w.address y (stored (with_value r x v) y)) (with_kept x v).is
      ∙ ap (setting_payload r.address y) (stored_other r x y v (apart_not x y e))

  part_kept : (p q : Part) (c : List ℕ) → apart_part p q ≡ true → part_payload (took_part r p c) q ≡ part_payload r q
  unfolding part_payload took_part
  part_kept Attributes q c e = absurd (false≢true e)
  part_kept Version Attributes c e = refl
  part_kept Version Version c e = absurd (false≢true e)
  part_kept Version State c e = refl
  part_kept Version Events c e = refl
  part_kept Version (Value y) c e = ap (setting_payload r.address y) (stored_kept _ _ _ _ _ y)
  part_kept State Attributes c e = refl
  part_kept State Version c e = refl
  part_kept State State c e = absurd (false≢true e)
  part_kept State Events c e = refl
  part_kept State (Value y) c e = ap (setting_payload r.address y) (stored_kept _ _ _ _ _ y)
  part_kept Events Attributes c e = refl
  part_kept Events Version c e = refl
  part_kept Events State c e = refl
  part_kept Events Events c e = absurd (false≢true e)
  part_kept Events (Value y) c e = ap (setting_payload r.address y) (stored_kept _ _ _ _ _ y)
  part_kept (Value x) q c e = with_part x (value_in x c) q e

payload_kept : (d : Draft) (x y : Item) (c : List ℕ) → apart x y ≡ true → payload_of (took d x c) y ≡ payload_of d y
unfolding payload_of took
payload_kept d (OfGateway m) (OfGateway k) c e = value_kept d.properties m k c e
payload_kept d (OfGateway m) (OfRow q) c e = refl
payload_kept d (OfRow p) (OfGateway k) c e = refl
payload_kept d (OfRow p) (OfRow q) c e = part_kept d.row p q c e

-- of all earlier frames
pub contents_kept : (d : Draft) (x : Item) (c : List ℕ) (l : List Slot) → every (λ y. apart x y.item) l ≡ true
    → map (content_of (took d x c)) l ≡ map (content_of d) l
unfolding content_of
contents_kept d x c [] e = refl
contents_kept d x c (y ∷ l) e =
    let h = ap (λ (z : List ℕ). y.service ∷ (bytes_of 4 y.id ++ z)) (payload_kept d x y.item c (and_left _ _ e)) in
    let t = contents_kept d x c l (and_right (apart x y.item) (every (λ z. apart x z.item) l) e) in
    λ i. h i ∷ t i

-- a test of the first n numbers
abbrev tested : ℕ → (ℕ → Bool) → Bool
tested zero p = true
tested (suc n) p = p n && tested n p

tested_at : (n : ℕ) (p : ℕ → Bool) → tested n p ≡ true → (k : ℕ) → k < n → p k ≡ true
tested_at zero p e k h = absurd (omega arith)
tested_at (suc n) p e k h = go (eqb k n) refl (tested_at n p (and_right (p n) (tested n p) e) k)
  where
    go : (t : Bool) → eqb k n ≡ t → (k < n → p k ≡ true) → p k ≡ true
    go true z rest = ap p (eqb-true k n z) ∙ and_left _ _ e
    go false z rest = rest (let q = eqb-false k n z in omega arith)

abbrev is_row : Item → Bool
is_row (OfGateway m) = false
is_row (OfRow p) = true

values_tested : tested 5 (λ k. every (λ y. apart (slot_at k).item y.item) (take k value_slots)) ≡ true
unfolding slot_at slots value_slots row_slots
values_tested = refl

rows_tested : tested 26 (λ j. every (λ y. apart (slot_at (5 + j)).item y.item) (take j row_slots)) ≡ true
unfolding slot_at slots value_slots row_slots
rows_tested = refl

are_rows : tested 26 (λ j. is_row (slot_at (5 + j)).item) ≡ true
unfolding slot_at slots value_slots row_slots
are_rows = refl

pub values_kept : (d : Draft) (c : List ℕ) (k : ℕ) → k < 5 → map (content_of (took d (slot_at k).item c)) (take k value_slots) ≡ map (content_of d) (take k value_slots)
values_kept d c k h = contents_kept d (slot_at k).item c (take k value_slots) (tested_at 5 (λ k. every (λ y. apart (slot_at k).item y.item) (take k value_slots)) values_tested k h)

pub row_kept : (d : Draft) (c : List ℕ) (j : ℕ) → j < 26 → map (content_of (took d (slot_at (5 + j)).item c)) (take j row_slots) ≡ map (content_of d) (take j row_slots)
row_kept d c j h = contents_kept d (slot_at (5 + j)).item c (take j row_slots) (tested_at 26 (λ j. every (λ y. apart (slot_at (5 + j)).item y.item) (take j row_slots)) rows_tested j h)

pub properties_kept : (d : Draft) (c : List ℕ) (j : ℕ) → j < 26 → (took d (slot_at (5 + j)).item c).properties ≡ d.properties
unfolding took
properties_kept d c j h = go (slot_at (5 + j)).item (tested_at 26 (λ j. is_row (slot_at (5 + j)).item) are_rows j h)
  where
    go : (x : Item) → is_row x ≡ true → (took d x c).properties ≡ d.properties
    go (OfGateway m) e = absurd (false≢true e)
    go (OfRow p) e = refl
