-- What a content made for some values and a row brings to others: just its own value. Assumes nothing.
use mathlib.Core.Path.{◌≡◌, refl, sym, ap, ◌∙◌}
use mathlib.Core.Bool.{Bool, true, false, false≢true}
use mathlib.Core.List.{List, [], ◌∷◌, ◌++◌}
use Prim.Native.Nat.{ℕ, ◌<◌}
use native.Mathlib.Omega.{arith}
use lib.Dec.{eqb, ltb}
use lib.ListN.{length, replicate, length-set}
use borrow.Author.Tests.{ltb-true}
use Rattle.lists.proofs.Places.{all_places}
use Rattle.devices.specs.declared.row.Row.{Row}
use Rattle.devices.specs.declared.field.Setting.{Setting}
use Rattle.devices.specs.declared.field.Setting.TheVariants.{Mode, Cool, Slab, Fan}
use Rattle.devices.specs.Row.{row, stored, with_value}
use Rattle.devices.proofs.Storing.{Place, stored_same}
use Rattle.trpc.specs.Bytes.{bytes_of}
use Rattle.trpc.specs.Payload.{flag, setting_payload}
use Rattle.dates.specs.Date.{date, valid_or, no_date}
use Rattle.trpc.specs.Date.{date_in, date_payload}
use Rattle.trpc.specs.Properties.{properties}
use Rattle.dates.specs.declared.date.Date.{Date}
use Rattle.trpc.specs.declared.properties.Properties.{Properties}
use Rattle.trpc.specs.declared.methods.GatewayMethod.{GatewayMethod}
use Rattle.trpc.specs.declared.methods.GatewayMethod.TheVariants.{NetworkError, ReportingEnable, FirmwareRevision, ProtocolVersion, DateTime}
use Rattle.transfer.specs.declared.draft.Draft.{Draft}
use Rattle.transfer.specs.declared.slots.Slot.{Slot}
use Rattle.transfer.specs.declared.slots.Item.{Item}
use Rattle.transfer.specs.declared.slots.Item.TheVariants.{OfGateway, OfRow}
use Rattle.transfer.specs.declared.slots.Part.{Part}
use Rattle.transfer.specs.declared.slots.Part.TheVariants.{Attributes, Version, State, Events, Value}
use Rattle.transfer.specs.Slots.{value_slots, row_slots}
use Rattle.transfer.specs.Contents.{draft, value_payload, part_payload, payload_of, content_of}
use Rattle.transfer.specs.Ready.{PropertiesFit, RowFits}
use Rattle.transfer.specs.Carry.{value_in, took_value, took_part, took}
use Rattle.transfer.proofs.Numbers.{word_back, long_back}

-- one value of a draft copied into another
abbrev pub copied_value : Properties → Properties → GatewayMethod → Properties
copied_value g h NetworkError = properties h.error g.reporting g.firmware g.protocol g.date
copied_value g h ReportingEnable = properties g.error h.reporting g.firmware g.protocol g.date
copied_value g h FirmwareRevision = properties g.error g.reporting h.firmware g.protocol g.date
copied_value g h ProtocolVersion = properties g.error g.reporting g.firmware h.protocol g.date
copied_value g h DateTime = properties g.error g.reporting g.firmware g.protocol h.date

abbrev pub copied_part : Row → Row → Part → Row
copied_part r q Attributes = row q.address 0 q.mask 0 0 0 (replicate 7 0) (replicate 7 0) (replicate 7 0)
copied_part r q Version = row r.address q.version r.mask r.mode r.state r.events r.cool r.slab r.fan
copied_part r q State = row r.address r.version r.mask r.mode q.state r.events r.cool r.slab r.fan
copied_part r q Events = row r.address r.version r.mask r.mode r.state q.events r.cool r.slab r.fan
copied_part r q (Value x) = with_value r x (stored q x)

abbrev pub copied : Draft → Draft → Item → Draft
copied d t (OfGateway m) = draft (copied_value d.properties t.properties m) d.row
copied d t (OfRow p) = draft d.properties (copied_part d.row t.row p)

flag_back : (b : Bool) → eqb (flag b) 1 ≡ b
flag_back true = refl
flag_back false = refl

pub date_back : (service id : ℕ) (d : Date) → d.year < 65536 → date_in (service ∷ (bytes_of 4 id ++ date_payload d)) ≡ d
unfolding date_in
date_back service id d h = let y = word_back d.year h in λ i. date (y i) d.month d.day d.weekday d.hour d.minute

module _ (service id : ℕ) where
  abbrev made : List ℕ → List ℕ
  made fields = service ∷ (bytes_of 4 id ++ fields)

  took_value_lem : (g h : Properties) → PropertiesFit h → (m : GatewayMethod) → took_value g m (made (value_payload h m)) ≡ copied_value g h m
  unfolding took_value value_payload
  took_value_lem g h k NetworkError = let e = word_back h.error k.error in λ i. properties (e i) g.reporting g.firmware g.protocol g.date
  took_value_lem g h k ReportingEnable = let e = flag_back h.reporting in λ i. properties g.error (e i) g.firmware g.protocol g.date
  took_value_lem g h k FirmwareRevision = let e = word_back h.firmware k.firmware in λ i. properties g.error g.reporting (e i) g.protocol g.date
  took_value_lem g h k ProtocolVersion = let e = word_back h.protocol k.protocol in λ i. properties g.error g.reporting g.firmware (e i) g.date
  took_value_lem g h k DateTime =
      let e : valid_or (date_in (made (date_payload (valid_or h.date no_date)))) no_date ≡ h.date =
      ap (λ (d : Date). valid_or (date_in (made (date_payload d))) no_date) k.settled ∙ ap (λ (d : Date). valid_or d no_date) (date_back service id h.date k.year) ∙ k.settled in
      λ i. properties g.error g.reporting g.firmware g.protocol (e i)

  value_back : (a : ℕ) (x : Setting) (v : ℕ) → value_in x (made (setting_payload a x v)) ≡ v
  value_back a Mode v = refl
  value_back a (Cool s) v = refl
  value_back a (Slab s) v = refl
  value_back a (Fan s) v = refl

  took_part_lem : (r q : Row) → RowFits q → (p : Part) → took_part r p (made (part_payload q p)) ≡ copied_part r q p
  unfolding took_part part_payload
  took_part_lem r q k Attributes =
      let a = word_back q.address k.address in
      let m = word_back q.mask k.mask in
      λ i. row (a i) 0 (m i) 0 0 0 (replicate 7 0) (replicate 7 0) (replicate 7 0)
  took_part_lem r q k Version = let v = long_back q.version k.version in λ i. row r.address (v i) r.mask r.mode r.state r.events r.cool r.slab r.fan
  took_part_lem r q k State = refl
  took_part_lem r q k Events = refl
  took_part_lem r q k (Value x) = ap (with_value r x) (value_back q.address x (stored q x))

-- what the content brings is the value that it was made for
pub took_copied : (d t : Draft) → PropertiesFit t.properties → RowFits t.row → (s : Slot) → took d s.item (content_of t s) ≡ copied d t s.item
unfolding content_of took payload_of
took_copied d t k l s = go s.item
  where
    go : (x : Item) → took d x (s.service ∷ (bytes_of 4 s.id ++ payload_of t x)) ≡ copied d t x
    go (OfGateway m) = ap (λ (g : Properties). draft g d.row) (took_value_lem s.service s.id d.properties t.properties k m)
    go (OfRow p) = ap (λ (r : Row). draft d.properties r) (took_part_lem s.service s.id d.row t.row l p)

-- the row has its address, and seven values of each kind
pub record Begun (d t : Draft) : Type 0 where
  pub address : d.row.address ≡ t.row.address
  pub cool : length d.row.cool ≡ 7
  pub slab : length d.row.slab ≡ 7
  pub fan : length d.row.fan ≡ 7

-- the frames behind a row's first
abbrev pub later_setting : Setting → Bool
later_setting Mode = true
later_setting (Cool s) = ltb s 7
later_setting (Slab s) = ltb s 7
later_setting (Fan s) = ltb s 7

abbrev pub later_part : Part → Bool
later_part Attributes = false
later_part Version = true
later_part State = true
later_part Events = true
later_part (Value x) = later_setting x

abbrev pub later_item : Item → Bool
later_item (OfGateway m) = false
later_item (OfRow p) = later_part p

abbrev pub later : Slot → Bool
later s = later_item s.item

abbrev pub is_value : Item → Bool
is_value (OfGateway m) = true
is_value (OfRow p) = false

same_value : (g h : Properties) (m : GatewayMethod) → value_payload (copied_value g h m) m ≡ value_payload h m
unfolding value_payload
same_value g h NetworkError = refl
same_value g h ReportingEnable = refl
same_value g h FirmwareRevision = refl
same_value g h ProtocolVersion = refl
same_value g h DateTime = refl

pub with_address : (r : Row) (x : Setting) (v : ℕ) → (with_value r x v).address ≡ r.address
unfolding with_value
with_address r Mode v = refl
with_address r (Cool s) v = refl
with_address r (Slab s) v = refl
with_address r (Fan s) v = refl

-- a row with seven values of each kind has a place for each
pub seven_place : (r : Row) → length r.cool ≡ 7 → length r.slab ≡ 7 → length r.fan ≡ 7 → (x : Setting) → later_setting x ≡ true → Place r x
seven_place r a b c Mode e = tt
seven_place r a b c (Cool s) e = omega (arith, ltb-true s 7 e, a)
seven_place r a b c (Slab s) e = omega (arith, ltb-true s 7 e, b)
seven_place r a b c (Fan s) e = omega (arith, ltb-true s 7 e, c)

module _ (d t : Draft) where
  pub payload_of_value : (x : Item) → is_value x ≡ true → payload_of (copied d t x) x ≡ payload_of t x
  unfolding payload_of
  payload_of_value (OfGateway m) e = same_value d.properties t.properties m
  payload_of_value (OfRow p) e = absurd (false≢true e)

  pub payload_of_first : payload_of (copied d t (OfRow Attributes)) (OfRow Attributes) ≡ payload_of t (OfRow Attributes)
  unfolding payload_of part_payload
  payload_of_first = refl

  pub begun_first : Begun (copied d t (OfRow Attributes)) t
  begun_first = record { address = refl; cool = refl; slab = refl; fan = refl }

  module _ (b : Begun d t) where
    same_part : (p : Part) → later_part p ≡ true → part_payload (copied_part d.row t.row p) p ≡ part_payload t.row p
    unfolding part_payload
    same_part Attributes e = absurd (false≢true e)
    same_part Version e = rw b.address
    same_part State e = rw b.address
    same_part Events e = rw b.address
    same_part (Value x) e =
        let v = stored t.row x in
        ap (λ (w : ℕ). setting_payload (with_value d.row x v).address x w) (stored_same d.row x v (seven_place d.row b.cool b.slab b.fan x e))
        ∙ ap (λ (a : ℕ). setting_payload a x v) (with_address d.row x v ∙ b.address)

    pub payload_of_later : (x : Item) → later_item x ≡ true → payload_of (copied d t x) x ≡ payload_of t x
    unfolding payload_of
    payload_of_later (OfGateway m) e = absurd (false≢true e)
    payload_of_later (OfRow p) e = same_part p e

    begun_value : (x : Setting) → Begun (copied d t (OfRow (Value x))) t
    unfolding with_value
    begun_value Mode = record { address = b.address; cool = b.cool; slab = b.slab; fan = b.fan }
    begun_value (Cool s) = record { address = b.address; cool = length-set d.row.cool s _ ∙ b.cool; slab = b.slab; fan = b.fan }
    begun_value (Slab s) = record { address = b.address; cool = b.cool; slab = length-set d.row.slab s _ ∙ b.slab; fan = b.fan }
    begun_value (Fan s) = record { address = b.address; cool = b.cool; slab = b.slab; fan = length-set d.row.fan s _ ∙ b.fan }

    begun_part : (p : Part) → later_part p ≡ true → Begun (copied d t (OfRow p)) t
    begun_part Attributes e = absurd (false≢true e)
    begun_part Version e = record { address = b.address; cool = b.cool; slab = b.slab; fan = b.fan }
    begun_part State e = record { address = b.address; cool = b.cool; slab = b.slab; fan = b.fan }
    begun_part Events e = record { address = b.address; cool = b.cool; slab = b.slab; fan = b.fan }
    begun_part (Value x) e = begun_value x

    pub begun_later : (x : Item) → later_item x ≡ true → Begun (copied d t x) t
    begun_later (OfGateway m) e = absurd (false≢true e)
    begun_later (OfRow p) e = begun_part p e

-- one after the other
abbrev pub copied_all : Draft → Draft → List Slot → Draft
copied_all d t [] = d
copied_all d t (s ∷ l) = copied_all (copied d t s.item) t l

pub values_copied : (d t : Draft) → copied_all d t value_slots ≡ draft t.properties d.row
unfolding value_slots
values_copied d t = refl

pub row_copied : (d t : Draft) → RowFits t.row → copied_all d t row_slots ≡ draft d.properties t.row
unfolding row_slots with_value stored
row_copied d t k =
    let r = t.row in
    let c = sym (all_places 0xFF r.cool 7 k.cool) in
    let s = sym (all_places 0xFF r.slab 7 k.slab) in
    let f = sym (all_places 0xFF r.fan 7 k.fan) in
    λ i. draft d.properties (row r.address r.version r.mask r.mode r.state r.events (c i) (s i) (f i))
