-- The reader's test of a frame is document 02's list, item by item (specs/Due.antt): both ways. Assumes nothing.
use mathlib.Core.Path.{◌≡◌, refl, sym, ap, ◌∙◌, subst}
use mathlib.Core.Bool.{Bool, true, false, ◌&&◌}
use mathlib.Core.List.{List, [], ◌∷◌, ◌++◌}
use Prim.Native.Nat.{ℕ, zero, suc, ◌+◌, ◌<◌, ◌≤◌}
use native.Mathlib.Omega.{arith}
use lib.Dec.{eqb, ltb}
use lib.ListN.{length}
use borrow.Author.Tests.{eqb-true, eq-eqb, ltb-true}
use Rattle.lists.specs.Filter.{every}
use Rattle.lists.proofs.Filters.{and_left, and_right, every_at}
use Rattle.lists.proofs.Places.{places, all_places}
use Rattle.devices.specs.declared.field.Setting.{Setting}
use Rattle.devices.specs.declared.field.Setting.TheVariants.{Mode, Cool, Slab, Fan}
use Rattle.devices.specs.Row.{stored, with_value}
use Rattle.devices.proofs.Storing.{stored_same}
use Rattle.dates.specs.declared.date.Date.{Date}
use Rattle.dates.specs.Date.{valid_or, no_date, ValidOrNA}
use Rattle.dates.specs.Date.ValidOrNA.{is_na}
use Rattle.dates.proofs.Dates.{valid_or_same, valid_or_right}
use Rattle.trpc.specs.Bytes.{byte_at, word_at, long_at, bytes_of}
use Rattle.trpc.specs.Date.{date_in, date_payload}
use Rattle.trpc.specs.Payload.{flag, setting_payload}
use Rattle.trpc.specs.Judging.{record_type}
use Rattle.trpc.specs.Methods.{methods, entry_with}
use Rattle.trpc.specs.declared.methods.GatewayMethod.{GatewayMethod}
use Rattle.trpc.specs.declared.methods.GatewayMethod.TheVariants.{NetworkError, ReportingEnable, FirmwareRevision, ProtocolVersion, DateTime}
use Rattle.transfer.specs.declared.draft.Draft.{Draft}
use Rattle.transfer.specs.declared.slots.Slot.{Slot}
use Rattle.transfer.specs.declared.slots.Item.{Item}
use Rattle.transfer.specs.declared.slots.Item.TheVariants.{OfGateway, OfRow}
use Rattle.transfer.specs.declared.slots.Part.{Part}
use Rattle.transfer.specs.declared.slots.Part.TheVariants.{Attributes, Version, State, Events, Value}
use Rattle.transfer.specs.declared.reader.Reader.{Reader}
use Rattle.transfer.specs.Slots.{value_slots, row_slots, slots, slot_at}
use Rattle.transfer.specs.Contents.{value_payload, part_payload, payload_of, content_of}
use Rattle.transfer.specs.Carry.{value_in, took_value, took_part, took}
use Rattle.lists.specs.Equal.{equal}
use Rattle.transfer.specs.Reading.{next, is_due}
use Rattle.transfer.specs.Ready.{RowFits}
use Rattle.transfer.specs.Statement.{Bytes}
use Rattle.transfer.specs.Due.{listed_width, width_due, PartAddress, AddressDue, SettingState, PartState, StateDue, GatewayValue, ValueDue, Due}
use Rattle.transfer.specs.Met.{DueNow}
use Rattle.transfer.proofs.Widths.{setting_width, width_of, payload_width}
use Rattle.transfer.proofs.Listed.{thirty_one}
use Rattle.lists.proofs.Equals.{equal_self, equal_true}
use Rattle.transfer.proofs.Numbers.{word_back, long_back, word_bytes, long_bytes}
use Rattle.transfer.proofs.Copies.{date_back, with_address, later_setting, seven_place}
use Rattle.transfer.proofs.Fitting.{byte_below, year_below}

flag_due : (n : ℕ) → n ≤ 1 → n ≡ flag (eqb n 1)
flag_due zero h = refl
flag_due (suc zero) h = refl
flag_due (suc (suc n)) h = absurd (omega arith)

flag_few : (b : Bool) → flag b ≤ 1
flag_few true = omega arith
flag_few false = omega arith

-- the state of an item's setting is one of the seven
abbrev part_stands : Part → Bool
part_stands Attributes = true
part_stands Version = true
part_stands State = true
part_stands Events = true
part_stands (Value x) = later_setting x

abbrev stands : Item → Bool
stands (OfGateway m) = true
stands (OfRow p) = part_stands p

module _ (d : Draft) (fits : RowFits d.row) (c : List ℕ) (h : Bytes c) where
  word_here : (i : ℕ) → bytes_of 2 (word_at c i) ≡ byte_at c i ∷ byte_at c (i + 1) ∷ []
  word_here i = word_bytes (byte_at c i) (byte_at c (i + 1)) (byte_below c h i) (byte_below c h (i + 1))

  long_here : (i : ℕ) → bytes_of 4 (long_at c i) ≡ byte_at c i ∷ byte_at c (i + 1) ∷ byte_at c (i + 2) ∷ byte_at c (i + 2 + 1) ∷ []
  long_here i =
      long_bytes (byte_at c i) (byte_at c (i + 1)) (byte_at c (i + 2)) (byte_at c (i + 2 + 1))
      (byte_below c h i) (byte_below c h (i + 1)) (byte_below c h (i + 2)) (byte_below c h (i + 2 + 1))

  -- ---- what is made for what the content brings is due

  module _ (service id : ℕ) where
    abbrev made : List ℕ → List ℕ
    made fields = service ∷ (bytes_of 4 id ++ fields)

    address_read : (rest : List ℕ) → c ≡ made (bytes_of 2 d.row.address ++ rest) → word_at c 5 ≡ d.row.address
    address_read rest e = ap (λ (l : List ℕ). word_at l 5) e ∙ word_back d.row.address fits.address

    setting_address : (x : Setting) (v : ℕ) → c ≡ made (setting_payload d.row.address x v) → word_at c 5 ≡ d.row.address
    setting_address Mode v e = address_read (v ∷ []) e
    setting_address (Cool s) v e = address_read (s ∷ v ∷ []) e
    setting_address (Slab s) v e = address_read (s ∷ v ∷ []) e
    setting_address (Fan s) v e = address_read (s ∷ v ∷ []) e

    part_address : (p : Part) → c ≡ made (part_payload (took_part d.row p c) p) → PartAddress d.row p c
    unfolding part_payload took_part
    part_address Attributes e = tt
    part_address Version e = address_read (bytes_of 4 (long_at c 7)) e
    part_address State e = address_read (byte_at c 7 ∷ []) e
    part_address Events e = address_read (byte_at c 7 ∷ []) e
    part_address (Value x) e =
        let v = stored (with_value d.row x (value_in x c)) x in
        setting_address x v (e ∙ ap (λ (a : ℕ). made (setting_payload a x v)) (with_address d.row x (value_in x c)))

    part_state : (p : Part) → c ≡ made (part_payload (took_part d.row p c) p) → PartState p c
    unfolding part_payload took_part
    part_state Attributes e = tt
    part_state Version e = tt
    part_state State e = tt
    part_state Events e = tt
    part_state (Value Mode) e = tt
    part_state (Value (Cool s)) e = ap (λ (l : List ℕ). byte_at l 7) e
    part_state (Value (Slab s)) e = ap (λ (l : List ℕ). byte_at l 7) e
    part_state (Value (Fan s)) e = ap (λ (l : List ℕ). byte_at l 7) e

    gateway_value : (m : GatewayMethod) → c ≡ made (value_payload (took_value d.properties m c) m) → GatewayValue m c
    unfolding value_payload took_value
    gateway_value NetworkError e = tt
    gateway_value ReportingEnable e =
        let f : byte_at c 5 ≡ flag (eqb (byte_at c 5) 1) = ap (λ (l : List ℕ). byte_at l 5) e in
        omega (arith, f, flag_few (eqb (byte_at c 5) 1))
    gateway_value FirmwareRevision e = tt
    gateway_value ProtocolVersion e = tt
    gateway_value DateTime e =
        let a = valid_or (date_in c) no_date in
        let b = valid_or a no_date in
        let right : ValidOrNA a = valid_or_right (date_in c) no_date (is_na refl) in
        let same : b ≡ a = valid_or_same a right in
        let here : date_in c ≡ a =
        ap date_in e ∙ ap (λ (x : Date). date_in (made (date_payload x))) same ∙ date_back service id a (year_below c h) in
        subst ValidOrNA (sym here) right

    made_due : (x : Item) → id < 4294967296 → width_of x ≡ listed_width (entry_with id) → c ≡ made (payload_of (took d x c) x) → Due d.row (record { service = service; id = id; item = x }) record_type c
    unfolding payload_of took
    made_due x k w e = record {
      of_type = refl;
      service = ap (λ (l : List ℕ). byte_at l 0) e;
      method = ap (λ (l : List ℕ). long_at l 1) e ∙ long_back id k;
      width = omega (arith, ap length e, payload_width (took d x c) x, w);
      address = address x e;
      state = state x e;
      value = value x e;
    }
      where
        address : (x : Item) → c ≡ made (payload_of (took d x c) x) → AddressDue d.row x c
        address (OfGateway m) e = tt
        address (OfRow p) e = part_address p e

        state : (x : Item) → c ≡ made (payload_of (took d x c) x) → StateDue x c
        state (OfGateway m) e = tt
        state (OfRow p) e = part_state p e

        value : (x : Item) → c ≡ made (payload_of (took d x c) x) → ValueDue x c
        value (OfGateway m) e = gateway_value m e
        value (OfRow p) e = tt

  -- ---- what is due is what is made for what it brings

  date_made : places 0 7 5 c ≡ date_payload (date_in c)
  unfolding date_in
  date_made = ap (λ (l : List ℕ). l ++ (byte_at c 7 ∷ byte_at c 8 ∷ byte_at c 9 ∷ byte_at c 10 ∷ byte_at c 11 ∷ [])) (sym (word_here 5))

  value_made : (m : GatewayMethod) → GatewayValue m c → places 0 (width_of (OfGateway m)) 5 c ≡ value_payload (took_value d.properties m c) m
  unfolding value_payload took_value
  value_made NetworkError v = sym (word_here 5)
  value_made ReportingEnable v = ap (λ (n : ℕ). n ∷ []) (flag_due (byte_at c 5) v)
  value_made FirmwareRevision v = sym (word_here 5)
  value_made ProtocolVersion v = sym (word_here 5)
  value_made DateTime v =
      let a = valid_or (date_in c) no_date in
      let same : valid_or a no_date ≡ date_in c = valid_or_same a (valid_or_right (date_in c) no_date (is_na refl)) ∙ valid_or_same (date_in c) v in
      date_made ∙ ap date_payload (sym same)

  -- the address, then the rest
  after_address : (rest : List ℕ) → word_at c 5 ≡ d.row.address → byte_at c 5 ∷ byte_at c 6 ∷ rest ≡ bytes_of 2 d.row.address ++ rest
  after_address rest a = ap (λ (l : List ℕ). l ++ rest) (sym (word_here 5) ∙ ap (bytes_of 2) a)

  after_state : (n : ℕ) → word_at c 5 ≡ d.row.address → byte_at c 7 ≡ n → places 0 4 5 c ≡ bytes_of 2 d.row.address ++ (n ∷ byte_at c 8 ∷ [])
  after_state n a s = after_address (places 0 2 7 c) a ∙ ap (λ (z : ℕ). bytes_of 2 d.row.address ++ (z ∷ byte_at c 8 ∷ [])) s

  setting_made : (x : Setting) → word_at c 5 ≡ d.row.address → SettingState x c → places 0 (setting_width x) 5 c ≡ setting_payload d.row.address x (value_in x c)
  setting_made Mode a s = after_address (places 0 1 7 c) a
  setting_made (Cool n) a s = after_state n a s
  setting_made (Slab n) a s = after_state n a s
  setting_made (Fan n) a s = after_state n a s

  part_made : (p : Part) → part_stands p ≡ true → PartAddress d.row p c → PartState p c → places 0 (width_of (OfRow p)) 5 c ≡ part_payload (took_part d.row p c) p
  unfolding part_payload took_part
  part_made Attributes k a s = let x = word_here 5 in let y = word_here 7 in sym (λ i. x i ++ y i)
  part_made Version k a s = after_address (places 0 4 7 c) a ∙ ap (λ (l : List ℕ). bytes_of 2 d.row.address ++ l) (sym (long_here 7))
  part_made State k a s = after_address (places 0 1 7 c) a
  part_made Events k a s = after_address (places 0 1 7 c) a
  part_made (Value x) k a s =
      let v = value_in x c in
      setting_made x a s
      ∙ ap (setting_payload d.row.address x) (sym (stored_same d.row x v (seven_place d.row fits.cool fits.slab fits.fan x k)))
      ∙ ap (λ (z : ℕ). setting_payload z x (stored (with_value d.row x v) x)) (sym (with_address d.row x v))

  payload_made : (x : Item) → stands x ≡ true → AddressDue d.row x c → StateDue x c → ValueDue x c → places 0 (width_of x) 5 c ≡ payload_of (took d x c) x
  unfolding payload_of took
  payload_made (OfGateway m) k a s v = value_made m v
  payload_made (OfRow p) k a s v = part_made p k a s

  due_made : (s : Slot) (ptype : ℕ) → stands s.item ≡ true → width_of s.item ≡ width_due s → Due d.row s ptype c → c ≡ content_of (took d s.item c) s
  unfolding content_of
  due_made s ptype k here q =
      let w = width_of s.item in
      let n : length c ≡ suc (suc (suc (suc (suc w)))) = omega (arith, q.width, here) in
      let e = q.service in
      let f : byte_at c 1 ∷ byte_at c 2 ∷ byte_at c 3 ∷ byte_at c 4 ∷ [] ≡ bytes_of 4 s.id = sym (long_here 1) ∙ ap (bytes_of 4) q.method in
      let g = payload_made s.item k q.address q.state q.value in
      all_places 0 c (suc (suc (suc (suc (suc w))))) n ∙ (λ i. e i ∷ (f i ++ g i))

-- ---- the reader's test

-- each frame of the list has a state below seven, an ID of four bytes, and the width that document 01 has for it
abbrev fit : Slot → Bool
fit s = stands s.item && (ltb s.id 4294967296 && eqb (width_of s.item) (width_due s))

all_fit : every fit slots ≡ true
unfolding slots value_slots row_slots entry_with methods
all_fit = refl

module _ (r : Reader) (k : r.slot < 31) (fits : RowFits r.draft.row) (c : List ℕ) (h : Bytes c) where
  abbrev here : Slot
  here = slot_at r.slot

  in_list : fit here ≡ true
  unfolding slot_at
  in_list = every_at fit slots r.slot _ (omega (arith, thirty_one, k)) all_fit

  numbers : (ltb here.id 4294967296 && eqb (width_of here.item) (width_due here)) ≡ true
  numbers = and_right (stands here.item) _ in_list

  width_here : width_of here.item ≡ width_due here
  width_here = eqb-true (width_of here.item) (width_due here) (and_right (ltb here.id 4294967296) _ numbers)

  pub due_when : (ptype : ℕ) → DueNow r ptype c → is_due r ptype c ≡ true
  unfolding is_due
  due_when ptype q =
      let e = due_made r.draft fits c h here ptype (and_left _ _ in_list) width_here q in
      rw (eq-eqb ptype 6 q.of_type) (ap (equal c) (sym e) ∙ equal_self c)

  pub due_only : (ptype : ℕ) → is_due r ptype c ≡ true → DueNow r ptype c
  unfolding is_due content_of
  due_only ptype e =
      let t : ptype ≡ 6 = eqb-true ptype 6 (and_left _ _ e) in
      let a : c ≡ content_of (next r c) here = equal_true c (content_of (next r c) here) (and_right (eqb ptype 6) (equal c (content_of (next r c) here)) e) in
      subst (λ (n : ℕ). DueNow r n c) (sym t)
      (made_due r.draft fits c h here.service here.id here.item (ltb-true here.id 4294967296 (and_left _ _ numbers)) width_here a)
