-- The frame due at a place of a hand-over (document 02, M-112): what 24 looks at, item by item. That the reader's test is just this:
-- proofs/Dues.antt.
use Rattle.std.specs.Prelude.{ℕ, ◌+◌, ◌≤◌, ◌≡◌, List, length, Option, Some, None}
use Rattle.devices.specs.declared.row.Row.{Row}
use Rattle.devices.specs.declared.field.Setting.{Setting}
use Rattle.devices.specs.declared.field.Setting.TheVariants.{Mode, Cool, Slab, Fan}
use Rattle.dates.specs.Date.{ValidOrNA}
use Rattle.trpc.specs.Bytes.{byte_at, word_at, long_at}
use Rattle.trpc.specs.Date.{date_in}
use Rattle.trpc.specs.Judging.{record_type}
use Rattle.trpc.specs.Methods.{entry_with}
use Rattle.trpc.specs.declared.methods.Entry.{Entry}
use Rattle.trpc.specs.declared.methods.GatewayMethod.{GatewayMethod}
use Rattle.trpc.specs.declared.methods.GatewayMethod.TheVariants.{NetworkError, ReportingEnable, FirmwareRevision, ProtocolVersion, DateTime}
use Rattle.transfer.specs.declared.slots.Slot.{Slot}
use Rattle.transfer.specs.declared.slots.Item.{Item}
use Rattle.transfer.specs.declared.slots.Item.TheVariants.{OfGateway, OfRow}
use Rattle.transfer.specs.declared.slots.Part.{Part}
use Rattle.transfer.specs.declared.slots.Part.TheVariants.{Attributes, Version, State, Events, Value}

-- (01, "Bytes in all") the width that the line's list has for a method; (000) SetbackState, which is not in it: an address and a state
abbrev pub listed_width : Option Entry → ℕ
listed_width None = 3
listed_width (Some e) = e.width

-- (02) "width": of the fields, by the method's ID
abbrev pub width_due : Slot → ℕ
width_due s = listed_width (entry_with s.id)

-- (02) "address": in a row's frames but the first, which sets it, that of the row
abbrev pub PartAddress : Row → Part → List ℕ → Type 0
PartAddress r Attributes c = Unit {0}
PartAddress r Version c = word_at c 5 ≡ r.address
PartAddress r State c = word_at c 5 ≡ r.address
PartAddress r Events c = word_at c 5 ≡ r.address
PartAddress r (Value x) c = word_at c 5 ≡ r.address

-- (02) "address"; a value of the gateway has none
abbrev pub AddressDue : Row → Item → List ℕ → Type 0
AddressDue r (OfGateway m) c = Unit {0}
AddressDue r (OfRow p) c = PartAddress r p c

-- (02) "the state before a value", of cool, slab and fan; (01) the mode has none
abbrev pub SettingState : Setting → List ℕ → Type 0
SettingState Mode c = Unit {0}
SettingState (Cool s) c = byte_at c 7 ≡ s
SettingState (Slab s) c = byte_at c 7 ≡ s
SettingState (Fan s) c = byte_at c 7 ≡ s

-- (02) "the state before a value"; SetbackState's own state is no such one, it is carried
abbrev pub PartState : Part → List ℕ → Type 0
PartState Attributes c = Unit {0}
PartState Version c = Unit {0}
PartState State c = Unit {0}
PartState Events c = Unit {0}
PartState (Value x) c = SettingState x c

-- (02) "the state before a value"; a value of the gateway has none
abbrev pub StateDue : Item → List ℕ → Type 0
StateDue (OfGateway m) c = Unit {0}
StateDue (OfRow p) c = PartState p c

-- (02) not "with reporting above 1 or a date neither valid nor NA"
abbrev pub GatewayValue : GatewayMethod → List ℕ → Type 0
GatewayValue NetworkError c = Unit {0}
GatewayValue ReportingEnable c = byte_at c 5 ≤ 1
GatewayValue FirmwareRevision c = Unit {0}
GatewayValue ProtocolVersion c = Unit {0}
GatewayValue DateTime c = ValidOrNA (date_in c)

-- (02) the same of any frame; what a row's frames carry is not looked at here (ours, D-94)
abbrev pub ValueDue : Item → List ℕ → Type 0
ValueDue (OfGateway m) c = GatewayValue m c
ValueDue (OfRow p) c = Unit {0}

-- (02) the frame due at a place, in a row whose address is known: "type, service, method, width, address, the state before a value",
-- and a value that the frame may have. Nothing else is looked at: a bad row is 19, and not 24 (ours, D-94)
pub record Due (r : Row) (s : Slot) (ptype : ℕ) (c : List ℕ) : Type 0 where
  pub of_type : ptype ≡ record_type
  pub service : byte_at c 0 ≡ s.service
  pub method : long_at c 1 ≡ s.id
  pub width : length c ≡ 5 + width_due s
  pub address : AddressDue r s.item c
  pub state : StateDue s.item c
  pub value : ValueDue s.item c
