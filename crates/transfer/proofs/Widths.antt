-- A payload has the width that its frame is due with, by document 01's list, and no content has over 12 bytes. Assumes nothing.
use mathlib.Core.Path.{◌≡◌, refl}
use Prim.Native.Nat.{ℕ, ◌≤◌}
use native.Mathlib.Omega.{arith}
use lib.ListN.{length}
use Rattle.devices.specs.declared.row.Row.{Row}
use Rattle.devices.specs.declared.field.Setting.{Setting}
use Rattle.devices.specs.declared.field.Setting.TheVariants.{Mode, Cool, Slab, Fan}
use Rattle.devices.specs.Row.{stored}
use Rattle.trpc.specs.Payload.{setting_payload}
use Rattle.trpc.specs.declared.properties.Properties.{Properties}
use Rattle.trpc.specs.declared.methods.GatewayMethod.{GatewayMethod}
use Rattle.trpc.specs.declared.methods.GatewayMethod.TheVariants.{NetworkError, ReportingEnable, FirmwareRevision, ProtocolVersion, DateTime}
use Rattle.transfer.specs.declared.draft.Draft.{Draft}
use Rattle.transfer.specs.declared.slots.Slot.{Slot}
use Rattle.transfer.specs.declared.slots.Item.{Item}
use Rattle.transfer.specs.declared.slots.Item.TheVariants.{OfGateway, OfRow}
use Rattle.transfer.specs.declared.slots.Part.{Part}
use Rattle.transfer.specs.declared.slots.Part.TheVariants.{Attributes, Version, State, Events, Value}
use Rattle.transfer.specs.Contents.{value_payload, part_payload, payload_of, content_of}

-- the width of a payload, by what it carries
abbrev pub value_width : GatewayMethod → ℕ
value_width NetworkError = 2
value_width ReportingEnable = 1
value_width FirmwareRevision = 2
value_width ProtocolVersion = 2
value_width DateTime = 7

abbrev pub setting_width : Setting → ℕ
setting_width Mode = 3
setting_width (Cool s) = 4
setting_width (Slab s) = 4
setting_width (Fan s) = 4

abbrev pub part_width : Part → ℕ
part_width Attributes = 4
part_width Version = 6
part_width State = 3
part_width Events = 3
part_width (Value x) = setting_width x

abbrev pub width_of : Item → ℕ
width_of (OfGateway m) = value_width m
width_of (OfRow p) = part_width p

value_width_lem : (g : Properties) (m : GatewayMethod) → length (value_payload g m) ≡ value_width m
unfolding value_payload
value_width_lem g NetworkError = refl
value_width_lem g ReportingEnable = refl
value_width_lem g FirmwareRevision = refl
value_width_lem g ProtocolVersion = refl
value_width_lem g DateTime = refl

setting_width_lem : (a : ℕ) (x : Setting) (v : ℕ) → length (setting_payload a x v) ≡ setting_width x
setting_width_lem a Mode v = refl
setting_width_lem a (Cool s) v = refl
setting_width_lem a (Slab s) v = refl
setting_width_lem a (Fan s) v = refl

part_width_lem : (r : Row) (p : Part) → length (part_payload r p) ≡ part_width p
unfolding part_payload
part_width_lem r Attributes = refl
part_width_lem r Version = refl
part_width_lem r State = refl
part_width_lem r Events = refl
part_width_lem r (Value x) = setting_width_lem r.address x (stored r x)

pub payload_width : (d : Draft) (x : Item) → length (payload_of d x) ≡ width_of x
unfolding payload_of
payload_width d (OfGateway m) = value_width_lem d.properties m
payload_width d (OfRow p) = part_width_lem d.row p

-- at most seven bytes
value_few : (m : GatewayMethod) → value_width m ≤ 7
value_few NetworkError = omega arith
value_few ReportingEnable = omega arith
value_few FirmwareRevision = omega arith
value_few ProtocolVersion = omega arith
value_few DateTime = omega arith

setting_few : (x : Setting) → setting_width x ≤ 7
setting_few Mode = omega arith
setting_few (Cool s) = omega arith
setting_few (Slab s) = omega arith
setting_few (Fan s) = omega arith

part_few : (p : Part) → part_width p ≤ 7
part_few Attributes = omega arith
part_few Version = omega arith
part_few State = omega arith
part_few Events = omega arith
part_few (Value x) = setting_few x

width_few : (x : Item) → width_of x ≤ 7
width_few (OfGateway m) = value_few m
width_few (OfRow p) = part_few p

pub content_few : (d : Draft) (s : Slot) → length (content_of d s) ≤ 12
unfolding content_of
content_few d s = omega (arith, payload_width d s.item, width_few s.item)
