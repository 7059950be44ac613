-- The payload of a reply: the bytes of its method's fields (000, 01's list of methods).
use Rattle.std.specs.Prelude.{ℕ, List, [], ◌∷◌, ◌++◌, Bool, cond, length}
use Rattle.devices.specs.declared.row.Row.{Row}
use Rattle.devices.specs.declared.field.Setting.{Setting}
use Rattle.devices.specs.declared.field.Setting.TheVariants.{Mode, Cool, Slab, Fan}
use Rattle.devices.specs.Row.{in_force, state_for}
use Rattle.trpc.specs.Bytes.{byte_at, bytes_of, pad}
use Rattle.dates.specs.Date.{valid_or, no_date}
use Rattle.trpc.specs.Date.{date_in, date_payload}
use Rattle.trpc.specs.declared.payload.Payload.{Payload}
use Rattle.trpc.specs.declared.properties.Properties.{Properties}
use Rattle.trpc.specs.declared.methods.GatewayMethod.{GatewayMethod}
use Rattle.trpc.specs.declared.methods.GatewayMethod.TheVariants.{NetworkError, ReportingEnable, FirmwareRevision, ProtocolVersion, DateTime}
use Rattle.trpc.specs.declared.methods.DeviceMethod.{DeviceMethod}
use Rattle.trpc.specs.declared.methods.DeviceMethod.TheVariants.{DeviceAttributes, ModeSetting, CoolSetpoint, SlabSetpoint, FanPercent, SetbackEvents, DeviceVersion}

-- (ours) the payload as the struct has it: seven places, with zeros after the bytes
abbrev pub packed : List ℕ → Payload
packed l = record { len = length l; bytes = pad 7 l }

-- (01) ReportingEnable's byte: 1 where reporting is on, else 0
abbrev pub flag : Bool → ℕ
flag b = cond b 1 0

-- (01) address, state where the setting has one, value
abbrev pub setting_payload : ℕ → Setting → ℕ → List ℕ
setting_payload a Mode v = bytes_of 2 a ++ (v ∷ [])
setting_payload a (Cool s) v = bytes_of 2 a ++ (s ∷ v ∷ [])
setting_payload a (Slab s) v = bytes_of 2 a ++ (s ∷ v ∷ [])
setting_payload a (Fan s) v = bytes_of 2 a ++ (s ∷ v ∷ [])

-- (01) with the value in force, not the value sent (ours, D-30)
abbrev pub in_force_payload : Row → Setting → List ℕ
in_force_payload r x = setting_payload r.address x (in_force r x)

-- (01) of a method of the gateway, by its properties after the record; a date that is not valid is answered by NA in all fields
unfoldable pub gateway_payload : Properties → GatewayMethod → List ℕ → List ℕ
gateway_payload g NetworkError c = bytes_of 2 g.error
gateway_payload g ReportingEnable c = flag g.reporting ∷ []
gateway_payload g FirmwareRevision c = bytes_of 2 g.firmware
gateway_payload g ProtocolVersion c = bytes_of 2 g.protocol
gateway_payload g DateTime c = date_payload (valid_or (date_in c) no_date)

-- (01) of a method of a device, by its row; a state is the one that state 7 stood for
unfoldable pub device_payload : Row → DeviceMethod → List ℕ → List ℕ
device_payload r DeviceAttributes c = bytes_of 2 r.address ++ bytes_of 2 r.mask
device_payload r ModeSetting c = in_force_payload r Mode
device_payload r CoolSetpoint c = in_force_payload r (Cool (state_for r (byte_at c 7)))
device_payload r SlabSetpoint c = in_force_payload r (Slab (state_for r (byte_at c 7)))
device_payload r FanPercent c = in_force_payload r (Fan (state_for r (byte_at c 7)))
device_payload r SetbackEvents c = bytes_of 2 r.address ++ (r.events ∷ [])
device_payload r DeviceVersion c = bytes_of 2 r.address ++ bytes_of 4 r.version
