-- The twelve methods of document 01's list, in the order of their IDs.
use Rattle.std.specs.Prelude.{ℕ, List, [], ◌∷◌, Bool, true, false, ◌&&◌, cond, eqb, ltb, Option}
use Rattle.std.specs.List as list
use Rattle.devices.specs.declared.field.Setting.{Setting}
use Rattle.devices.specs.declared.field.Setting.TheVariants.{Mode, Cool, Slab, Fan}
use Rattle.trpc.specs.Services.{is_update}
use Rattle.trpc.specs.declared.methods.Entry.{Entry}
use Rattle.trpc.specs.declared.methods.OnUpdate.{OnUpdate}
use Rattle.trpc.specs.declared.methods.OnUpdate.TheVariants.{NotUsed, RepliesCurrent, SetsReporting, SetsDate, Queues}
use Rattle.trpc.specs.declared.methods.Method.{Method}
use Rattle.trpc.specs.declared.methods.Method.TheVariants.{OfGateway, OfDevice}
use Rattle.trpc.specs.declared.methods.GatewayMethod.TheVariants.{NetworkError, ReportingEnable, FirmwareRevision, ProtocolVersion, DateTime}
use Rattle.trpc.specs.declared.methods.DeviceMethod.{DeviceMethod}
use Rattle.trpc.specs.declared.methods.DeviceMethod.TheVariants.{DeviceAttributes, ModeSetting, CoolSetpoint, SlabSetpoint, FanPercent, SetbackEvents, DeviceVersion}

-- (01) an entry of the list: method, ID, bytes of its fields in all, whether a Request is used, what an Update does; the fields of a
-- device's method start with its address
abbrev pub entry : Method → ℕ → ℕ → Bool → OnUpdate → Entry
entry m i w r u = record { method = m; id = i; width = w; request = r; update = u }

-- (000, 01) ModeSetting: address, mode
abbrev pub mode_setting : Entry
mode_setting = entry (OfDevice ModeSetting) 0x127 3 true Queues

-- (000, 01) CoolSetpoint: address, state, value
abbrev pub cool_setpoint : Entry
cool_setpoint = entry (OfDevice CoolSetpoint) 0x147 4 true Queues

-- (000, 01) SlabSetpoint: address, state, value
abbrev pub slab_setpoint : Entry
slab_setpoint = entry (OfDevice SlabSetpoint) 0x14F 4 true Queues

-- (000, 01) FanPercent: address, state, value
abbrev pub fan_percent : Entry
fan_percent = entry (OfDevice FanPercent) 0x157 4 true Queues

-- (000, 01) DateTime: year, month, day, weekday, hour, minute; a Request is not used
abbrev pub date_time : Entry
date_time = entry (OfGateway DateTime) 0x1A7 7 false SetsDate

-- (01) the list; the Update of DeviceAttributes is not used (ours)
unfoldable pub methods : List Entry
methods =
    entry (OfGateway NetworkError) 0x107 2 true RepliesCurrent
    ∷ entry (OfGateway ReportingEnable) 0x10F 1 true SetsReporting
    ∷ entry (OfDevice DeviceAttributes) 0x11F 4 true NotUsed
    ∷ mode_setting
    ∷ cool_setpoint
    ∷ slab_setpoint
    ∷ fan_percent
    ∷ entry (OfDevice SetbackEvents) 0x17F 3 true RepliesCurrent
    ∷ entry (OfGateway FirmwareRevision) 0x187 2 true NotUsed
    ∷ entry (OfGateway ProtocolVersion) 0x18F 2 true NotUsed
    ∷ entry (OfDevice DeviceVersion) 0x19F 6 true NotUsed
    ∷ date_time
    ∷ []

-- (ours) every ID is above n, and each above the one before it
abbrev pub rises_from : ℕ → List Entry → Bool
rises_from n [] = true
rises_from n (e ∷ l) = ltb n e.id && rises_from e.id l

-- (01) the entry has this ID
abbrev pub has_id : ℕ → Entry → Bool
has_id id e = eqb e.id id

-- (01, 10) the entry with an ID, if the list has one
unfoldable pub entry_with : ℕ → Option Entry
entry_with id = list.find (has_id id) methods

-- (01: a field is an address, a method and a state) the entry of the method that sets a setting
abbrev pub entry_of : Setting → Entry
entry_of Mode = mode_setting
entry_of (Cool s) = cool_setpoint
entry_of (Slab s) = slab_setpoint
entry_of (Fan s) = fan_percent

-- (01's column 'Update') an Update is used
abbrev pub used : OnUpdate → Bool
used NotUsed = false
used RepliesCurrent = true
used SetsReporting = true
used SetsDate = true
used Queues = true

-- (01, 11) whether an accepted service, Update or Request, is used with the method
unfoldable pub used_with : Entry → ℕ → Bool
used_with e service = cond (is_update service) (used e.update) e.request

-- (01) a state stands after the address
abbrev pub has_state : DeviceMethod → Bool
has_state DeviceAttributes = false
has_state ModeSetting = false
has_state CoolSetpoint = true
has_state SlabSetpoint = true
has_state FanPercent = true
has_state SetbackEvents = false
has_state DeviceVersion = false

-- (01, 14) the byte after the address is a state, and above 7
abbrev pub too_high : DeviceMethod → ℕ → Bool
too_high m b = has_state m && ltb 7 b
