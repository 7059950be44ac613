-- The list of methods: its IDs rise, each method has one entry, and what looking an entry up tells. Assumes nothing.
use mathlib.Core.Path.{◌≡◌, refl, sym, ap, ◌∙◌}
use mathlib.Core.Bool.{true, false}
use mathlib.Core.Logic.{◌≢◌}
use mathlib.Core.List.{map, Memᴰ}
use Prim.Native.Nat.{ℕ}
use Rattle.std.specs.Prelude.{Some, None}
use borrow.Author.Tests.{eqb-true, eqb-false, ne_eqb}
use Rattle.lists.specs.Filter.{All}
use Rattle.lists.proofs.Filters.{all_imp}
use Rattle.lists.proofs.Members.{mem_map_same}
use Rattle.devices.specs.declared.field.Setting.{Setting}
use Rattle.devices.specs.declared.field.Setting.TheVariants.{Mode, Cool, Slab, Fan}
use Rattle.trpc.specs.Methods.{entry, mode_setting, cool_setpoint, slab_setpoint, fan_percent, methods, rises_from, has_id, entry_with, entry_of}
use Rattle.trpc.specs.declared.methods.Entry.{Entry}
use Rattle.trpc.specs.declared.methods.OnUpdate.TheVariants.{NotUsed, RepliesCurrent, SetsReporting, SetsDate}
use Rattle.trpc.specs.declared.methods.Method.{Method}
use Rattle.trpc.specs.declared.methods.Method.TheVariants.{OfGateway, OfDevice}
use Rattle.trpc.specs.declared.methods.GatewayMethod.TheVariants.{NetworkError, ReportingEnable, FirmwareRevision, ProtocolVersion, DateTime}
use Rattle.trpc.specs.declared.methods.DeviceMethod.TheVariants.{DeviceAttributes, ModeSetting, CoolSetpoint, SlabSetpoint, FanPercent, SetbackEvents, DeviceVersion}
use Rattle.trpc.proofs.Finds.{found_told, none_told, none_is}

pub ids_rise : rises_from 0 methods ≡ true
unfolding methods
ids_rise = refl

-- ---- the entry with an ID

pub entry_member : (id : ℕ) (e : Entry) → entry_with id ≡ Some e → Memᴰ e methods
unfolding entry_with
entry_member id e h = (found_told (has_id id) methods e h).member

pub entry_id : (id : ℕ) (e : Entry) → entry_with id ≡ Some e → e.id ≡ id
unfolding entry_with
entry_id id e h = eqb-true e.id id (found_told (has_id id) methods e h).passes

-- there is none exactly where no entry has the ID
pub no_entry : (id : ℕ) → entry_with id ≡ None → All (λ e. e.id ≢ id) methods
unfolding entry_with
no_entry id h = all_imp _ _ (λ e k. eqb-false e.id id k) methods (none_told (has_id id) methods h)

pub no_entry_when : (id : ℕ) → All (λ e. e.id ≢ id) methods → entry_with id ≡ None
unfolding entry_with
no_entry_when id h = none_is (has_id id) methods (all_imp _ _ (λ e k. ne_eqb e.id id k) methods h)

-- ---- the entry of a method

abbrev pub entry_by : Method → Entry
entry_by (OfGateway NetworkError) = entry (OfGateway NetworkError) 0x107 2 true RepliesCurrent
entry_by (OfGateway ReportingEnable) = entry (OfGateway ReportingEnable) 0x10F 1 true SetsReporting
entry_by (OfGateway FirmwareRevision) = entry (OfGateway FirmwareRevision) 0x187 2 true NotUsed
entry_by (OfGateway ProtocolVersion) = entry (OfGateway ProtocolVersion) 0x18F 2 true NotUsed
entry_by (OfGateway DateTime) = entry (OfGateway DateTime) 0x1A7 7 false SetsDate
entry_by (OfDevice DeviceAttributes) = entry (OfDevice DeviceAttributes) 0x11F 4 true NotUsed
entry_by (OfDevice ModeSetting) = mode_setting
entry_by (OfDevice CoolSetpoint) = cool_setpoint
entry_by (OfDevice SlabSetpoint) = slab_setpoint
entry_by (OfDevice FanPercent) = fan_percent
entry_by (OfDevice SetbackEvents) = entry (OfDevice SetbackEvents) 0x17F 3 true RepliesCurrent
entry_by (OfDevice DeviceVersion) = entry (OfDevice DeviceVersion) 0x19F 6 true NotUsed

all_by_method : map (λ e. entry_by e.method) methods ≡ map (λ e. e) methods
unfolding methods
all_by_method = refl

-- an entry that was looked up is the one of its method
pub entry_by_lem : (id : ℕ) (e : Entry) → entry_with id ≡ Some e → entry_by e.method ≡ e
entry_by_lem id e h = mem_map_same (λ e. entry_by e.method) (λ e. e) all_by_method (entry_member id e h)

setting_by : (x : Setting) → entry_by (entry_of x).method ≡ entry_of x
setting_by Mode = refl
setting_by (Cool s) = refl
setting_by (Slab s) = refl
setting_by (Fan s) = refl

-- an entry with the method that sets a setting is that method's entry
pub entry_setting : (id : ℕ) (e : Entry) (x : Setting) → entry_with id ≡ Some e → e.method ≡ (entry_of x).method → e ≡ entry_of x
entry_setting id e x h m = sym (entry_by_lem id e h) ∙ ap entry_by m ∙ setting_by x
