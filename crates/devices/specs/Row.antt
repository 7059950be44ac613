-- A device's row: what a device has, the values that it may hold, the rules of a row, and the row with one value replaced.
use Rattle.std.specs.Prelude.{ℕ, List, [], ◌∷◌, Bool, true, not, ◌&&◌, ◌||◌, cond, get_or, set, replicate, leb, eqb}
use Rattle.std.specs.Int.Bits.{bit_and}
use Rattle.lists.specs.Filter.{every}
use Rattle.devices.specs.declared.field.Setting.{Setting}
use Rattle.devices.specs.declared.field.Setting.TheVariants.{Mode, Cool, Slab, Fan}
use Rattle.devices.specs.declared.row.Row.{Row}

-- (01) the attribute bits of a mask: heating
abbrev pub heating : ℕ
heating = 1

-- (01) cooling
abbrev pub cooling : ℕ
cooling = 2

-- (01) the slab setpoint
abbrev pub slab : ℕ
slab = 4

-- (01) fan
abbrev pub fan : ℕ
fan = 8

-- (01) the mask has the attribute
abbrev pub has_bit : ℕ → ℕ → Bool
has_bit mask bit = not (eqb (bit_and mask bit) 0)

-- (000, 01) not available, in 8 bits
abbrev pub not_available : ℕ
not_available = 0xFF

-- (01) a device has values for seven states
abbrev pub state_count : ℕ
state_count = 7

-- (01) the last of them
abbrev pub last_state : ℕ
last_state = 6

-- (000, 01) THA_CURRENT: in a frame it stands for the device's current state
abbrev pub current_state : ℕ
current_state = 7

-- (01) the mode Emergency
abbrev pub emergency : ℕ
emergency = 6

-- (ours) an address is not 0
abbrev pub address_legal : ℕ → Bool
address_legal a = not (eqb a 0)

-- (ours) a mask has no bits but the four attributes
abbrev pub mask_legal : ℕ → Bool
mask_legal m = leb m 15

-- (01) a state is 0 to 6
abbrev pub state_legal : ℕ → Bool
state_legal s = leb s last_state

-- (01) setback events are 0 to 2
abbrev pub events_legal : ℕ → Bool
events_legal e = leb e 2

-- (01) a device with the mask has a value for the state, of the setting that needs the bit
unfoldable pub for_state : ℕ → ℕ → ℕ → Bool
for_state mask bit s = state_legal s && has_bit mask bit

-- (01) the device has the setting: cool needs cooling, slab slab, fan fan
unfoldable pub has : Row → Setting → Bool
has r Mode = true
has r (Cool s) = for_state r.mask cooling s
has r (Slab s) = for_state r.mask slab s
has r (Fan s) = for_state r.mask fan s

-- (01) the value that the row holds; (ours, D-29) there is none for a state above 6
unfoldable pub stored : Row → Setting → ℕ
stored r Mode = r.mode
stored r (Cool s) = get_or r.cool s not_available
stored r (Slab s) = get_or r.slab s not_available
stored r (Fan s) = get_or r.fan s not_available

-- (01) the value in force: a value whose mask bit is missing is not available
unfoldable pub in_force : Row → Setting → ℕ
in_force r x = cond (has r x) (stored r x) not_available

-- (000, 01) the state that a frame's state stands for: 7 is the device's current one
unfoldable pub state_for : Row → ℕ → ℕ
state_for r s = cond (eqb s current_state) r.state s

-- (01) a mode that a row, or a device's own answer, may hold: 0 Off always; 1 Heat needs heating or slab; 2 Auto heating and
-- cooling; 3 Cool cooling; 4 Vent fan; 6 Emergency always; 5, and any other, never
unfoldable pub mode_legal : ℕ → ℕ → Bool
mode_legal mask mode =
    cond (eqb mode 0) true
    (cond (eqb mode 1) (has_bit mask heating || has_bit mask slab)
    (cond (eqb mode 2) (has_bit mask heating && has_bit mask cooling)
    (cond (eqb mode 3) (has_bit mask cooling)
    (cond (eqb mode 4) (has_bit mask fan)
    (eqb mode emergency)))))

-- (01) a value within a setting's range: cool and slab any byte but 0xFF, fan 0 to 100; (ours) no device has a fan scale of 0 to 10
unfoldable pub in_range : Row → Setting → ℕ → Bool
in_range r Mode v = mode_legal r.mask v
in_range r (Cool s) v = leb v 254
in_range r (Slab s) v = leb v 254
in_range r (Fan s) v = leb v 100

-- (01) a value that a row, or a device's own answer, may hold for a setting
unfoldable pub legal : Row → Setting → ℕ → Bool
legal r x v = has r x && in_range r x v

-- (01) 6, Emergency, can't be set by Update
abbrev pub updatable : Setting → ℕ → Bool
updatable Mode v = not (eqb v emergency)
updatable (Cool s) v = true
updatable (Slab s) v = true
updatable (Fan s) v = true

-- (01) a value that an Update may set
unfoldable pub settable : Row → Setting → ℕ → Bool
settable r x v = legal r x v && updatable x v

-- (01) the row's own value of a setting: legal, or not available where the device lacks the setting
unfoldable pub holds : Row → Setting → Bool
holds r x = cond (has r x) (legal r x (stored r x)) (eqb (stored r x) not_available)

-- (01) the seven states that a device has values for
abbrev pub states : List ℕ
states = 0 ∷ 1 ∷ 2 ∷ 3 ∷ 4 ∷ 5 ∷ 6 ∷ []

-- (01) the row's own values of a setting hold in each of the seven states
unfoldable pub holds_in_states : Row → (ℕ → Setting) → Bool
holds_in_states r setting = every (λ s. holds r (setting s)) states

-- (01) the settings with a value for each state: cool, slab and fan
abbrev pub state_settings : List (ℕ → Setting)
state_settings = Cool ∷ Slab ∷ Fan ∷ []

-- (01) the values of cool, slab and fan hold in all states
unfoldable pub values_held : Row → Bool
values_held r = every (holds_in_states r) state_settings

-- (ours) the row's own values of cool, slab and fan hold in a state: the same, state by state
abbrev pub holds_at : Row → ℕ → Bool
holds_at r s = holds r (Cool s) && holds r (Slab s) && holds r (Fan s)

-- (ours) one of these settings by its number, for a state
abbrev pub setting_of : ℕ → ℕ → Setting
setting_of n s = get_or state_settings n Fan s

-- (ours) the address and the mask are legal
abbrev pub device_legal : Row → Bool
device_legal r = address_legal r.address && mask_legal r.mask

-- (01) the state and the setback events are legal
abbrev pub time_legal : Row → Bool
time_legal r = state_legal r.state && events_legal r.events

-- (01) all values of the row are legal, or not available where the device lacks the setting
abbrev pub all_held : Row → Bool
all_held r = holds r Mode && values_held r

-- (01) the rules of a row; the version is any
unfoldable pub keeps_rules : Row → Bool
keeps_rules r = device_legal r && (time_legal r && all_held r)

-- (01) a row by its parts: address, version, mask, mode, state, events, then cool, slab and fan for each state
abbrev pub row : ℕ → ℕ → ℕ → ℕ → ℕ → ℕ → List ℕ → List ℕ → List ℕ → Row
row a v k m s e c l f = record { address = a; version = v; mask = k; mode = m; state = s; events = e; cool = c; slab = l; fan = f }

-- (01) the row with the value of one setting replaced; (ours, D-29) nothing changes for a state above 6
unfoldable pub with_value : Row → Setting → ℕ → Row
with_value r Mode v = row r.address r.version r.mask v r.state r.events r.cool r.slab r.fan
with_value r (Cool s) v = row r.address r.version r.mask r.mode r.state r.events (set r.cool s v) r.slab r.fan
with_value r (Slab s) v = row r.address r.version r.mask r.mode r.state r.events r.cool (set r.slab s v) r.fan
with_value r (Fan s) v = row r.address r.version r.mask r.mode r.state r.events r.cool r.slab (set r.fan s v)

-- (ours, D-43) zeros, where there is no row
abbrev pub blank_row : Row
blank_row = row 0 0 0 0 0 0 (replicate state_count 0) (replicate state_count 0) (replicate state_count 0)
