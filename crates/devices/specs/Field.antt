-- A field as a kind and a state, the setting that it names, and when two fields are the same.
use Rattle.std.specs.Prelude.{ℕ, ◌≤◌, ◌≡◌, Bool, ◌&&◌, cond, eqb}
use Rattle.devices.specs.declared.field.Setting.{Setting}
use Rattle.devices.specs.declared.field.Setting.TheVariants.{Mode, Cool, Slab, Fan}
use Rattle.devices.specs.declared.field.Field.{Field}

-- (ours, D-35) the kind: which of the four settings, document 01's method of a field, as a number
abbrev pub kind_of : Setting → ℕ
kind_of Mode = 0
kind_of (Cool s) = 1
kind_of (Slab s) = 2
kind_of (Fan s) = 3

-- (ours, D-35) what stands for the state of a mode
abbrev pub no_state : ℕ
no_state = 0

-- (01) the state of a setting; the mode has none
abbrev pub state_of : Setting → ℕ
state_of Mode = no_state
state_of (Cool s) = s
state_of (Slab s) = s
state_of (Fan s) = s

-- (01) the setting of a kind, for a state: the mode has none; (ours) a kind above 3 reads as fan
abbrev pub setting_by : ℕ → ℕ → Setting
setting_by kind s = cond (eqb kind 0) Mode (cond (eqb kind 1) (Cool s) (cond (eqb kind 2) (Slab s) (Fan s)))

-- (01) the setting that a field names
unfoldable pub setting : Field → Setting
setting f = setting_by f.kind f.state

-- (01) the field of a setting of the device with the address
abbrev pub field_of : ℕ → Setting → Field
field_of a x = record { address = a; kind = kind_of x; state = state_of x }

-- (01) a field of document 01, as a kind and a state
pub record Formed (f : Field) : Type 0 where
  -- (01) of one of the four methods
  pub kind : f.kind ≤ 3
  -- (01) the mode has no state
  pub mode : f.kind ≡ 0 → f.state ≡ no_state

-- (01) a field is an address, a method and a state; (ours) one that is not formed is the same as no one that is
unfoldable pub same_field : Field → Field → Bool
same_field f g = eqb f.address g.address && (eqb f.kind g.kind && eqb f.state g.state)
