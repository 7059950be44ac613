-- What a frame that asks for an update tells: the update is the one that was sent. Proved of every such frame in proofs/Asked.antt.
use Rattle.std.specs.Prelude.{◌≡◌, true, List, ℕ, ◌≤◌, Some}
use Rattle.std.proofs.Math.Option.{some}
use Rattle.devices.specs.declared.row.Row.{Row}
use Rattle.devices.specs.declared.field.Field.{Field}
use Rattle.devices.specs.declared.field.Setting.{Setting}
use Rattle.devices.specs.declared.field.Setting.TheVariants.{Mode, Cool, Slab, Fan}
use Rattle.devices.specs.Field.{state_of, setting, Formed}
use Rattle.devices.specs.Row.{state_for, settable}
use Rattle.devices.specs.Table.{row_of}
use Rattle.trpc.specs.Bytes.{byte_at, word_at}
use Rattle.trpc.specs.Services.{is_update}
use Rattle.trpc.specs.Methods.{entry_of}
use Rattle.trpc.specs.Judging.{entry_in}

-- (01) the state that a record names for a setting, resolved by the row; the mode has none, and 0 stands for it (ours)
abbrev pub sent_state : List ℕ → Row → Setting → ℕ
sent_state c r Mode = 0
sent_state c r (Cool s) = state_for r (byte_at c 7)
sent_state c r (Slab s) = state_for r (byte_at c 7)
sent_state c r (Fan s) = state_for r (byte_at c 7)

-- (01) the value that a record carries for a setting: after the address, or after the state
abbrev pub sent_value : List ℕ → Setting → ℕ
sent_value c Mode = byte_at c 7
sent_value c (Cool s) = byte_at c 8
sent_value c (Slab s) = byte_at c 8
sent_value c (Fan s) = byte_at c 8

-- (01) The record is an Update; its method is the one that sets the field's setting; its address has the row, and is the field's; the
-- field's state is the sent one resolved, of the seven, and the value is the one sent, and may be set there.
pub record Asked (c : List ℕ) (t : List Row) (f : Field) (v : ℕ) : Type 0 where
  pub update : is_update (byte_at c 0) ≡ true
  pub method : entry_in c ≡ Some (entry_of (setting f))
  pub row : Row
  pub known : row_of t (word_at c 5) ≡ some row
  pub address : f.address ≡ row.address
  pub sent : f.address ≡ word_at c 5
  pub formed : Formed f
  pub resolved : state_of (setting f) ≡ sent_state c row (setting f)
  pub state : state_of (setting f) ≤ 6
  pub carried : v ≡ sent_value c (setting f)
  pub value : settable row (setting f) v ≡ true
