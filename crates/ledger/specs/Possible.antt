-- The calls that can be made, and the starts: their arguments are such as the code can be handed. Demand 3 needs none of it, for it
-- holds of any numbers; the hand-over does (document 02, M-112, "a gateway that this build's calls left").
use Rattle.std.specs.Prelude.{ℕ, ◌<◌, ◌≡◌, List, length}
use Rattle.lists.specs.Filter.{All}
use Rattle.devices.specs.declared.row.Row.{Row}
use Rattle.devices.specs.declared.field.Field.{Field}
use Rattle.ledger.specs.Call.{Heard}
use Rattle.std.specs.Prelude.{None, Some}
use Rattle.ledger.specs.Call.{OtherCall, Call}
use Rattle.ledger.specs.Call.OtherCall.{ReadHead, SetNetworkError, CheckDate, Hand}
use Rattle.ledger.specs.Call.Call.{AddRow, Byte, Tick, Turn, Other}
use Rattle.ledger.specs.Start.{Start}
use Rattle.ledger.specs.Start.Start.{fresh, read}

-- (ours) a number of 8 bits
abbrev pub InByte : ℕ → Type 0
InByte n = n < 256

-- (ours) a number of 16 bits
abbrev pub InWord : ℕ → Type 0
InWord n = n < 65536

-- (ours) a number of 32 bits
abbrev pub InLong : ℕ → Type 0
InLong n = n < 4294967296

-- (ours) bytes that are lent
abbrev pub Bytes : List ℕ → Type 0
Bytes l = All InByte l

-- (01) a value for each of the seven states
pub record Seven (l : List ℕ) : Type 0 where
  pub count : length l ≡ 7
  pub bytes : Bytes l

-- (ours) a row as the code has it
pub record PossibleRow (r : Row) : Type 0 where
  pub address : InWord r.address
  pub version : InLong r.version
  pub mask : InWord r.mask
  pub mode : InByte r.mode
  pub state : InByte r.state
  pub events : InByte r.events
  pub cool : Seven r.cool
  pub slab : Seven r.slab
  pub fan : Seven r.fan

-- (ours) a field as the code has it
pub record PossibleField (f : Field) : Type 0 where
  pub address : InWord f.address
  pub kind : InByte f.kind
  pub state : InByte f.state

-- (ours) what a device answers, as the code has it
abbrev pub PossibleHeard : Heard → Type 0
PossibleHeard None = Unit {0}
PossibleHeard (Some v) = InByte v

-- (ours) the calls under `Other`
abbrev pub PossibleOther : OtherCall → Type 0
PossibleOther ReadHead = Unit {0}
PossibleOther (SetNetworkError n) = InWord n
PossibleOther CheckDate = Unit {0}
PossibleOther (Hand place lent) = Bytes lent

-- (02, M-112, "this build's calls") a call that can be made
abbrev pub Possible : Call → Type 0
Possible (AddRow r) = PossibleRow r
Possible (Byte l x lent) = InByte x × Bytes lent
Possible Tick = Unit {0}
Possible (Turn f h lent) = PossibleField f × PossibleHeard h × Bytes lent
Possible (Other o) = PossibleOther o

-- (02, M-112) a start that can be made: the owner's two numbers, and the bytes of a hand-over
abbrev pub PossibleStart : Start → Type 0
PossibleStart (fresh firmware protocol) = InWord firmware × InWord protocol
PossibleStart (read firmware protocol count bytes) = InWord firmware × InWord protocol × Bytes bytes
