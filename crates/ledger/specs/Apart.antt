-- Whatever one line sends, the other's places and its open packet stay as they are (document 02, M-106).
use Rattle.std.specs.Prelude.{◌≡◌, Bool, true, false, not, List}
use Rattle.lists.specs.Filter.{every}
use Rattle.updates.specs.declared.line.Line.{Line}
use Rattle.updates.specs.Line.{same_line}
use Rattle.gateway.specs.Lines.{receiver_of}
use Rattle.ledger.specs.Call.{Call, Made}
use Rattle.ledger.specs.Call.Call.{AddRow, Byte, Tick, Turn, Other}
use Rattle.ledger.specs.Ledger.{Ledger, ledger_after}
use Rattle.ledger.specs.Demand3.{waits_of}

-- (02, M-106) a byte of the other line than l
abbrev pub of_other : Line → Call → Bool
of_other l (AddRow r) = false
of_other l (Byte m x lent) = not (same_line l m)
of_other l Tick = false
of_other l (Turn f h lent) = false
of_other l (Other o) = false

-- (02, M-106) bytes of the other line, each with its answer, as many as it likes
abbrev pub AllOfOther : Line → List Made → Type 0
AllOfOther l ms = every (λ m. of_other l m.call) ms ≡ true

-- (02, M-106) after them this line has its places as before, and its receiver what it held; by the ledger, which `Agree` ties to the
-- gateway
pub record LeftApart (b : Ledger) (l : Line) (ms : List Made) : Type 0 where
  pub places : waits_of (ledger_after b ms) l ≡ waits_of b l
  pub receiver : receiver_of (ledger_after b ms).receivers l ≡ receiver_of b.receivers l
