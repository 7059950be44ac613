-- Drained (document 02, M-112): a host that reads the lines no more can hand over after two minutes, since by then none waits.
use Rattle.std.specs.Prelude.{◌≡◌, Bool, true, false, List, [], ◌∷◌, ℕ, ◌+◌, ◌≤◌}
use Rattle.lists.specs.Filter.{every}
use Rattle.gateway.specs.declared.gateway.Gateway.{Gateway}
use Rattle.gateway.specs.View.{view}
use Rattle.ledger.specs.Call.{Call, gateway_after}
use Rattle.ledger.specs.Call.Call.{AddRow, Byte, Tick, Turn, Other}
use Rattle.ledger.specs.Ledger.{last_tick}

-- (ours) no byte of either line: a row, a tick, a turn, or another call
abbrev pub no_byte : Call → Bool
no_byte (AddRow r) = true
no_byte (Byte l x lent) = false
no_byte Tick = true
no_byte (Turn f h lent) = true
no_byte (Other o) = true

-- (01) the ticks that a call is: one or none
abbrev pub ticks_of : Call → ℕ
ticks_of (AddRow r) = 0
ticks_of (Byte l x lent) = 0
ticks_of Tick = 1
ticks_of (Turn f h lent) = 0
ticks_of (Other o) = 0

-- (01) the ticks of a list of calls
abbrev pub ticks_in : List Call → ℕ
ticks_in [] = 0
ticks_in (c ∷ cs) = ticks_of c + ticks_in cs

-- (02, M-112: the queue must be empty) where the calls bring no byte and 120 ticks, in any order with turns, heads, rows and the
-- owner's calls, none waits after them. (ours) It is claimed of every gateway, so of each that a list of calls left
abbrev pub Drained : Gateway → List Call → Type 0
Drained g cs = every no_byte cs ≡ true → last_tick ≤ ticks_in cs → (view (gateway_after g cs)).queue ≡ []
