-- Demand 3, whole: one statement about a list of calls, from any start that a list may have.
use Rattle.std.specs.Prelude.{◌≡◌, true, List, [], ◌∷◌, ◌++◌, map}
use Rattle.std.proofs.Math.Option.{some}
use Rattle.devices.specs.declared.row.Row.{Row}
use Rattle.gateway.specs.declared.gateway.Gateway.{Gateway}
use Rattle.gateway.specs.State.{State}
use Rattle.gateway.specs.View.{view}
use Rattle.ledger.specs.Call.{Call, Made, gateway_after, calls_made}
use Rattle.ledger.specs.Start.{Start, gateway_of, rows_at}
use Rattle.ledger.specs.Ledger.{Ask, opened, ledger_after, is_queued}
use Rattle.ledger.specs.Demand3.{Agree, CallRight}
use Rattle.ledger.specs.Lives.{LifeRight, life, asked_by, just_queued}

-- (ours) the calls of a list with answers
abbrev pub calls_of : List Made → List Call
calls_of ms = map (λ m. m.call) ms

-- (ours) the gateway's state after a list of calls, from a gateway
abbrev pub state_after : Gateway → List Call → State
state_after g cs = view (gateway_after g cs)

-- (01) Demand 3 of the list `cs` of calls on the gateway g with which the list starts, with these rows. The ledger is fed the calls and
-- their answers alone. Where a call `m` of the list is spoken of, `ms` are the calls made before it and `rest` those after.
pub record WholeFrom (g : Gateway) (rows : List Row) (cs : List Call) : Type 0 where
  -- (01) after the list
  pub after_the_list : Agree (state_after g cs) (ledger_after (opened rows) (calls_made g cs))
  -- (01) at each call, against the gateway and the ledger that the calls before it left, and the gateway that it left itself
  pub at_each_call : (ms : List Made) (m : Made) (rest : List Made) → calls_made g cs ≡ ms ++ (m ∷ rest)
      → CallRight (state_after g (calls_of ms)) (ledger_after (opened rows) ms) m.call m.answer (state_after g (calls_of (ms ++ (m ∷ []))))
  -- (01) update by update: each byte that was answered queued had completed an Update, which from then on lives so
  pub lives : (ms : List Made) (m : Made) (rest : List Made) → calls_made g cs ≡ ms ++ (m ∷ rest) → is_queued m.answer ≡ true
      → (a : Ask) × (asked_by (ledger_after (opened rows) ms) m.call ≡ some a) × LifeRight (state_after g cs) (life rest (just_queued a) 0 [])

-- (01; 02, M-112) demand 3 of a list of calls from a start: a fresh gateway, or one read, with an empty ledger
abbrev pub WholeList : Start → List Call → Type 0
WholeList s cs = WholeFrom (gateway_of s) (rows_at s) cs
