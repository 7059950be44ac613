-- Demand 3 for a host in C, whole: one statement about a list of calls and blocks on a gateway of `tha_fresh` or `tha_read`, with
-- the answers as C reads them.
use Rattle.std.specs.Prelude.{ℕ, ◌≡◌, Bool, true, false, ◌&&◌, ◌||◌, List, [], ◌∷◌, ◌++◌, map, eqb, leb}
use Rattle.std.proofs.Math.Option.{Option, none, some}
use Rattle.lists.specs.Filter.{All}
use Rattle.devices.specs.declared.row.Row.{Row}
use Rattle.gateway.specs.declared.gateway.Gateway.{Gateway}
use Rattle.gateway.specs.State.{State}
use Rattle.gateway.specs.View.{view}
use Rattle.ledger.specs.Start.{Start, rows_at}
use Rattle.ledger.specs.Ledger.{Ledger, Ask, opened, ledger_after, is_queued}
use Rattle.ledger.specs.Demand3.{Agree, CallRight, refusal}
use Rattle.ledger.specs.Lives.{LifeRight, life, asked_by, just_queued}
use Rattle.capi.specs.Host.{HostCall, HostMade, host_start, host_after, host_made, as_call, says, as_made}
use Rattle.capi.specs.Blocks.{HostAct, host_list_of, host_acts_after, BlockRead}
use Rattle.capi.specs.Blocks.HostAct.{Block}
use Rattle.capi.specs.Host.HostCall.{Add, Byte, Tick, Turn, Head, SetNetworkError, CheckDate, Hand}

-- (01; 02, M-112) the numbers with which a call may be refused, as the header lists them at the call; 0 is none of them
abbrev pub may_refuse : HostCall → ℕ → Bool
may_refuse (Add r) n = leb 19 n && leb n 21
may_refuse (Byte l b lent) n = eqb n 1 || (leb 3 n && leb n 16)
may_refuse Tick n = false
may_refuse (Turn f h lent) n = eqb n 1 || (eqb n 17 || eqb n 18)
may_refuse Head n = eqb n 17
may_refuse (SetNetworkError e) n = false
may_refuse CheckDate n = false
may_refuse (Hand place lent) n = eqb n 1 || eqb n 23

-- (01) no refusal, or one with such a number
abbrev pub refusal_named : HostCall → Option ℕ → Bool
refusal_named c none = true
refusal_named c (some n) = may_refuse c n

-- (ours) the outcome and the number that C reads are some that the header names at the call
abbrev pub Named : HostMade → Type 0
Named m = refusal_named m.call (refusal (says m.read)) ≡ true

-- (ours) the calls of a list with what C read
abbrev pub host_calls : List HostMade → List HostCall
host_calls ms = map (λ m. m.call) ms

-- (ours) the state of the gateway that a host holds after a list of calls, from a gateway
abbrev pub host_state : Gateway → List HostCall → State
host_state g cs = view (host_after g cs)

-- (ours) the ledger after calls, fed with what C read alone, from these rows
abbrev pub host_ledger : List Row → List HostMade → Ledger
host_ledger rows ms = ledger_after (opened rows) (map as_made ms)

-- (01) Demand 3 of the list `cs` of calls that a host in C makes on the gateway g with which it starts, with these rows; the ledger is
-- fed the calls and what C reads after each, by the header's numbers. Where a call `m` of the list is spoken of, `ms` are the calls made
-- before it and `rest` those after. The parts are those of `WholeFrom` (crate ledger), with one more on the numbers.
pub record HostFrom (g : Gateway) (rows : List Row) (cs : List HostCall) : Type 0 where
  -- (01) after the list
  pub after_the_list : Agree (host_state g cs) (host_ledger rows (host_made g cs))
  -- (01) at each call, against the gateway and the ledger that the calls before it left, and the gateway that it left itself
  pub at_each_call : (ms : List HostMade) (m : HostMade) (rest : List HostMade) → host_made g cs ≡ ms ++ (m ∷ rest)
      → CallRight (host_state g (host_calls ms)) (host_ledger rows ms) (as_call m.call) (says m.read) (host_state g (host_calls (ms ++ (m ∷ []))))
  -- (01) update by update: each byte that C read as queued had completed an Update, which from then on lives so
  pub lives : (ms : List HostMade) (m : HostMade) (rest : List HostMade) → host_made g cs ≡ ms ++ (m ∷ rest)
      → is_queued (says m.read) ≡ true
      → (a : Ask) × (asked_by (host_ledger rows ms) (as_call m.call) ≡ some a) × LifeRight (host_state g cs) (life (map as_made rest) (just_queued a) 0 [])
  -- (01) each refusal has a number of document 01 for its call, and each outcome is one that the header names there
  pub named : All Named (host_made g cs)

-- (01; 02) Demand 3 of what a host in C does on a gateway of `tha_fresh`, or (M-112) of `tha_read`, with an empty ledger: of the list
-- of calls that its acts stand for, (M-100) a block for one `tha_byte` for each byte that it used
pub record WholeHost (s : Start) (acts : List HostAct) : Type 0 where
  -- (01) demand 3 of the calls that the acts stand for
  pub list : HostFrom (host_start s) (rows_at s) (host_list_of (host_start s) acts)
  -- (02) the gateway that these calls leave is the one that the host holds
  pub gateway : host_after (host_start s) (host_list_of (host_start s) acts) ≡ host_acts_after (host_start s) acts
  -- (02) each block handed back what its byte calls came to
  pub blocks : (before : List HostAct) (l : ℕ) (bytes area : List ℕ) (rest : List HostAct)
      → acts ≡ before ++ (Block l bytes area ∷ rest) → BlockRead (host_acts_after (host_start s) before) l bytes area
