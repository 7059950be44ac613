-- Demand 3 of every list of calls and blocks that a host in C makes, from `tha_fresh` or `tha_read`, with the answers as C reads
-- them. Assumes nothing.
use mathlib.Core.Path.{◌≡◌, sym, ap, ◌∙◌}
use mathlib.Core.Bool.{true}
use mathlib.Core.List.{List, [], ◌∷◌, ◌++◌, map}
use mathlib.Core.Option.{some}
use Rattle.lists.proofs.Filters.{map-append}
use Rattle.devices.specs.declared.row.Row.{Row}
use Rattle.gateway.specs.declared.gateway.Gateway.{Gateway}
use Rattle.gateway.specs.View.{view}
use Rattle.ledger.specs.Call.{Call, calls_made}
use Rattle.ledger.specs.Ledger.{Ask, is_queued}
use Rattle.ledger.specs.Demand3.{Agree, CallRight}
use Rattle.ledger.specs.Lives.{LifeRight, life, asked_by, just_queued}
use Rattle.ledger.specs.Start.{Start, rows_at}
use Rattle.ledger.specs.Start.Start.{fresh, read}
use Rattle.ledger.specs.Statement.{calls_of, state_after, WholeFrom}
use Rattle.ledger.proofs.Theorem.{whole_list}
use Rattle.capi.specs.Host.{HostCall, HostMade, host_start, host_made, as_call, says, as_made}
use Rattle.capi.specs.Statement.{host_calls, host_state, host_ledger, HostFrom, WholeHost}
use Rattle.capi.specs.Blocks.{HostAct, host_list_of, host_acts_after}
use Rattle.capi.proofs.Reading.{as_calls, after_is, made_is, calls_of_lem}
use Rattle.capi.proofs.Numbers.{calls_named}
use Rattle.capi.proofs.Blocks.{block_read, acts_after}

state_is : (g : Gateway) (cs : List HostCall) → state_after g (as_calls cs) ≡ host_state g cs
state_is g cs = ap (λ (x : Gateway). view x) (sym (after_is g cs))

-- the state after calls that were made, as the statement in Rattle has it
state_of : (g : Gateway) (ms : List HostMade) → state_after g (calls_of (map as_made ms)) ≡ host_state g (host_calls ms)
state_of g ms = ap (λ (l : List Call). state_after g l) (calls_of_lem ms) ∙ state_is g (host_calls ms)

module _ (g : Gateway) (rows : List Row) (cs : List HostCall) (whole : WholeFrom g rows (as_calls cs)) where
  -- the list in Rattle, split where the host's is
  made_split : (ms : List HostMade) (m : HostMade) (rest : List HostMade) → host_made g cs ≡ ms ++ (m ∷ rest)
      → calls_made g (as_calls cs) ≡ map as_made ms ++ (as_made m ∷ map as_made rest)
  made_split ms m rest e = sym (made_is g cs) ∙ ap (λ (l : List HostMade). map as_made l) e ∙ map-append as_made ms (m ∷ rest)

  after_list : Agree (host_state g cs) (host_ledger rows (host_made g cs))
  after_list = rw (made_is g cs, ← state_is g cs) whole.after_the_list

  at_call : (ms : List HostMade) (m : HostMade) (rest : List HostMade) → host_made g cs ≡ ms ++ (m ∷ rest)
      → CallRight (host_state g (host_calls ms)) (host_ledger rows ms) (as_call m.call) (says m.read) (host_state g (host_calls (ms ++ (m ∷ []))))
  at_call ms m rest e =
      let w = whole.at_each_call (map as_made ms) (as_made m) (map as_made rest) (made_split ms m rest e) in
      rw (← state_of g ms, ← state_of g (ms ++ (m ∷ [])), map-append as_made ms (m ∷ [])) w

  lives_so : (ms : List HostMade) (m : HostMade) (rest : List HostMade) → host_made g cs ≡ ms ++ (m ∷ rest)
      → is_queued (says m.read) ≡ true
      → (a : Ask) × (asked_by (host_ledger rows ms) (as_call m.call) ≡ some a) × LifeRight (host_state g cs) (life (map as_made rest) (just_queued a) 0 [])
  lives_so ms m rest e q =
      let w = whole.lives (map as_made ms) (as_made m) (map as_made rest) (made_split ms m rest e) q in
      rw (← state_is g cs) w

  host_from : HostFrom g rows cs
  host_from = record { after_the_list = after_list; at_each_call = at_call; lives = lives_so; named = calls_named g cs }

-- demand 3 of the calls
host_list : (s : Start) (cs : List HostCall) → HostFrom (host_start s) (rows_at s) cs
host_list (fresh firmware protocol) cs =
    let s : Start = fresh firmware protocol in
    host_from (host_start s) (rows_at s) cs (whole_list s (as_calls cs))
host_list (read firmware protocol count bytes) cs =
    let s : Start = read firmware protocol count bytes in
    host_from (host_start s) (rows_at s) cs (whole_list s (as_calls cs))

-- demand 3 for a host in C
pub whole_host : (s : Start) (acts : List HostAct) → WholeHost s acts
whole_host s acts =
    let g = host_start s in
    record {
      list = host_list s (host_list_of g acts);
      gateway = acts_after g acts;
      blocks = λ before l bytes area rest e. block_read (host_acts_after g before) l bytes area;
    }
