-- The life of one queued update in demand 3's own words, read off the calls after its queueing and their answers alone.
use Rattle.std.specs.Prelude.{◌≡◌, Bool, true, false, cond, ℕ, suc, ◌<◌, ltb, length}
use mathlib.Core.List.{List, [], ◌∷◌, ◌++◌, map, Memᴰ}
use Rattle.std.proofs.Math.Option.{Option, none}
use Rattle.lists.specs.Filter.{All}
use Rattle.devices.specs.declared.field.Field.{Field}
use Rattle.devices.specs.Field.{same_field}
use Rattle.gateway.specs.State.{State}
use Rattle.ledger.specs.Call.{Call, Answer, Made}
use Rattle.ledger.specs.Call.Call.{AddRow, Byte, Tick, Turn, Other}
use Rattle.ledger.specs.Ledger.{last_tick, last_turn, room_needed, Ending, Ledger, Ask, is_refused, is_replied, asked}
use Rattle.ledger.specs.Ledger.Ending.{Confirmed, TimedOut}
use Rattle.ledger.specs.Demand3.{Aged, of_update}

-- (01) what a call is to an update of the field: nothing, a tick, a try of another field, or its own try, with or without a reply
pub data Happening : Type 0 where
  Nothing Ticks OtherTried : Happening
  Tried : (replied : Bool) → Happening

-- (01) refused turns, bytes, rows and other calls are nothing to it
abbrev pub happening : Field → Call → Answer → Happening
happening f (AddRow r) a = Nothing
happening f (Byte l x lent) a = Nothing
happening f Tick a = Ticks
happening f (Turn g v lent) a = cond (is_refused a) Nothing (cond (same_field g f) (Tried (is_replied a)) OtherTried)
happening f (Other o) a = Nothing

-- (01) It waits, with so many ticks since queueing and so many turns since queueing or its last try; or it has ended, with those.
-- `tries` has the turns that it had at each of its own tries, in order; a try that confirms it is one of them
pub data Life : Type 0 where
  Waits : Aged → (turns : ℕ) → (tries : List ℕ) → Life
  Ends : Ending → Aged → (turns : ℕ) → (tries : List ℕ) → Life

-- (01) one tick later
abbrev pub later : Aged → Aged
later e = record { line = e.line; field = e.field; value = e.value; ticks = suc e.ticks }

-- (ours) one try more, with these turns
abbrev pub and_tried : List ℕ → ℕ → List ℕ
and_tried tries n = tries ++ (n ∷ [])

-- (01) one call of its life: a tick that brings it to 120 ends it, and so does a reply; after a failed try its turns start anew
abbrev pub goes_on : Happening → Aged → ℕ → List ℕ → (Aged → ℕ → List ℕ → Life) → Life
goes_on Nothing e n t k = k e n t
goes_on Ticks e n t k = cond (ltb (suc e.ticks) last_tick) (k (later e) n t) (Ends TimedOut (later e) n t)
goes_on OtherTried e n t k = k e (suc n) t
goes_on (Tried true) e n t k = Ends Confirmed e n (and_tried t n)
goes_on (Tried false) e n t k = k e 0 (and_tried t n)

-- (ours) its life along the calls that follow; what comes after its end is not its life any more, so it ends once
abbrev pub life : List Made → Aged → ℕ → List ℕ → Life
life [] e n t = Waits e n t
life (m ∷ ms) e n t = goes_on (happening e.field m.call m.answer) e n t (λ e' n' t'. life ms e' n' t')

-- (01) it is tried by the sixteenth turn after queueing and after each failed try
pub record TriedInTime (turns : ℕ) (tries : List ℕ) : Type 0 where
  -- (01) at each of its tries it had fewer than 16 turns since its queueing or the try before: it was the sixteenth at the latest
  pub at_each : All (λ n. n < last_turn) tries
  -- (01) since then it has fewer than 16, so that the next is not late
  pub since : turns < last_turn

-- (01) it waits in the queue, under 120 ticks; or it has ended, by its confirmed answer before the 120th tick or by time-out on it;
-- in either case it was tried in time
abbrev pub LifeRight : State → Life → Type 0
LifeRight g (Waits e n t) = Memᴰ e (map of_update g.queue) × (e.ticks < last_tick) × TriedInTime n t
LifeRight g (Ends Confirmed e n t) = (e.ticks < last_tick) × TriedInTime n t
LifeRight g (Ends TimedOut e n t) = (e.ticks ≡ last_tick) × TriedInTime n t

-- (01) the Update that a call completes: a byte's, unless it is refused by 1
abbrev pub asked_by : Ledger → Call → Option Ask
asked_by b (AddRow r) = none
asked_by b (Byte l x lent) = cond (ltb (length lent) room_needed) none (asked b l x)
asked_by b Tick = none
asked_by b (Turn f v lent) = none
asked_by b (Other o) = none

-- (01) how it stands when it is queued: no ticks
abbrev pub just_queued : Ask → Aged
just_queued a = record { line = a.line; field = a.field; value = a.value; ticks = 0 }
