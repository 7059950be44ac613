-- A property of the gateway's state that each kind of call keeps holds after every list of calls, of all calls or of those that may be
-- made. Assumes nothing.
use mathlib.Core.Path.{◌≡◌, refl, sym, subst}
use mathlib.Core.Bool.{Bool, true, false}
use mathlib.Core.List.{List, [], ◌∷◌}
use mathlib.Core.Option.{Option}
use Prim.Native.Nat.{ℕ}
use lib.Dec.{ltb}
use lib.ListN.{length}
use Rattle.lists.specs.Filter.{All}
use Rattle.tpck.specs.Receive as receive
use Rattle.devices.specs.declared.row.Row.{Row}
use Rattle.devices.specs.declared.field.Field.{Field}
use Rattle.ledger.specs.Call.{AddAnswer}
use Rattle.devices.specs.Table.{row_answer}
use Rattle.updates.specs.declared.line.Line.{Line}
use Rattle.gateway.specs.declared.gateway.Gateway.{Gateway}
use Rattle.ledger.specs.Call.{Heard}
use Rattle.gateway.specs.declared.answers.ByteAnswer.{ByteAnswer}
use Rattle.gateway.specs.declared.answers.TurnAnswer.{TurnAnswer}
use Rattle.gateway.specs.Lines.{receiver_of}
use Rattle.gateway.specs.State.{State, Effect, after_step, applied}
use Rattle.gateway.specs.Reply.{room}
use Rattle.gateway.specs.Calls.{add_row_by, add_row, tick}
use Rattle.gateway.specs.Turn.{turn}
use Rattle.gateway.specs.Byte.{byte_in, byte}
use Rattle.gateway.specs.View.{view, put}
use Rattle.gateway.proofs.Parts.{view_put}
use Rattle.ledger.specs.Call.{Call, OtherCall, run_other, run, gateway_after}
use Rattle.ledger.specs.Call.Call.{AddRow, Byte, Tick, Turn, Other}
use Rattle.ledger.specs.Ledger.{Ask}
use Rattle.ledger.proofs.Outcomes.{Used, byte_used, Turned, turned}

-- each kind of call keeps the property, where the call is one that may be made (`May`): a byte that is used, a turn, a row, a tick, and
-- the others
pub record Invariant (May : Call → Type 0) (P : State → Type 0) : Type 0 where
  pub byte : (g : State) (l : Line) (x : ℕ) (lent : List ℕ) (r : receive.State) {o : Option Ask} {e : Effect} {a : ByteAnswer} → May (Byte l x lent)
      → Used g.queue g.properties o e a → P g → P (applied g (after_step l r e))
  pub turn : (g : State) (f : Field) (h : Heard) (lent : List ℕ) {c : Bool} {e : Effect} {a : TurnAnswer} → May (Turn f h lent)
      → Turned g f h c e a → P g → P (applied g e)
  pub row : (g : State) (r : Row) (a : AddAnswer) → May (AddRow r) → row_answer g.table r ≡ a → P g → P (applied g (add_row_by g r a).effect)
  pub tick : (g : State) → P g → P (applied g (tick g).effect)
  pub other : (g : Gateway) (o : OtherCall) → May (Other o) → P (view g) → P (view (run_other g o).gateway)

-- every call may be made: a property that needs nothing of the calls
abbrev pub Any : Call → Type 0
Any c = Unit {0}

pub all_any : (cs : List Call) → All Any cs
all_any [] = tt
all_any (c ∷ cs) = (tt, all_any cs)

module _ {May : Call → Type 0} (P : State → Type 0) (i : Invariant May P) where
  -- a byte whose buffer is short changes nothing
  byte_keeps : (g : State) (l : Line) (x : ℕ) (lent : List ℕ) (c : Bool) → May (Byte l x lent) → P g
      → P (applied g (byte_in g l (receive.step (receiver_of g.receivers l) x) c).effect)
  unfolding byte_in
  byte_keeps g l x lent true m k = k
  byte_keeps g l x lent false m k =
      let s = receive.step (receiver_of g.receivers l) x in
      i.byte g l x lent s.next m (byte_used g l s) k

  -- an effect put into the code's gateway
  through : (g : Gateway) (e : Effect) → P (applied (view g) e) → P (view (put g e))
  through g e k = subst P (sym (view_put g e)) k

  pub run_keeps : (g : Gateway) (c : Call) → May c → P (view g) → P (view (run g c).gateway)
  unfolding run add_row byte turn tick
  run_keeps g (AddRow r) m k = through g (add_row (view g) r).effect (i.row (view g) r (row_answer (view g).table r) m refl k)
  run_keeps g (Byte l x lent) m k = through g (byte (view g) l x (length lent)).effect (byte_keeps (view g) l x lent (ltb (length lent) room) m k)
  run_keeps g Tick m k = through g (tick (view g)).effect (i.tick (view g) k)
  run_keeps g (Turn f h lent) m k =
      through g (turn (view g) f h (length lent)).effect (i.turn (view g) f h lent m (turned (view g) f h (ltb (length lent) room)) k)
  run_keeps g (Other o) m k = i.other g o m k

  pub calls_keep : (g : Gateway) (cs : List Call) → All May cs → P (view g) → P (view (gateway_after g cs))
  unfolding gateway_after
  calls_keep g [] m k = k
  calls_keep g (c ∷ cs) m k = calls_keep (run g c).gateway cs m.1 (run_keeps g c m.0 k)
