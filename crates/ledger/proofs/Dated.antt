-- Each call leaves the stored date valid or NA, where it found it so. Assumes nothing.
use mathlib.Core.Path.{◌≡◌, refl}
use mathlib.Core.Bool.{Bool}
use mathlib.Core.Option.{Option}
use Rattle.tpck.specs.Receive as receive
use Rattle.devices.specs.declared.row.Row.{Row}
use Rattle.devices.specs.declared.field.Field.{Field}
use Rattle.ledger.specs.Call.{AddAnswer}
use Rattle.std.specs.Prelude.{Ok, Err}
use Rattle.devices.specs.Table.{row_answer}
use Rattle.dates.specs.Date.{no_date, ValidOrNA}
use Rattle.dates.specs.Date.ValidOrNA.{is_na}
use Rattle.dates.proofs.Dates.{valid_or_right}
use Rattle.trpc.specs.Properties.{with_error, with_checked_date}
use Rattle.updates.specs.declared.line.Line.{Line}
use Rattle.gateway.specs.declared.gateway.Gateway.{Gateway}
use Rattle.ledger.specs.Call.{Heard}
use Rattle.gateway.specs.declared.answers.ByteAnswer.{ByteAnswer}
use Rattle.gateway.specs.declared.answers.TurnAnswer.{TurnAnswer}
use Rattle.gateway.specs.State.{State, Effect, after_step, applied}
use Rattle.gateway.specs.Calls.{add_row_by, tick, set_network_error, check_date}
use Rattle.gateway.specs.View.{view}
use Rattle.ledger.specs.Call.{OtherCall, run_other}
use Rattle.ledger.specs.Call.OtherCall.{ReadHead, SetNetworkError, CheckDate, Hand}
use Rattle.ledger.specs.Ledger.{Ask}
use Rattle.ledger.proofs.Outcomes.{Used, Turned}
use Rattle.ledger.proofs.Outcomes.Used.{quiet, dropped, rejected, replied, again, full, queued}
use Rattle.ledger.proofs.Outcomes.Turned.{short, none_waits_lem, not_head, failed, stored}
use Rattle.ledger.proofs.Invariants.{Invariant, Any}

-- a state whose stored date is valid or NA
abbrev pub Dated : State → Type 0
Dated g = ValidOrNA g.properties.date

used_dated : (g : State) (l : Line) (r : receive.State) {o : Option Ask} {e : Effect} {a : ByteAnswer} → Used g.queue g.properties o e a → Dated g → Dated (applied g (after_step l r e))
used_dated g l r quiet k = k
used_dated g l r (dropped d n) k = k
used_dated g l r (rejected e) k = k
used_dated g l r (replied s n d) k = d.dated k
used_dated g l r (again a w) k = k
used_dated g l r (full a w h) k = k
used_dated g l r (queued a m w h) k = k

turn_dated : (g : State) (f : Field) (h : Heard) {c : Bool} {e : Effect} {a : TurnAnswer} → Turned g f h c e a → Dated g → Dated (applied g e)
turn_dated g f h short k = k
turn_dated g f h (none_waits_lem e) k = k
turn_dated g f h (not_head u q e s) k = k
turn_dated g f h (failed u q e s n) k = k
turn_dated g f h (stored u q n e s t) k = k

row_dated : (g : State) (r : Row) (a : AddAnswer) → row_answer g.table r ≡ a → Dated g → Dated (applied g (add_row_by g r a).effect)
unfolding add_row_by
row_dated g r (Ok u) e k = k
row_dated g r (Err x) e k = k

other_dated : (g : Gateway) (o : OtherCall) → Dated (view g) → Dated (view (run_other g o).gateway)
unfolding run_other set_network_error with_error check_date with_checked_date
other_dated g ReadHead k = k
other_dated g (SetNetworkError n) k = k
other_dated g CheckDate k = valid_or_right g.properties.date no_date (is_na refl)
other_dated g (Hand place lent) k = k

pub dated_kept : Invariant Any Dated
unfolding tick
dated_kept =
    record {
      byte = λ g l x lent r m u k. used_dated g l r u k;
      turn = λ g f h lent m t k. turn_dated g f h t k;
      row = λ g r a m e k. row_dated g r a e k;
      tick = λ g k. k;
      other = λ g o m k. other_dated g o k;
    }
