-- Each call that can be made leaves numbers that the frames of a hand-over have room for, and seven values for each setting, where it
-- found them so. Assumes nothing.
use mathlib.Core.Path.{sym, ◌∙◌, subst}
use mathlib.Core.Bool.{Bool}
use mathlib.Core.List.{List, [], ◌∷◌}
use mathlib.Core.Option.{Option}
use Prim.Native.Nat.{ℕ}
use lib.ListN.{length-set}
use Rattle.lists.specs.Filter.{All}
use Rattle.lists.proofs.Filters.{all_append}
use Rattle.lists.proofs.Searches.{change_all}
use Rattle.tpck.specs.Receive as receive
use Rattle.devices.specs.declared.row.Row.{Row}
use Rattle.devices.specs.declared.field.Field.{Field}
use Rattle.devices.specs.declared.field.Setting.{Setting}
use Rattle.devices.specs.declared.field.Setting.TheVariants.{Mode, Cool, Slab, Fan}
use Rattle.ledger.specs.Call.{AddAnswer}
use Rattle.std.specs.Prelude.{Ok, Err}
use Rattle.devices.specs.Field.{setting}
use Rattle.devices.specs.Row.{with_value}
use Rattle.devices.specs.Table.{addressed, store}
use Rattle.updates.specs.declared.line.Line.{Line}
use Rattle.trpc.specs.Properties.{with_error, with_checked_date}
use Rattle.gateway.specs.declared.gateway.Gateway.{Gateway}
use Rattle.ledger.specs.Call.{Heard}
use Rattle.std.specs.Prelude.{None, Some}
use Rattle.gateway.specs.declared.answers.ByteAnswer.{ByteAnswer}
use Rattle.gateway.specs.declared.answers.TurnAnswer.{TurnAnswer}
use Rattle.gateway.specs.State.{State, Effect, after_step, applied}
use Rattle.gateway.specs.Calls.{add_row_by, tick, set_network_error, check_date}
use Rattle.gateway.specs.View.{view}
use Rattle.ledger.specs.Call.{OtherCall, run_other}
use Rattle.ledger.specs.Call.OtherCall.{ReadHead, SetNetworkError, CheckDate, Hand}
use Rattle.ledger.specs.Ledger.{Ask, stored_in}
use Rattle.ledger.specs.Possible.{InWord, PossibleRow, PossibleOther, Possible}
use Rattle.transfer.specs.Ready.{RowFits}
use Rattle.ledger.proofs.Outcomes.{numbers_of, Used, Turned}
use Rattle.ledger.proofs.Outcomes.Used.{quiet, dropped, rejected, replied, again, full, queued}
use Rattle.ledger.proofs.Outcomes.Turned.{short, none_waits_lem, not_head, failed, stored}
use Rattle.ledger.proofs.Invariants.{Invariant}

-- the numbers of the gateway and its rows fit
pub record Fitting (g : State) : Type 0 where
  pub numbers : All InWord (numbers_of g.properties)
  pub rows : All RowFits g.table

-- ---- rows

possible_fits : (r : Row) → PossibleRow r → RowFits r
possible_fits r p =
    record { address = p.address; version = p.version; mask = p.mask; cool = p.cool.count; slab = p.slab.count; fan = p.fan.count }

pub with_fits : (r : Row) (x : Setting) (v : ℕ) → RowFits r → RowFits (with_value r x v)
unfolding with_value
with_fits r Mode v k = record { address = k.address; version = k.version; mask = k.mask; cool = k.cool; slab = k.slab; fan = k.fan }
with_fits r (Cool s) v k =
    record { address = k.address; version = k.version; mask = k.mask; cool = length-set r.cool s v ∙ k.cool; slab = k.slab; fan = k.fan }
with_fits r (Slab s) v k =
    record { address = k.address; version = k.version; mask = k.mask; cool = k.cool; slab = length-set r.slab s v ∙ k.slab; fan = k.fan }
with_fits r (Fan s) v k =
    record { address = k.address; version = k.version; mask = k.mask; cool = k.cool; slab = k.slab; fan = length-set r.fan s v ∙ k.fan }

stored_fits : (l : List Row) (f : Field) (h : Heard) → All RowFits l → All RowFits (stored_in l f h)
unfolding store
stored_fits l f None k = k
stored_fits l f (Some v) k = change_all RowFits (addressed f.address) (λ r. with_value r (setting f) v) l (λ r e. with_fits r (setting f) v) k

-- ---- each call

used_fitting : (g : State) (l : Line) (r : receive.State) {o : Option Ask} {e : Effect} {a : ByteAnswer} → Used g.queue g.properties o e a → Fitting g
    → Fitting (applied g (after_step l r e))
used_fitting g l r quiet k = record { numbers = k.numbers; rows = k.rows }
used_fitting g l r (dropped d n) k = record { numbers = k.numbers; rows = k.rows }
used_fitting g l r (rejected e) k = record { numbers = k.numbers; rows = k.rows }
used_fitting g l r (replied s n d) k =
    record { numbers = subst (λ (l : List ℕ). All InWord l) (sym d.numbers) k.numbers; rows = k.rows }
used_fitting g l r (again a w) k = record { numbers = k.numbers; rows = k.rows }
used_fitting g l r (full a w h) k = record { numbers = k.numbers; rows = k.rows }
used_fitting g l r (queued a m w h) k = record { numbers = k.numbers; rows = k.rows }

turn_fitting : (g : State) (f : Field) (h : Heard) {c : Bool} {e : Effect} {a : TurnAnswer} → Turned g f h c e a → Fitting g → Fitting (applied g e)
turn_fitting g f h short k = k
turn_fitting g f h (none_waits_lem e) k = k
turn_fitting g f h (not_head u q e s) k = k
turn_fitting g f h (failed u q e s n) k = record { numbers = k.numbers; rows = k.rows }
turn_fitting g f h (stored u q n e s t) k = record { numbers = k.numbers; rows = stored_fits g.table f h k.rows }

row_fitting : (g : State) (r : Row) (a : AddAnswer) → PossibleRow r → Fitting g → Fitting (applied g (add_row_by g r a).effect)
unfolding add_row_by
row_fitting g r (Ok u) p k =
    record { numbers = k.numbers; rows = all_append RowFits g.table (r ∷ []) k.rows (possible_fits r p, tt) }
row_fitting g r (Err x) p k = k

other_fitting : (g : Gateway) (o : OtherCall) → PossibleOther o → Fitting (view g) → Fitting (view (run_other g o).gateway)
unfolding run_other set_network_error with_error check_date with_checked_date
other_fitting g ReadHead p k = k
other_fitting g (SetNetworkError n) p k = record { numbers = (p, k.numbers.1); rows = k.rows }
other_fitting g CheckDate p k = record { numbers = k.numbers; rows = k.rows }
other_fitting g (Hand place lent) p k = k

pub fitting_kept : Invariant Possible Fitting
unfolding tick
fitting_kept =
    record {
      byte = λ g l x lent r m u k. used_fitting g l r u k;
      turn = λ g f h lent m t k. turn_fitting g f h t k;
      row = λ g r a m e k. row_fitting g r a m k;
      tick = λ g k. record { numbers = k.numbers; rows = k.rows };
      other = λ g o m k. other_fitting g o m k;
    }
