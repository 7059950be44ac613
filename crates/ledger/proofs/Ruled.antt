-- Each call leaves a table as the rules have it, where it found one: every row by the rules, each address once, at most 32 rows.
-- Assumes nothing.
use mathlib.Core.Path.{◌≡◌, ap}
use mathlib.Core.Bool.{Bool, true, false}
use mathlib.Core.List.{List, [], ◌∷◌, ◌++◌, map}
use mathlib.Core.Option.{Option}
use Prim.Native.Nat.{ℕ, ◌≤◌}
use native.Mathlib.Omega.{arith}
use lib.Dec.{eqb}
use lib.ListN.{length, get_or, length-append}
use borrow.Author.Tests.{eqb-false}
use Rattle.lists.specs.Filter.{any, All}
use Rattle.lists.proofs.Filters.{or_left, or_right, all_append, all_imp, map-append}
use Rattle.lists.proofs.Searches.{change_map}
use Rattle.tpck.specs.Receive as receive
use Rattle.devices.specs.declared.row.Row.{Row}
use Rattle.devices.specs.declared.field.Field.{Field}
use Rattle.devices.specs.Field.{setting}
use Rattle.ledger.specs.Call.{AddAnswer}
use Rattle.std.specs.Prelude.{Ok, Err}
use Rattle.devices.specs.Row.{keeps_rules, with_value}
use Rattle.devices.specs.Table.{addressed, store, row_answer}
use Rattle.devices.proofs.Storing.{with_fixed, store_length}
use Rattle.devices.proofs.Rules.{Rules, rules_of, of_rules, store_rules, admitted}
use Rattle.updates.specs.declared.line.Line.{Line}
use Rattle.gateway.specs.declared.gateway.Gateway.{Gateway}
use Rattle.ledger.specs.Call.{Heard}
use Rattle.std.specs.Prelude.{None, Some}
use Rattle.gateway.specs.declared.answers.ByteAnswer.{ByteAnswer}
use Rattle.gateway.specs.declared.answers.TurnAnswer.{TurnAnswer}
use Rattle.gateway.specs.State.{State, Effect, after_step, applied}
use Rattle.gateway.specs.Calls.{add_row_by, tick, set_network_error, check_date}
use Rattle.gateway.specs.Turn.{stores}
use Rattle.gateway.specs.View.{view}
use Rattle.ledger.specs.Call.{OtherCall, run_other}
use Rattle.ledger.specs.Call.OtherCall.{ReadHead, SetNetworkError, CheckDate, Hand}
use Rattle.ledger.specs.Ledger.{Ask, stored_in}
use Rattle.ledger.specs.Demand3.{Distinct, RowsRight}
use Rattle.ledger.proofs.Outcomes.{Used, Turned}
use Rattle.ledger.proofs.Outcomes.Used.{quiet, dropped, rejected, replied, again, full, queued}
use Rattle.ledger.proofs.Outcomes.Turned.{short, none_waits_lem, not_head, failed, stored}
use Rattle.ledger.proofs.Invariants.{Invariant, Any}

-- the rows that adding and storing leave
pub record Ruled (l : List Row) : Type 0 where
  pub rules : All Rules l
  pub once : Distinct (map (λ r. r.address) l)
  pub few : length l ≤ 32

-- as the statement has it
pub ruled_right : (l : List Row) → Ruled l → RowsRight l
ruled_right l k = record { rules = all_imp Rules (λ r. keeps_rules r ≡ true) of_rules l k.rules; once = k.once; few = k.few }

pub right_ruled : (l : List Row) → RowsRight l → Ruled l
right_ruled l k = record { rules = all_imp (λ r. keeps_rules r ≡ true) Rules rules_of l k.rules; once = k.once; few = k.few }

pub none_ruled : Ruled []
none_ruled = record { rules = tt; once = tt; few = omega arith }

-- ---- a row more

pub distinct_append : (l : List ℕ) (x : ℕ) → Distinct l → All (λ y. y ≡ x → ⊥) l → Distinct (l ++ (x ∷ []))
distinct_append [] x d h = (tt, tt)
distinct_append (y ∷ l) x d h = (all_append (λ z. y ≡ z → ⊥) l (x ∷ []) d.0 (h.0, tt), distinct_append l x d.1 h.1)

pub address_new : (l : List Row) (a : ℕ) → any (addressed a) l ≡ false → All (λ b. b ≡ a → ⊥) (map (λ r. r.address) l)
address_new [] a e = tt
address_new (r ∷ l) a e =
    (eqb-false r.address a (or_left (eqb r.address a) _ e), address_new l a (or_right (eqb r.address a) _ e))

pub added_ruled : (l : List Row) (r : Row) → row_answer l r ≡ Ok tt → Ruled l → Ruled (l ++ (r ∷ []))
added_ruled l r e k =
    let a = admitted l r e in
    record {
      rules = all_append Rules l (r ∷ []) k.rules (a.rules, tt);
      once =
          rw (map-append (λ (x : Row). x.address) l (r ∷ []))
          (distinct_append (map (λ x. x.address) l) r.address k.once (address_new l r.address a.new));
      few = omega (arith, length-append l (r ∷ []), a.room);
    }

-- ---- a value stored

addresses_stay : (l : List Row) (f : Field) (v : ℕ) → map (λ r. r.address) (store l f v) ≡ map (λ r. r.address) l
unfolding store
addresses_stay l f v =
    change_map (addressed f.address) (λ r. with_value r (setting f) v) (λ r. r.address)
    (λ r. ap (λ (x : List ℕ). get_or x 0 0) (with_fixed r (setting f) v)) l

stored_ruled : (l : List Row) (f : Field) (h : Heard) → stores l f h ≡ true → Ruled l → Ruled (stored_in l f h)
unfolding stores
stored_ruled l f None e k = k
stored_ruled l f (Some v) e k =
    record {
      rules = store_rules l f v e k.rules;
      once = rw (addresses_stay l f v) k.once;
      few = omega (arith, store_length l f v, k.few);
    }

-- ---- each call

used_ruled : (g : State) (l : Line) (r : receive.State) {o : Option Ask} {e : Effect} {a : ByteAnswer} → Used g.queue g.properties o e a → Ruled g.table
    → Ruled (applied g (after_step l r e)).table
used_ruled g l r quiet k = k
used_ruled g l r (dropped d n) k = k
used_ruled g l r (rejected e) k = k
used_ruled g l r (replied s n d) k = k
used_ruled g l r (again a w) k = k
used_ruled g l r (full a w h) k = k
used_ruled g l r (queued a m w h) k = k

turn_ruled : (g : State) (f : Field) (h : Heard) {c : Bool} {e : Effect} {a : TurnAnswer} → Turned g f h c e a → Ruled g.table → Ruled (applied g e).table
turn_ruled g f h short k = k
turn_ruled g f h (none_waits_lem e) k = k
turn_ruled g f h (not_head u q e s) k = k
turn_ruled g f h (failed u q e s n) k = k
turn_ruled g f h (stored u q n e s t) k = stored_ruled g.table f h t k

row_ruled : (g : State) (r : Row) (a : AddAnswer) → row_answer g.table r ≡ a → Ruled g.table → Ruled (applied g (add_row_by g r a).effect).table
unfolding add_row_by
row_ruled g r (Ok u) e k = added_ruled g.table r e k
row_ruled g r (Err x) e k = k

other_ruled : (g : Gateway) (o : OtherCall) → Ruled (view g).table → Ruled (view (run_other g o).gateway).table
unfolding run_other set_network_error check_date
other_ruled g ReadHead k = k
other_ruled g (SetNetworkError n) k = k
other_ruled g CheckDate k = k
other_ruled g (Hand place lent) k = k

pub ruled_kept : Invariant Any (λ g. Ruled g.table)
unfolding tick
ruled_kept =
    record {
      byte = λ g l x lent r m u k. used_ruled g l r u k;
      turn = λ g f h lent m t k. turn_ruled g f h t k;
      row = λ g r a m e k. row_ruled g r a e k;
      tick = λ g k. k;
      other = λ g o m k. other_ruled g o k;
    }
