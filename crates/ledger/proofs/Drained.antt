-- Drained: calls that bring no byte and 120 ticks leave none waiting, whatever gateway they start from. Assumes nothing.
use mathlib.Core.Path.{◌≡◌, refl, sym, subst}
use mathlib.Core.Bool.{Bool, true, false, cond, false≢true}
use mathlib.Core.List.{List, [], ◌∷◌, map}
use Prim.Native.Nat.{ℕ, suc, ◌+◌, ◌<◌, ◌≤◌}
use native.Mathlib.Omega.{arith}
use borrow.Author.Tests.{leb-false, not-true}
use Rattle.lists.specs.Filter.{filter, every, All}
use Rattle.lists.proofs.Filters.{all_append, all_imp}
use Rattle.devices.specs.declared.row.Row.{Row}
use Rattle.devices.specs.declared.field.Field.{Field}
use Rattle.ledger.specs.Call.{AddAnswer}
use Rattle.std.specs.Prelude.{Ok, Err}
use Rattle.updates.specs.declared.update.Update.{Update}
use Rattle.updates.specs.Update.{older, old, young}
use Rattle.updates.specs.Tick.{keeping}
use Rattle.gateway.specs.declared.gateway.Gateway.{Gateway}
use Rattle.ledger.specs.Call.{Heard}
use Rattle.gateway.specs.declared.answers.TurnAnswer.{TurnAnswer}
use Rattle.gateway.specs.State.{State, Effect, applied}
use Rattle.gateway.specs.Calls.{add_row_by, tick, set_network_error, check_date}
use Rattle.gateway.specs.View.{view}
use Rattle.gateway.proofs.Parts.{view_put}
use Rattle.ledger.specs.Call.{Call, OtherCall, run_other, run, gateway_after}
use Rattle.ledger.specs.Call.OtherCall.{ReadHead, SetNetworkError, CheckDate, Hand}
use Rattle.ledger.specs.Call.Call.{AddRow, Byte, Tick, Turn, Other}
use Rattle.ledger.specs.Drained.{no_byte, ticks_in, Drained}
use Rattle.ledger.proofs.Outcomes.{Turned}
use Rattle.ledger.proofs.Outcomes.Turned.{short, none_waits_lem, not_head, failed, stored}
use Rattle.ledger.proofs.Invariants.{Invariant, run_keeps}

-- an update that has waited through k ticks at least, and waits on
record Through (k : ℕ) (u : Update) : Type 0 where
  age : k ≤ u.age
  on : k < 120

-- those that wait have all waited so long
abbrev Since : ℕ → List Update → Type 0
Since k q = All (Through k) q

-- ---- a tick: one more

ticked : (k : ℕ) (u : Update) → Through k u → young (older u) ≡ true → Through (suc k) (older u)
ticked k u h e =
    let under : (older u).age < 120 = leb-false 120 (u.age + 1) (not-true (old (older u)) e) in
    record { age = omega (arith, h.age); on = omega (arith, h.age, under) }

since_tick : (k : ℕ) (q : List Update) → Since k q → Since (suc k) (keeping q)
unfolding keeping
since_tick k [] h = tt
since_tick k (u ∷ q) h = go (young (older u)) refl (since_tick k q h.1)
  where
    go : (c : Bool) → young (older u) ≡ c → Since (suc k) (filter young (map older q)) → Since (suc k) (cond c (older u ∷ filter young (map older q)) (filter young (map older q)))
    go true e r = (ticked k u h.0 e, r)
    go false e r = r

-- ---- the other calls: those that wait are the same, or fewer

since_less : (k : ℕ) (q : List Update) → Since (suc k) q → Since k q
since_less k q h = all_imp (Through (suc k)) (Through k) (λ u t. record { age = omega (arith, t.age); on = omega (arith, t.on) }) q h

abbrev NoByte : Call → Type 0
NoByte c = no_byte c ≡ true

module _ (k : ℕ) where
  turn_since : (g : State) (f : Field) (h : Heard) {c : Bool} {e : Effect} {a : TurnAnswer} → Turned g f h c e a → Since k g.queue → Since k (applied g e).queue
  turn_since g f h short s = s
  turn_since g f h (none_waits_lem e) s = s
  turn_since g f h (not_head u q e n) s = s
  turn_since g f h (failed u q e m n) s =
      let t : Since k (u ∷ q) = subst (λ (l : List Update). Since k l) e s in
      all_append (Through k) q (u ∷ []) t.1 (t.0, tt)
  turn_since g f h (stored u q n e m t) s =
      let t : Since k (u ∷ q) = subst (λ (l : List Update). Since k l) e s in
      t.1

  row_since : (g : State) (r : Row) (a : AddAnswer) → Since k g.queue → Since k (applied g (add_row_by g r a).effect).queue
  unfolding add_row_by
  row_since g r (Ok u) s = s
  row_since g r (Err x) s = s

  other_since : (g : Gateway) (o : OtherCall) → Since k (view g).queue → Since k (view (run_other g o).gateway).queue
  unfolding run_other set_network_error check_date
  other_since g ReadHead s = s
  other_since g (SetNetworkError n) s = s
  other_since g CheckDate s = s
  other_since g (Hand place lent) s = s

  since_kept : Invariant NoByte (λ g. Since k g.queue)
  unfolding tick
  since_kept =
      record {
        byte = λ g l x lent r m u s. absurd (false≢true m);
        turn = λ g f h lent m t s. turn_since g f h t s;
        row = λ g r a m e s. row_since g r a s;
        tick = λ g s. since_less k (keeping g.queue) (since_tick k g.queue s);
        other = λ g o m s. other_since g o s;
      }

  call_since : (g : Gateway) (c : Call) → no_byte c ≡ true → Since k (view g).queue → Since k (view (run g c).gateway).queue
  call_since g c m s = run_keeps (λ g. Since k g.queue) since_kept g c m s

-- ---- a list of calls

tick_since : (k : ℕ) (g : Gateway) → Since k (view g).queue → Since (suc k) (view (run g Tick).gateway).queue
unfolding run tick
tick_since k g s =
    subst (λ (x : State). Since (suc k) x.queue) (sym (view_put g (tick (view g)).effect)) (since_tick k (view g).queue s)

none_since : (k : ℕ) (q : List Update) → 120 ≤ k → Since k q → q ≡ []
none_since k [] h s = refl
none_since k (u ∷ q) h s = absurd (omega (arith, s.0.on))

drains : (k : ℕ) (g : Gateway) (cs : List Call) → every no_byte cs ≡ true → 120 ≤ ticks_in cs + k → Since k (view g).queue → (view (gateway_after g cs)).queue ≡ []
unfolding gateway_after
drains k g [] m h s = none_since k (view g).queue (omega arith) s
drains k g (AddRow r ∷ cs) m h s = drains k (run g (AddRow r)).gateway cs m (omega arith) (call_since k g (AddRow r) refl s)
drains k g (Byte l x lent ∷ cs) m h s = absurd (false≢true m)
drains k g (Tick ∷ cs) m h s = drains (suc k) (run g Tick).gateway cs m (omega arith) (tick_since k g s)
drains k g (Turn f v lent ∷ cs) m h s = drains k (run g (Turn f v lent)).gateway cs m (omega arith) (call_since k g (Turn f v lent) refl s)
drains k g (Other o ∷ cs) m h s = drains k (run g (Other o)).gateway cs m (omega arith) (call_since k g (Other o) refl s)

-- at first each update that waits has waited through no tick at least
pub drained : (g : Gateway) (cs : List Call) → Drained g cs
drained g cs m h = drains 0 g cs m (omega arith) (since_none (view g).queue)
  where
    since_none : (q : List Update) → Since 0 q
    since_none [] = tt
    since_none (u ∷ q) = (record { age = omega arith; on = omega arith }, since_none q)
