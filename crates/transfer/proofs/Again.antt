-- What was accepted can be handed over in its turn: its rows keep the rules and have addresses of their own, and all of it fits into
-- frames. Assumes nothing.
use mathlib.Core.Path.{◌≡◌, refl, sym, subst}
use mathlib.Core.Bool.{Bool, true, false, cond, not}
use mathlib.Core.List.{List, [], ◌∷◌, ◌++◌}
use Prim.Native.Nat.{ℕ, ◌+◌, ◌<◌, ◌≤◌}
use native.Mathlib.Omega.{arith}
use lib.Dec.{leb}
use lib.ListN.{length, length-append}
use borrow.Author.Tests.{leb-false}
use Rattle.lists.specs.Filter.{All, any}
use Rattle.lists.proofs.Clash.{clash}
use Rattle.devices.specs.declared.row.Row.{Row}
use Rattle.std.specs.Prelude.{Ok, Err}
use Rattle.devices.specs.declared.table.RowRefusal.TheVariants.{BadRow, AddressInTable, TableFull}
use Rattle.devices.specs.Row.{keeps_rules}
use Rattle.devices.specs.Table.{addressed, row_answer, fresh_table}
use Rattle.devices.proofs.Rows.{rows_refill}
use Rattle.updates.specs.Queue.{waiting, fresh_queue}
use Rattle.trpc.specs.declared.properties.Properties.{Properties}
use Rattle.gateway.specs.State.{State}
use Rattle.gateway.specs.View.{view}
use Rattle.transfer.specs.declared.reader.Handover.{Handover}
use Rattle.transfer.specs.Reading.{read}
use Rattle.transfer.specs.Ready.{PropertiesFit, RowFits, OwnAddresses, Ready}
use Rattle.transfer.specs.Statement.{Addable, holding, Again}
use Rattle.transfer.proofs.Acceptance.{accepted_carried}

-- a row that was added
record Fresh (k : List Row) (r : Row) : Type 0 where
  rules : keeps_rules r ≡ true
  own : any (addressed r.address) k ≡ false
  room : length k < 32

added_fresh : (k : List Row) (r : Row) → row_answer k r ≡ Ok tt → Fresh k r
unfolding row_answer
added_fresh k r a = go (keeps_rules r) refl (any (addressed r.address) k) refl (leb 32 (length k)) refl a
  where
    go : (x : Bool) → keeps_rules r ≡ x → (y : Bool) → any (addressed r.address) k ≡ y → (z : Bool) → leb 32 (length k) ≡ z
        → cond (not x) (Err BadRow) (cond y (Err AddressInTable) (cond z (Err TableFull) (Ok (tt {0})))) ≡ Ok (tt {0}) → Fresh k r
    go false p y q z s a = clash cc
    go true p true q z s a = clash cc
    go true p false q true s a = clash cc
    go true p false q false s a = record { rules = p; own = q; room = leb-false 32 (length k) s }

-- and rows that were added one after the other
record Table (k l : List Row) : Type 0 where
  rules : All (λ r. keeps_rules r ≡ true) l
  own : OwnAddresses k l
  few : length k ≤ 32 → length k + length l ≤ 32

all_fresh : (k l : List Row) → Addable k l → Table k l
all_fresh k [] a = record { rules = tt; own = tt; few = λ h. omega arith }
all_fresh k (r ∷ l) a =
    let f = added_fresh k r a.0 in
    let t = all_fresh (k ++ r ∷ []) l a.1 in
    let n : length (k ++ r ∷ []) ≡ length k + 1 = length-append k (r ∷ []) in
    let m = f.room in
    record {
      rules = (f.rules, t.rules);
      own = (f.own, t.own);
      few = λ h. let z = t.few (omega arith) in omega arith;
    }

-- the state of a gateway that was read
held_state : Properties → List Row → State
held_state g l = view (holding g l).gateway

held_table : (g : Properties) (l : List Row) → (held_state g l).table ≡ l
unfolding held_state
held_table g l = rows_refill fresh_table l

held_queue : (g : Properties) (l : List Row) → (held_state g l).queue ≡ []
unfolding held_state waiting fresh_queue
held_queue g l = refl

held_properties : (g : Properties) (l : List Row) → (held_state g l).properties ≡ g
unfolding held_state
held_properties g l = refl

ready_held : (g : Properties) (l : List Row) → Addable [] l → PropertiesFit g → All RowFits l → Ready (held_state g l)
ready_held g l a k f =
    let t = all_fresh [] l a in
    let e = sym (held_table g l) in
    let m : length l ≤ 32 = omega (arith, t.few (omega arith)) in
    record {
      none_waits = held_queue g l;
      values = subst PropertiesFit (sym (held_properties g l)) k;
      fits = subst (All RowFits) e f;
      rules = subst (All (λ r. keeps_rules r ≡ true)) e t.rules;
      own_addresses = subst (OwnAddresses []) e t.own;
      few = subst (λ (m : List Row). length m ≤ 32) e m;
    }

pub accepted_ready : (f p n : ℕ) (bytes : List ℕ) → (read f p n bytes).answer ≡ Ok tt → Again f p n bytes
unfolding held_state
accepted_ready f p n bytes a =
    let h = accepted_carried f p n bytes a in
    record {
      ready = λ x y q.
          let k = h.fits x y q in
          subst (λ (z : Handover). Ready (view z.gateway)) (sym h.result) (ready_held h.values h.rows h.added k.0 k.1);
    }
