-- Demand 3, of every list of calls from every start. Assumes nothing.
use mathlib.Core.Path.{◌≡◌, refl, sym, ap, ◌∙◌, subst}
use mathlib.Core.Bool.{Bool, true, false, cond, false≢true}
use mathlib.Core.List.{List, [], ◌∷◌, ◌++◌, nil≢cons, head-eq_of_cons-eq, tail-eq_of_cons-eq}
use mathlib.Core.Option.{Option, none, some}
use Prim.Native.Nat.{ℕ}
use lib.Dec.{ltb}
use lib.ListN.{length}
use Rattle.lists.proofs.Clash.{clash}
use Rattle.devices.specs.declared.row.Row.{Row}
use Rattle.updates.specs.declared.update.Update.{Update}
use Rattle.gateway.specs.declared.gateway.Gateway.{Gateway}
use Rattle.gateway.specs.View.{view}
use Rattle.ledger.specs.Call.{Call, Answer, Made, run, gateway_after, calls_made}
use Rattle.ledger.specs.Call.Call.{AddRow, Byte, Tick, Turn, Other}
use Rattle.ledger.specs.Call.Answer.{Refused, Dropped, Done, Queued, Replied, RepliedTo, TimedOut, HeadIs}
use Rattle.ledger.specs.Ledger.{room_needed, Ledger, Ask, opened, is_queued, asked, feed, ledger_after}
use Rattle.ledger.specs.Demand3.{admission, admission_for, admission_due, CallRight}
use Rattle.ledger.specs.Demand3.Admission.{NotQueued, QueuedAs}
use Rattle.ledger.specs.Lives.{LifeRight, life, asked_by, just_queued}
use Rattle.ledger.specs.Start.{Start, gateway_of, rows_at, Begins}
use Rattle.ledger.specs.Statement.{calls_of, WholeFrom, WholeList}
use Rattle.ledger.proofs.Keeping.{Keeps, keeps_empty}
use Rattle.ledger.proofs.Invariants.{all_any, run_keeps, calls_keep}
use Rattle.ledger.proofs.Ruled.{Ruled, right_ruled, ruled_kept}
use Rattle.ledger.proofs.Dated.{Dated, dated_kept}
use Rattle.ledger.proofs.Readers.{fresh_begins, read_begins}
use Rattle.ledger.proofs.Calls.{Kept, kept_agrees, run_kept, run_right}
use Rattle.ledger.proofs.Lives.{life_right, call_queued}

-- ---- a list of calls, from a gateway and a ledger that are in step

calls_kept : (g : Gateway) (b : Ledger) (cs : List Call) → Kept (view g) b → Kept (view (gateway_after g cs)) (ledger_after b (calls_made g cs))
unfolding gateway_after calls_made ledger_after
calls_kept g b [] k = k
calls_kept g b (c ∷ cs) k = calls_kept (run g c).gateway (feed b c (run g c).answer) cs (run_kept g b c k)

-- a call of the list, at its place
place_right : (g : Gateway) (b : Ledger) (cs : List Call) (ms : List Made) (m : Made) (rest : List Made) → calls_made g cs ≡ ms ++ (m ∷ rest) → Kept (view g) b → Dated (view g)
    → CallRight (view (gateway_after g (calls_of ms))) (ledger_after b ms) m.call m.answer (view (gateway_after g (calls_of (ms ++ (m ∷ [])))))
unfolding gateway_after calls_made ledger_after
place_right g b [] [] m rest e k d = absurd (nil≢cons e)
place_right g b [] (x ∷ ms) m rest e k d = absurd (nil≢cons e)
place_right g b (c ∷ cs) [] m rest e k d =
    subst (λ (x : Made). CallRight (view g) b x.call x.answer (view (run g x.call).gateway)) (head-eq_of_cons-eq e) (run_right g b c k d)
place_right g b (c ∷ cs) (x ∷ ms) m rest e k d =
    subst
    (λ (y : Made).
    let h = (run g y.call).gateway in
    CallRight (view (gateway_after h (calls_of ms))) (ledger_after (feed b y.call y.answer) ms) m.call m.answer (view (gateway_after h (calls_of (ms ++ (m ∷ []))))))
    (head-eq_of_cons-eq e)
    (place_right (run g c).gateway (feed b c (run g c).answer) cs ms m rest (tail-eq_of_cons-eq e) (run_kept g b c k) (run_keeps Dated dated_kept g c tt d))

-- an update that a call of the list queued, along the calls after it
place_life : (g : Gateway) (b : Ledger) (cs : List Call) (ms : List Made) (m : Made) (rest : List Made) (a : Ask) → calls_made g cs ≡ ms ++ (m ∷ rest)
    → is_queued m.answer ≡ true → asked_by (ledger_after b ms) m.call ≡ some a → Kept (view g) b → LifeRight (view (gateway_after g cs)) (life rest (just_queued a) 0 [])
unfolding gateway_after calls_made ledger_after
place_life g b [] [] m rest a e q h k = absurd (nil≢cons e)
place_life g b [] (x ∷ ms) m rest a e q h k = absurd (nil≢cons e)
place_life g b (c ∷ cs) [] m rest a e q h k =
    let here : record { call = c; answer = (run g c).answer } ≡ m = head-eq_of_cons-eq e in
    subst (λ (l : List Made). LifeRight (view (gateway_after (run g c).gateway cs)) (life l (just_queued a) 0 [])) (tail-eq_of_cons-eq e)
    (life_right (run g c).gateway (feed b c (run g c).answer) cs (just_queued a) 0 [] (run_kept g b c k)
    (call_queued b c a (run g c).answer (ap (λ (y : Made). is_queued y.answer) here ∙ q) (ap (λ (y : Made). asked_by b y.call) here ∙ h)) tt)
place_life g b (c ∷ cs) (x ∷ ms) m rest a e q h k =
    let here : record { call = c; answer = (run g c).answer } ≡ x = head-eq_of_cons-eq e in
    place_life (run g c).gateway (feed b c (run g c).answer) cs ms m rest a (tail-eq_of_cons-eq e) q
    (ap (λ (y : Made). asked_by (ledger_after (feed b y.call y.answer) ms) m.call) here ∙ h) (run_kept g b c k)

-- ---- a byte that is answered queued has completed an Update

queued_as : (a : Answer) → is_queued a ≡ true → (n : ℕ) × (admission a ≡ QueuedAs n)
queued_as (Refused n) e = absurd (false≢true e)
queued_as (Dropped n k) e = absurd (false≢true e)
queued_as Done e = absurd (false≢true e)
queued_as (Queued n) e = (n, refl)
queued_as (Replied b) e = absurd (false≢true e)
queued_as (RepliedTo l b) e = absurd (false≢true e)
queued_as (TimedOut fs) e = absurd (false≢true e)
queued_as (HeadIs l f v) e = absurd (false≢true e)

byte_asks : (b : Ledger) (n : ℕ) (c : Bool) (o : Option Ask) → cond c NotQueued (admission_for b o) ≡ QueuedAs n → (a : Ask) × (cond c none o ≡ some a)
byte_asks b n true o e = clash cc
byte_asks b n false none e = clash cc
byte_asks b n false (some a) e = (a, refl)

call_asks : (b : Ledger) (c : Call) (n : ℕ) → admission_due b c ≡ QueuedAs n → (a : Ask) × (asked_by b c ≡ some a)
call_asks b (AddRow r) n e = clash cc
call_asks b (Byte l x lent) n e = byte_asks b n (ltb (length lent) room_needed) (asked b l x) e
call_asks b Tick n e = clash cc
call_asks b (Turn f v lent) n e = clash cc
call_asks b (Other o) n e = clash cc

-- ---- from a gateway that begins a list

module _ (g : Gateway) (rows : List Row) (b : Begins g rows) where
  begins_kept : Kept (view g) (opened rows)
  unfolding opened
  begins_kept = record { receivers = b.receivers; table = b.table; in_step = subst (λ (q : List Update). Keeps q [] [] 0) (sym b.none_waits) keeps_empty }

  begins_ruled : Ruled (view g).table
  begins_ruled = subst Ruled (sym b.table) (right_ruled rows b.rows_right)

  pub whole_from : (cs : List Call) → WholeFrom g rows cs
  whole_from cs =
      let book = opened rows in
      record {
        after_the_list = kept_agrees (view (gateway_after g cs)) (ledger_after book (calls_made g cs)) (calls_kept g book cs begins_kept) (calls_keep _ ruled_kept g cs (all_any cs) begins_ruled) (calls_keep Dated dated_kept g cs (all_any cs) b.date);
        at_each_call = λ ms m rest e. place_right g book cs ms m rest e begins_kept b.date;
        lives = λ ms m rest e q.
            let d = (place_right g book cs ms m rest e begins_kept b.date).queueing in
            let n = queued_as m.answer q in
            let a = call_asks (ledger_after book ms) m.call n.0 (sym d ∙ n.1) in
            (a.0, a.1, place_life g book cs ms m rest a.0 e q a.1 begins_kept);
      }

-- ---- from a start

pub begins : (s : Start) → Begins (gateway_of s) (rows_at s)
begins (Start.fresh w p) = fresh_begins w p
begins (Start.read w p n bytes) = read_begins w p n bytes

pub whole_list : (s : Start) (cs : List Call) → WholeList s cs
whole_list s cs = whole_from (gateway_of s) (rows_at s) (begins s) cs
