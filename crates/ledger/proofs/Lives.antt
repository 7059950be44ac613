-- The life of a queued update: what the ledger says of its wait, read along the calls that follow. Assumes nothing.
use mathlib.Core.Path.{◌≡◌, refl, sym, ap, subst}
use mathlib.Core.Bool.{Bool, true, false, cond, not}
use mathlib.Core.List.Memᴰ
use mathlib.Core.List.{List, [], ◌∷◌, map, Memᴰ}
use mathlib.Core.Option.{Option, none, some}
use Prim.Native.Nat.{ℕ, suc, ◌<◌}
use native.Mathlib.Omega.{arith}
use lib.Dec.{ltb}
use lib.ListN.{length}
use borrow.Author.Tests.{ltb-false}
use Rattle.lists.specs.Filter.{All}
use Rattle.lists.proofs.Clash.{clash}
use Rattle.lists.proofs.Filters.{all_append, mem_all, mem_filter, mem-map}
use Rattle.lists.proofs.Permutations.{mem_perm}
use Rattle.devices.specs.declared.row.Row.{Row}
use Rattle.devices.specs.declared.field.Field.{Field}
use Rattle.devices.specs.Field.{same_field}
use Rattle.updates.specs.declared.line.Line.{Line}
use Rattle.gateway.specs.declared.gateway.Gateway.{Gateway}
use Rattle.ledger.specs.Call.{Heard}
use Rattle.gateway.specs.Lines.{with_receiver}
use Rattle.gateway.specs.State.{State}
use Rattle.gateway.specs.View.{view}
use Rattle.ledger.specs.Call.{Call, Answer, run, gateway_after, calls_made}
use Rattle.ledger.specs.Call.Call.{AddRow, Byte, Tick, Turn, Other}
use Rattle.ledger.specs.Ledger.{room_needed, Wait, Ledger, Ask, is_refused, is_queued, is_replied, is_of, raised, retried, aged, stays, asked, new_wait, feed_byte, after_failure}
use Rattle.ledger.specs.Ledger.{step_on, with_receivers, wait_for, tried, feed_turn, feed_tick, feed_row, feed}
use Rattle.ledger.specs.Ledger.Ending.{TimedOut}
use Rattle.ledger.specs.Demand3.{Aged, of_wait, of_update, InTime}
use Rattle.ledger.specs.Lives.{Happening, happening, Life, later, and_tried, goes_on, life, LifeRight, asked_by, just_queued}
use Rattle.ledger.specs.Lives.Happening.{Nothing, Ticks, OtherTried, Tried}
use Rattle.ledger.specs.Lives.Life.{Ends}
use Rattle.ledger.proofs.Keeping.{keeps_in_time, keeps_held}
use Rattle.ledger.proofs.Calls.{Kept, run_kept}

-- among these waits is one with this field and ticks, and these turns
pub record Holds (w : List Wait) (e : Aged) (n : ℕ) : Type 0 where
  wait : Wait
  is_in : Memᴰ wait w
  agrees : of_wait wait ≡ e
  turns : wait.turns ≡ n

-- what a happening makes of it
abbrev Next : Happening → Ledger → Aged → ℕ → Type 0
Next Nothing b e n = Holds b.waiting e n
Next Ticks b e n = ltb (suc e.ticks) 120 ≡ true → Holds b.waiting (later e) n
Next OtherTried b e n = Holds b.waiting e (suc n)
Next (Tried true) b e n = Unit {0}
Next (Tried false) b e n = Holds b.waiting e 0

module _ (b : Ledger) (e : Aged) (n : ℕ) (h : Holds b.waiting e n) where
  abbrev own : Field
  own = h.wait.field

  field_is : own ≡ e.field
  field_is = ap (λ (x : Aged). x.field) h.agrees

  tried_next : (g : Field) (v : Heard) (s p : Bool) → same_field g e.field ≡ s → Next (cond s (Tried p) OtherTried) (tried b g v p) e n
  unfolding tried
  tried_next g v true true t = tt
  tried_next g v true false t =
      let i : is_of g h.wait ≡ true = rw field_is t in
      let m : retried h.wait ≡ after_failure g h.wait = rw i in
      record { wait = retried h.wait; is_in = Memᴰ.cast m (mem-map (after_failure g) h.is_in); agrees = h.agrees; turns = refl }
  tried_next g v false true t =
      let i : not (is_of g h.wait) ≡ true = rw (field_is, t) in
      record { wait = raised h.wait; is_in = mem-map raised (mem_filter (λ x. not (is_of g x)) i h.is_in); agrees = h.agrees; turns = ap suc h.turns }
  tried_next g v false false t =
      let i : is_of g h.wait ≡ false = rw field_is t in
      let m : raised h.wait ≡ after_failure g h.wait = rw i in
      record { wait = raised h.wait; is_in = Memᴰ.cast m (mem-map (after_failure g) h.is_in); agrees = h.agrees; turns = ap suc h.turns }

  turn_next : (g : Field) (v : Heard) (a : Answer) (r : Bool)
      → Next (cond r Nothing (cond (same_field g e.field) (Tried (is_replied a)) OtherTried)) (feed_turn b g v r a) e n
  unfolding feed_turn
  turn_next g v a true = h
  turn_next g v a false = tried_next g v (same_field g e.field) (is_replied a) refl

  byte_next : (l : Line) (x : ℕ) (c : Bool) (a : Answer) → Holds (feed_byte b l x c a).waiting e n
  unfolding feed_byte new_wait
  byte_next l x true a = h
  byte_next l x false a = go (is_queued a) (asked b l x)
    where
      go : (q : Bool) (o : Option Ask) → Holds (new_wait (with_receivers b (with_receiver b.receivers l (step_on b l x).next)) q o).waiting e n
      go false o = h
      go true none = h
      go true (some y) = record { wait = h.wait; is_in = Memᴰ.append_left _ h.is_in; agrees = h.agrees; turns = h.turns }

  row_next : (r : Row) (refused : Bool) → Holds (feed_row b r refused).waiting e n
  unfolding feed_row
  row_next r true = h
  row_next r false = h

  tick_next : ltb (suc e.ticks) 120 ≡ true → Holds (feed_tick b).waiting (later e) n
  unfolding feed_tick
  tick_next t =
      let s : stays (aged h.wait) ≡ true = rw (ap (λ (x : Aged). x.ticks) h.agrees) t in
      record { wait = aged h.wait; is_in = mem_filter stays s (mem-map aged h.is_in); agrees = ap later h.agrees; turns = h.turns }

  fed_next : (c : Call) (a : Answer) → Next (happening e.field c a) (feed b c a) e n
  unfolding feed
  fed_next (AddRow r) a = row_next r (is_refused a)
  fed_next (Byte l x lent) a = byte_next l x (ltb (length lent) room_needed) a
  fed_next Tick a = tick_next
  fed_next (Turn g v lent) a = turn_next g v a (is_refused a)
  fed_next (Other o) a = h

  module _ (g : State) (k : Kept g b) where
    in_time_lem : (e.ticks < 120) × (n < 16)
    in_time_lem =
        let i : InTime h.wait = mem_all InTime (keeps_in_time k.in_step) h.is_in in
        (rw (ap (λ (x : Aged). x.ticks) h.agrees) at i.ticks, rw h.turns at i.turns)

    in_queue : Memᴰ e (map of_update g.queue)
    in_queue = Memᴰ.cast (sym h.agrees) (mem_perm (keeps_held k.in_step) (mem-map of_wait h.is_in))

-- a wait that is not over, and was tried in time so far, lives on as demand 3 says
pub life_right : (g : Gateway) (b : Ledger) (cs : List Call) (e : Aged) (n : ℕ) (t : List ℕ) → Kept (view g) b → Holds b.waiting e n → All (λ m. m < 16) t
    → LifeRight (view (gateway_after g cs)) (life (calls_made g cs) e n t)
unfolding gateway_after calls_made
life_right g b [] e n t k h a =
    let time = in_time_lem b e n h (view g) k in
    (in_queue b e n h (view g) k, time.0, record { at_each = a; since = time.1 })
life_right g b (c ∷ cs) e n t k h a =
    go (happening e.field c (run g c).answer) (fed_next b e n h c (run g c).answer)
    (λ e' n' t' h' a'. life_right (run g c).gateway (feed b c (run g c).answer) cs e' n' t' (run_kept g b c k) h' a')
  where
    Goal : Life → Type 0
    Goal x = LifeRight (view (gateway_after (run g c).gateway cs)) x

    rest : Aged → ℕ → List ℕ → Life
    rest e' n' t' = life (calls_made (run g c).gateway cs) e' n' t'

    time : (e.ticks < 120) × (n < 16)
    time = in_time_lem b e n h (view g) k

    -- this try is in time too
    again : All (λ m. m < 16) (and_tried t n)
    again = all_append (λ m. m < 16) t (n ∷ []) a (time.1, tt)

    ticks : (d : Bool) → ltb (suc e.ticks) 120 ≡ d → (d ≡ true → Goal (rest (later e) n t)) → Goal (cond d (rest (later e) n t) (Ends TimedOut (later e) n t))
    ticks true z r = r refl
    ticks false z r = (omega (arith, ltb-false (suc e.ticks) 120 z, time.0), record { at_each = a; since = time.1 })

    go : (x : Happening) → Next x (feed b c (run g c).answer) e n
        → ((e' : Aged) (n' : ℕ) (t' : List ℕ) → Holds (feed b c (run g c).answer).waiting e' n' → All (λ m. m < 16) t' → Goal (rest e' n' t'))
        → Goal (goes_on x e n t (λ e' n' t'. rest e' n' t'))
    go Nothing x r = r e n t x a
    go Ticks x r = ticks (ltb (suc e.ticks) 120) refl (λ z. r (later e) n t (x z) a)
    go OtherTried x r = r e (suc n) t x a
    go (Tried true) x r = (time.0, record { at_each = again; since = time.1 })
    go (Tried false) x r = r e 0 (and_tried t n) x again

-- ---- the wait of an update that was just queued

new_wait_lem : (b : Ledger) (q : Bool) (o : Option Ask) (a : Ask) → q ≡ true → o ≡ some a → Holds (new_wait b q o).waiting (just_queued a) 0
unfolding new_wait
new_wait_lem b q o a e h =
    subst (λ (x : Option Ask). Holds (new_wait b q x).waiting (just_queued a) 0) (sym h)
    (subst (λ (x : Bool). Holds (new_wait b x (some a)).waiting (just_queued a) 0) (sym e)
    (record { wait = wait_for b a; is_in = Memᴰ.append_right b.waiting (Memᴰ.head refl); agrees = refl; turns = refl }))

byte_queued : (b : Ledger) (l : Line) (x : ℕ) (c : Bool) (a : Ask) (r : Answer) → is_queued r ≡ true → cond c none (asked b l x) ≡ some a
    → Holds (feed_byte b l x c r).waiting (just_queued a) 0
unfolding feed_byte
byte_queued b l x true a r e h = clash cc
byte_queued b l x false a r e h = new_wait_lem _ (is_queued r) (asked b l x) a e h

pub call_queued : (b : Ledger) (c : Call) (a : Ask) (r : Answer) → is_queued r ≡ true → asked_by b c ≡ some a → Holds (feed b c r).waiting (just_queued a) 0
unfolding feed
call_queued b (AddRow x) a r e h = clash cc
call_queued b (Byte l x lent) a r e h = byte_queued b l x (ltb (length lent) room_needed) a r e h
call_queued b Tick a r e h = clash cc
call_queued b (Turn f v lent) a r e h = clash cc
call_queued b (Other o) a r e h = clash cc
