-- Each call keeps the ledger in step with the gateway, and is answered as demand 3 says. Assumes nothing.
use mathlib.Core.Path.{◌≡◌, refl, sym, ap, ◌∙◌, subst}
use mathlib.Core.Bool.{Bool, true, false, cond, not, true≢false, false≢true}
use mathlib.Core.List.{List, [], ◌∷◌, ◌++◌, map}
use mathlib.Core.Option.{Option, none, some}
use Prim.Native.Nat.{ℕ, zero, suc}
use native.Mathlib.Omega.{arith}
use lib.Dec.{ltb, leb, eqb}
use lib.ListN.{length, length-append}
use Rattle.lists.specs.Filter.{any}
use Rattle.lists.specs.Overlay.{overlay}
use Rattle.lists.proofs.Overlays.{overlay_take}
use Rattle.tpck.specs.Event.{drop_number, is_drop}
use Rattle.tpck.proofs.Drops.{drop_numbered}
use Rattle.tpck.specs.Receive as receive
use Rattle.devices.specs.declared.row.Row.{Row}
use Rattle.devices.specs.declared.field.Field.{Field}
use Rattle.devices.specs.declared.table.RowRefusal.{RowRefusal}
use Rattle.devices.specs.declared.table.RowRefusal.TheVariants.{BadRow, AddressInTable, TableFull}
use Rattle.ledger.specs.Call.{AddAnswer}
use Rattle.std.specs.Prelude.{Ok, Err}
use Rattle.devices.specs.Field.{Formed, same_field}
use Rattle.devices.specs.Row.{keeps_rules}
use Rattle.devices.specs.Table.{addressed, row_number, row_answer}
use Rattle.devices.proofs.Fields.{same_eq}
use Rattle.updates.specs.declared.line.Line.{Line}
use Rattle.updates.specs.declared.update.Update.{Update}
use Rattle.updates.specs.declared.update.LineField.{LineField}
use Rattle.updates.specs.Update.{line_in}
use Rattle.updates.specs.Queue.{waits, from_line, lacks_room}
use Rattle.updates.proofs.Places.{line_of_number, room_is}
use Rattle.updates.specs.Tick.{leaving, listed}
use Rattle.trpc.specs.declared.judging.FrameError.{FrameError}
use Rattle.trpc.specs.declared.judging.FrameError.TheVariants.{WrongType, TooShort, WrongService, UnknownMethod, ServiceNotUsed, WrongWidth, UnknownAddress, StateTooHigh}
use Rattle.trpc.specs.Judging.{number_of}
use Rattle.dates.specs.Date.{ValidOrNA}
use Rattle.trpc.specs.declared.properties.Properties.{Properties}
use Rattle.trpc.specs.Properties.{with_error}
use Rattle.gateway.specs.declared.gateway.Gateway.{Gateway}
use Rattle.ledger.specs.Call.{Heard}
use Rattle.gateway.specs.declared.answers.ByteAnswer.{ByteAnswer}
use Rattle.gateway.specs.declared.answers.TurnAnswer.{TurnAnswer}
use Rattle.gateway.specs.Lines.{Receivers, receiver_of, with_receiver}
use Rattle.gateway.specs.State.{State, Effect, after_step, applied, Result}
use Rattle.gateway.specs.Calls.{add_row_by, add_row, tick, head_in, head_of, set_network_error, check_date}
use Rattle.gateway.specs.Turn.{stores, turn}
use Rattle.gateway.specs.Byte.{byte_in, byte}
use Rattle.gateway.specs.View.{view, put}
use Rattle.gateway.proofs.Parts.{view_put}
use Rattle.gateway.proofs.DateChecks.{date_checked}
use Rattle.gateway.proofs.Taken.{frame_other, taken_right}
use Rattle.transfer.specs.declared.writer.HandRefusal.TheVariants.{Short, UpdatesWait}
use Rattle.transfer.specs.Hand.{HandAnswer}
use Rattle.transfer.specs.Hand.{line_at, hand_queue, hand_in, hand}
use Rattle.ledger.specs.Call.{Call, OtherCall, Answer, run_other, run, add_says, head_says, turn_says, refused_by, byte_says, hand_says, named_by, fields_of}
use Rattle.ledger.specs.Call.OtherCall.{ReadHead, SetNetworkError, CheckDate, Hand}
use Rattle.ledger.specs.Call.Call.{AddRow, Byte, Tick, Turn, Other}
use Rattle.ledger.specs.Call.Answer.{Refused, Dropped, Replied}
use Rattle.ledger.specs.Ledger.{most_rows, room_needed, Wait, Ledger, Ask, is_of, is_refused, is_queued, is_replied, asked, with_receivers, with_table, new_wait, feed_byte, tried, feed_turn, feed_tick, feed_row, feed}
use Rattle.ledger.specs.Demand3.{Agree, head_refusal, turn_refusal, no_field_refusal, refusal, head_field, admission, admitted_in, admission_for, head_answer, HeadRight, ErrorRight, DateRight, hand_refusal, frame_answer, HandRight, OtherRight, row_refusal, with_row, RowRight, is_short, drop_due, ToldRight, CallRight}
use Rattle.ledger.specs.Demand3.Admission.{NotQueued, NoRoom, QueuedAs}
use Rattle.ledger.proofs.Matching.{below_is}
use Rattle.ledger.proofs.Keeping.{InStep, keeps_waits, keeps_length, keeps_from, keeps_in_time, keeps_held, keeps_once, keeps_formed, keeps_goes, keeps_own, keeps_queued, keeps_confirmed, keeps_failed, keeps_tick}
use Rattle.ledger.proofs.Ruled.{Ruled, ruled_right}
use Rattle.ledger.proofs.Dropping.{said_counted, said_dropped}
use Rattle.ledger.proofs.Apart.{own_places_lem, room_served}
use Rattle.ledger.proofs.Outcomes.{Used, update_of, byte_used, Turned, turned}
use Rattle.ledger.proofs.Outcomes.Used.{quiet, dropped, rejected, replied, again, full, queued}
use Rattle.ledger.proofs.Outcomes.Turned.{short, none_waits_lem, not_head, failed, stored}

-- what holds between a gateway and a ledger
pub record Kept (g : State) (b : Ledger) : Type 0 where
  pub receivers : g.receivers ≡ b.receivers
  pub table : g.table ≡ b.table
  pub in_step : InStep g.queue b

pub kept_agrees : (g : State) (b : Ledger) → Kept g b → Ruled g.table → ValidOrNA g.properties.date → Agree g b
kept_agrees g b k h d =
    record {
      held = keeps_held k.in_step;
      once = keeps_once k.in_step;
      formed = keeps_formed k.in_step;
      in_time = keeps_in_time k.in_step;
      places = λ l. omega (arith, keeps_from k.in_step l, k.in_step.placed l);
      accounted = k.in_step.accounted;
      ended_well = k.in_step.ended_well;
      table = k.table;
      receivers = k.receivers;
      rows = ruled_right g.table h;
      date = d;
    }

-- the ledger with the gateway's receivers and table, which are its own where the two are in step
abbrev beside : State → Ledger → Ledger
beside g b = with_table (with_receivers b g.receivers) g.table

beside_is : {g : State} {b : Ledger} → Kept g b → beside g b ≡ b
beside_is {b = b} k = λ i. record { receivers = k.receivers i; table = k.table i; queued = b.queued; waiting = b.waiting; ended = b.ended }

-- ---- in step: a byte

-- a byte that is refused, by a drop or else, queues nothing
refused_queues : (n taken : ℕ) → is_queued (refused_by n taken) ≡ false
refused_queues n taken = go (is_drop n)
  where
    go : (d : Bool) → is_queued (cond d (Dropped n taken) (Refused n)) ≡ false
    go true = refl
    go false = refl

used_kept : (g : State) (l : Line) (r : receive.State) (b : Ledger) (buffer : List ℕ) {o : Option Ask} {e : Effect} {a : ByteAnswer} → Used g.queue g.properties o e a → InStep g.queue b
    → Kept (applied g (after_step l r e)) (new_wait (with_table (with_receivers b (with_receiver g.receivers l r)) g.table) (is_queued (byte_says a buffer)) o)
unfolding new_wait
used_kept g l r b buffer quiet k = record { receivers = refl; table = refl; in_step = k }
used_kept g l r b buffer (dropped d n) k = rw (refused_queues (drop_number d) n) (record { receivers = refl; table = refl; in_step = k })
used_kept g l r b buffer (rejected e) k = rw (refused_queues (number_of e) 0) (record { receivers = refl; table = refl; in_step = k })
used_kept g l r b buffer (replied s n d) k = record { receivers = refl; table = refl; in_step = k }
used_kept g l r b buffer (again a w) k = record { receivers = refl; table = refl; in_step = k }
used_kept g l r b buffer (full a w h) k = record { receivers = refl; table = refl; in_step = k }
used_kept g l r b buffer (queued a m w h) k =
    record { receivers = refl; table = refl; in_step = keeps_queued g.queue b a k m w h }

byte_kept : (g : State) (b : Ledger) (l : Line) (x : ℕ) (buffer : List ℕ) (c : Bool) → InStep g.queue b
    → let y = byte_in g l (receive.step (receiver_of g.receivers l) x) c in
    Kept (applied g y.effect) (feed_byte (beside g b) l x c (byte_says y.answer buffer))
unfolding byte_in feed_byte
byte_kept g b l x buffer true k = record { receivers = refl; table = refl; in_step = k }
byte_kept g b l x buffer false k =
    let s = receive.step (receiver_of g.receivers l) x in
    used_kept g l s.next b buffer (byte_used g l s) k

-- ---- in step: a turn

turn_kept : (g : State) (b : Ledger) (f : Field) (h : Heard) (buffer : List ℕ) {c : Bool} {e : Effect} {a : TurnAnswer} → Turned g f h c e a → InStep g.queue b
    → Kept (applied g e) (feed_turn (beside g b) f h (is_refused (turn_says a buffer)) (turn_says a buffer))
unfolding feed_turn tried
turn_kept g b f h buffer short k = record { receivers = refl; table = refl; in_step = k }
turn_kept g b f h buffer (none_waits_lem e) k = record { receivers = refl; table = refl; in_step = k }
turn_kept g b f h buffer (not_head u q e s) k = record { receivers = refl; table = refl; in_step = k }
turn_kept g b f h buffer (failed u q e s n) k =
    record { receivers = refl; table = refl; in_step = keeps_failed f h u q b s (subst (λ (l : List Update). InStep l b) e k) }
turn_kept g b f h buffer (stored u q n e s t) k =
    record { receivers = refl; table = refl; in_step = keeps_confirmed f h u q b s (subst (λ (l : List Update). InStep l b) e k) }

-- ---- in step: the others

row_kept : (g : State) (b : Ledger) (r : Row) (a : AddAnswer) → InStep g.queue b
    → Kept (applied g (add_row_by g r a).effect) (feed_row (beside g b) r (is_refused (add_says (add_row_by g r a).answer)))
unfolding add_row_by feed_row
row_kept g b r (Ok u) k = record { receivers = refl; table = refl; in_step = k }
row_kept g b r (Err e) k = record { receivers = refl; table = refl; in_step = k }

tick_kept : (g : State) (b : Ledger) → InStep g.queue b → Kept (applied g (tick g).effect) (feed_tick (beside g b))
unfolding tick feed_tick
tick_kept g b k = record { receivers = refl; table = refl; in_step = keeps_tick g.queue b k }

other_kept : (g : Gateway) (b : Ledger) (o : OtherCall) → InStep (view g).queue b → Kept (view (run_other g o).gateway) (beside (view g) b)
unfolding run_other set_network_error check_date
other_kept g b ReadHead k = record { receivers = refl; table = refl; in_step = k }
other_kept g b (SetNetworkError n) k = record { receivers = refl; table = refl; in_step = k }
other_kept g b CheckDate k = record { receivers = refl; table = refl; in_step = k }
other_kept g b (Hand place lent) k = record { receivers = refl; table = refl; in_step = k }

-- an effect put into the code's gateway
through : (g : Gateway) (e : Effect) {b : Ledger} → Kept (applied (view g) e) b → Kept (view (put g e)) b
through g e {b} k = subst (λ (s : State). Kept s b) (sym (view_put g e)) k

call_kept : (g : Gateway) (b : Ledger) (c : Call) → InStep (view g).queue b → Kept (view (run g c).gateway) (feed (beside (view g) b) c (run g c).answer)
unfolding run feed add_row byte turn
call_kept g b (AddRow r) k = through g (add_row (view g) r).effect (row_kept (view g) b r (row_answer (view g).table r) k)
call_kept g b (Byte l x lent) k =
    through g (byte (view g) l x (length lent)).effect (byte_kept (view g) b l x _ (ltb (length lent) room_needed) k)
call_kept g b Tick k = through g (tick (view g)).effect (tick_kept (view g) b k)
call_kept g b (Turn f h lent) k =
    through g (turn (view g) f h (length lent)).effect (turn_kept (view g) b f h _ (turned (view g) f h (ltb (length lent) room_needed)) k)
call_kept g b (Other o) k = other_kept g b o k

pub run_kept : (g : Gateway) (b : Ledger) (c : Call) → Kept (view g) b → Kept (view (run g c).gateway) (feed b c (run g c).answer)
run_kept g b c k =
    subst (λ (x : Ledger). Kept (view (run g c).gateway) (feed x c (run g c).answer)) (beside_is k) (call_kept g b c k.in_step)

-- ---- answers: numbers that speak neither of a short buffer nor of lack of room

record Else (n : ℕ) : Type 0 where
  not_short : eqb n 1 ≡ false
  not_full : eqb n 16 ≡ false

frame_else : (e : FrameError) → Else (number_of e)
frame_else WrongType = record { not_short = refl; not_full = refl }
frame_else TooShort = record { not_short = refl; not_full = refl }
frame_else WrongService = record { not_short = refl; not_full = refl }
frame_else UnknownMethod = record { not_short = refl; not_full = refl }
frame_else ServiceNotUsed = record { not_short = refl; not_full = refl }
frame_else WrongWidth = record { not_short = refl; not_full = refl }
frame_else UnknownAddress = record { not_short = refl; not_full = refl }
frame_else StateTooHigh = record { not_short = refl; not_full = refl }

row_else : (e : RowRefusal) → Else (row_number e)
row_else BadRow = record { not_short = refl; not_full = refl }
row_else AddressInTable = record { not_short = refl; not_full = refl }
row_else TableFull = record { not_short = refl; not_full = refl }

not_room : (n : ℕ) → Else n → admission (Refused n) ≡ NotQueued
not_room n e = rw e.not_full

-- ---- answers: a byte

module _ {q : List Update} (b : Ledger) (k : InStep q b) where
  -- by whether its line lacks room
  admitted_by : (a : Ask) (c : Bool) → lacks_room q (line_in (update_of a)) ≡ c → admitted_in b a.line ≡ cond (not c) (QueuedAs (suc (length q))) NoRoom
  admitted_by a c h =
      let l = a.line in
      let full : leb 8 (length (from_line l q)) ≡ c = sym (room_is q l k.placed) ∙ sym (ap (lacks_room q) (line_of_number l)) ∙ h in
      ap (λ (n : ℕ). cond (ltb n 8) (QueuedAs (suc (length b.waiting))) NoRoom) (keeps_from k l)
      ∙ ap (λ (t : Bool). cond t (QueuedAs (suc (length b.waiting))) NoRoom) (below_is (length (from_line l q)) 8 ∙ ap not full)
      ∙ ap (λ (n : ℕ). cond (not c) (QueuedAs (suc n)) NoRoom) (keeps_length k)

  -- an Update whose field waits, and one whose field does not
  asked_again : (a : Ask) → waits q a.field ≡ true → NotQueued ≡ admission_for b (some a)
  asked_again a w = rw (keeps_waits k a.field, w)

  asked_new : (a : Ask) → waits q a.field ≡ false → admitted_in b a.line ≡ admission_for b (some a)
  asked_new a w = rw (keeps_waits k a.field, w)

  used_admits : (buffer : List ℕ) {p : Properties} {o : Option Ask} {e : Effect} {a : ByteAnswer} → Used q p o e a → admission (byte_says a buffer) ≡ admission_for b o
  used_admits buffer quiet = refl
  used_admits buffer (dropped d n) = rw (drop_numbered d)
  used_admits buffer (rejected e) = rw (frame_other e) (not_room (number_of e) (frame_else e))
  used_admits buffer (replied s n d) = refl
  used_admits buffer (again a w) = asked_again a w
  used_admits buffer (full a w h) = sym (admitted_by a true h) ∙ asked_new a w
  used_admits buffer (queued a m w h) =
      let n : length (q ++ (update_of a ∷ [])) ≡ suc (length q) = omega (arith, length-append q (update_of a ∷ [])) in
      ap QueuedAs n ∙ sym (admitted_by a false h) ∙ asked_new a w

used_not_short : (buffer : List ℕ) {q : List Update} {p : Properties} {o : Option Ask} {e : Effect} {a : ByteAnswer} → Used q p o e a → is_short (byte_says a buffer) ≡ false
used_not_short buffer quiet = refl
used_not_short buffer (dropped d n) = rw (drop_numbered d)
used_not_short buffer (rejected e) = rw (frame_other e) (frame_else e).not_short
used_not_short buffer (replied s n d) = refl
used_not_short buffer (again a w) = refl
used_not_short buffer (full a w h) = refl
used_not_short buffer (queued a m w h) = refl

module _ (g : State) (l : Line) (x : ℕ) (buffer : List ℕ) where
  abbrev stepped : receive.Step
  stepped = receive.step (receiver_of g.receivers l) x

  abbrev said : Bool → Answer
  said c = byte_says (byte_in g l stepped c).answer buffer

  byte_admits : (b : Ledger) (c : Bool) → InStep g.queue b → admission (said c) ≡ cond c NotQueued (admission_for b (asked (beside g b) l x))
  unfolding byte_in
  byte_admits b true k = refl
  byte_admits b false k = used_admits b k buffer (byte_used g l stepped)

  byte_short : (c : Bool) → is_short (said c) ≡ c
  unfolding byte_in
  byte_short true = refl
  byte_short false = used_not_short buffer (byte_used g l stepped)

-- ---- answers: a turn

at_head : {g : State} (b : Ledger) (f : Field) (u : Update) (q : List Update) → g.queue ≡ u ∷ q → same_field f u.field ≡ true → Kept g b
    → (any (is_of f) b.waiting ≡ true) × (head_field g.queue ≡ some f)
unfolding waits
at_head b f u q e s k = (keeps_waits k.in_step f ∙ rw (e, s), rw e (ap some (sym (same_eq f u.field s))))

-- the head's field is one of document 01
head_formed : {l : List Update} (b : Ledger) (f : Field) (u : Update) (q : List Update) → l ≡ u ∷ q → same_field f u.field ≡ true → InStep l b → Formed f
head_formed b f u q e s k =
    let queue : InStep (u ∷ q) b = subst (λ (x : List Update). InStep x b) e k in
    subst Formed (sym (same_eq f u.field s)) queue.formed.0

module _ {g : State} {f : Field} {h : Heard} (buffer : List ℕ) where
  turn_refusal_lem : {c : Bool} {e : Effect} {a : TurnAnswer} → Turned g f h c e a → refusal (turn_says a buffer) ≡ turn_refusal c f g.queue
  turn_refusal_lem short = refl
  turn_refusal_lem (none_waits_lem e) = ap (head_refusal f) (sym e)
  turn_refusal_lem (not_head u q e s) = rw (e, s)
  turn_refusal_lem (failed u q e s n) = rw (e, s)
  turn_refusal_lem (stored u q n e s t) = rw (e, s)

  turn_found : (b : Ledger) {c : Bool} {e : Effect} {a : TurnAnswer} → Turned g f h c e a → Kept g b → is_refused (turn_says a buffer) ≡ false
      → (any (is_of f) b.waiting ≡ true) × (head_field g.queue ≡ some f)
  turn_found b short k r = absurd (true≢false r)
  turn_found b (none_waits_lem e) k r = absurd (true≢false r)
  turn_found b (not_head u q e s) k r = absurd (true≢false r)
  turn_found b (failed u q e s n) k r = at_head b f u q e s k
  turn_found b (stored u q n e s t) k r = at_head b f u q e s k

  turn_no_field : (b : Ledger) {c : Bool} {e : Effect} {a : TurnAnswer} → Turned g f h c e a → InStep g.queue b → (Formed f → ⊥)
      → refusal (turn_says a buffer) ≡ no_field_refusal c g.queue
  turn_no_field b short k n = refl
  turn_no_field b (none_waits_lem e) k n = ap (no_field_refusal false) (sym e)
  turn_no_field b (not_head u q e s) k n = ap (no_field_refusal false) (sym e)
  turn_no_field b (failed u q e s t) k n = absurd (n (head_formed b f u q e s k))
  turn_no_field b (stored u q m e s t) k n = absurd (n (head_formed b f u q e s k))

  turn_wrote : {c : Bool} {e : Effect} {a : TurnAnswer} → Turned g f h c e a → is_refused (turn_says a buffer) ≡ false → is_replied (turn_says a buffer) ≡ stores g.table f h
  turn_wrote short r = absurd (true≢false r)
  turn_wrote (none_waits_lem e) r = absurd (true≢false r)
  turn_wrote (not_head u q e s) r = absurd (true≢false r)
  turn_wrote (failed u q e s n) r = sym n
  turn_wrote (stored u q n e s t) r = sym t

  turn_told : (b : Ledger) {c : Bool} {e : Effect} {a : TurnAnswer} → Turned g f h c e a → InStep g.queue b → is_replied (turn_says a buffer) ≡ true → ToldRight b f (turn_says a buffer)
  turn_told b short k r = absurd (false≢true r)
  turn_told b (none_waits_lem e) k r = absurd (false≢true r)
  turn_told b (not_head u q e s) k r = absurd (false≢true r)
  turn_told b (failed u q e s n) k r = absurd (false≢true r)
  turn_told b (stored u q n e s t) k r =
      record { line = line_in u; told = refl; own = keeps_own f u q s b (subst (λ (x : List Update). InStep x b) e k) }

  turn_admits : {c : Bool} {e : Effect} {a : TurnAnswer} → Turned g f h c e a → admission (turn_says a buffer) ≡ NotQueued
  turn_admits short = refl
  turn_admits (none_waits_lem e) = refl
  turn_admits (not_head u q e s) = refl
  turn_admits (failed u q e s n) = refl
  turn_admits (stored u q n e s t) = refl

-- ---- answers: the others

row_admits : (g : State) (r : Row) (a : AddAnswer) → admission (add_says (add_row_by g r a).answer) ≡ NotQueued
unfolding add_row_by
row_admits g r (Ok u) = refl
row_admits g r (Err e) = not_room (row_number e) (row_else e)

-- the checks 19, 20, 21, by the answers of each
row_refusal_lem : (l : List Row) (r : Row) → refusal (add_says (row_answer l r)) ≡ row_refusal l r
unfolding row_answer
row_refusal_lem l r = go (keeps_rules r) (any (addressed r.address) l) (leb most_rows (length l))
  where
    go : (k t f : Bool)
        → refusal (add_says (cond (not k) (Err BadRow) (cond t (Err AddressInTable) (cond f (Err TableFull) (Ok tt)))))
        ≡ cond k (cond t (some 20) (cond f (some 21) none)) (some 19)
    go false t f = refl
    go true true f = refl
    go true false true = refl
    go true false false = refl

row_answered : (g : State) (r : Row) (a : AddAnswer) → (add_row_by g r a).answer ≡ a
unfolding add_row_by
row_answered g r (Ok u) = refl
row_answered g r (Err e) = refl

row_added : (g : State) (r : Row) (a : AddAnswer) → applied g (add_row_by g r a).effect ≡ with_row g r (is_refused (add_says (add_row_by g r a).answer))
unfolding add_row_by
row_added g r (Ok u) = refl
row_added g r (Err e) = refl

row_right : (g : Gateway) (b : Ledger) (r : Row) → (view g).table ≡ b.table → RowRight (view g) b r (run g (AddRow r)).answer (view (run g (AddRow r)).gateway)
unfolding run add_row
row_right g b r e =
    let a = row_answer (view g).table r in
    record {
      refused = ap (λ (x : AddAnswer). refusal (add_says x)) (row_answered (view g) r a) ∙ row_refusal_lem (view g).table r ∙ ap (λ (l : List Row). row_refusal l r) e;
      added = view_put g (add_row_by (view g) r a).effect ∙ row_added (view g) r a;
    }

head_admits : (q : List Update) → admission (head_says (head_in q)) ≡ NotQueued
unfolding head_in
head_admits [] = refl
head_admits (u ∷ q) = refl

hand_admits : (a : HandAnswer) (buffer : List ℕ) → admission (hand_says a buffer) ≡ NotQueued
hand_admits (Err Short) buffer = refl
hand_admits (Err UpdatesWait) buffer = refl
hand_admits (Ok zero) buffer = refl
hand_admits (Ok (suc n)) buffer = refl

other_admits : (g : Gateway) (o : OtherCall) → admission (run_other g o).answer ≡ NotQueued
unfolding run_other head_of
other_admits g ReadHead = head_admits (view g).queue
other_admits g (SetNetworkError n) = refl
other_admits g CheckDate = refl
other_admits g (Hand place lent) = hand_admits (hand (view g) place (length lent)).answer _

fields_read : (l : List LineField) → fields_of (listed l) ≡ map named_by l
unfolding listed
fields_read l = ap (map named_by) (overlay_take l _)

head_answered : (q : List Update) → head_says (head_in q) ≡ head_answer q
unfolding head_in
head_answered [] = refl
head_answered (u ∷ q) = refl

head_right : (g : Gateway) → HeadRight (view g) (run_other g ReadHead).answer (view (run_other g ReadHead).gateway)
unfolding run_other head_of
head_right g = record { answers = head_answered (view g).queue; unchanged = refl }

error_right : (g : Gateway) (n : ℕ) → ErrorRight (view g) n (run_other g (SetNetworkError n)).answer (view (run_other g (SetNetworkError n)).gateway)
unfolding run_other set_network_error with_error
error_right g n = record { answers = refl; set = refl }

date_right : (g : Gateway) → ValidOrNA (view g).properties.date → DateRight (view g) (run_other g CheckDate).answer (view (run_other g CheckDate).gateway)
unfolding run_other
date_right g d =
    record { answers = refl; no_effect = view_put g (check_date (view g)).effect ∙ (date_checked (view g)).stays d }

-- a frame's length, and the frame at the front of the buffer
pub frame_said : (line lent : List ℕ) → hand_says (Ok (length line)) (overlay line lent) ≡ frame_answer line
frame_said [] lent = refl
frame_said (x ∷ l) lent = ap Replied (overlay_take (x ∷ l) lent)

module _ (g : State) (place : ℕ) (lent : List ℕ) where
  abbrev handed : Result HandAnswer → Answer
  handed m = hand_says m.answer (overlay m.reply lent)

  frame_refusal : (line : List ℕ) → refusal (frame_answer line) ≡ none
  frame_refusal [] = refl
  frame_refusal (x ∷ l) = refl

  queue_refused : (q : List Update) (w : List Wait) → length w ≡ length q → refusal (handed (hand_queue g place q)) ≡ hand_refusal false w
  unfolding hand_queue
  queue_refused [] [] e = ap refusal (frame_said (line_at g place) lent) ∙ frame_refusal (line_at g place)
  queue_refused [] (s ∷ w) e = absurd (omega (arith, e))
  queue_refused (u ∷ q) [] e = absurd (omega (arith, e))
  queue_refused (u ∷ q) (s ∷ w) e = refl

  queue_wrote : (q : List Update) → is_refused (handed (hand_queue g place q)) ≡ false → handed (hand_queue g place q) ≡ frame_answer (line_at g place)
  unfolding hand_queue
  queue_wrote [] r = frame_said (line_at g place) lent
  queue_wrote (u ∷ q) r = absurd (true≢false r)

  hand_refused : (short : Bool) (w : List Wait) → length w ≡ length g.queue → refusal (handed (hand_in g place short)) ≡ hand_refusal short w
  unfolding hand_in
  hand_refused true w e = refl
  hand_refused false w e = queue_refused g.queue w e

  hand_wrote : (short : Bool) → is_refused (handed (hand_in g place short)) ≡ false → handed (hand_in g place short) ≡ frame_answer (line_at g place)
  unfolding hand_in
  hand_wrote true r = absurd (true≢false r)
  hand_wrote false r = queue_wrote g.queue r

hand_right : (g : Gateway) (b : Ledger) (place : ℕ) (lent : List ℕ) → InStep (view g).queue b
    → HandRight (view g) b place lent (run_other g (Hand place lent)).answer (view (run_other g (Hand place lent)).gateway)
unfolding run_other hand
hand_right g b place lent k =
    let short = ltb (length lent) room_needed in
    record {
      refused = hand_refused (view g) place lent short b.waiting (keeps_length k);
      wrote = hand_wrote (view g) place lent short;
      keeps = refl;
    }

other_right : (g : Gateway) (b : Ledger) (o : OtherCall) → InStep (view g).queue b → ValidOrNA (view g).properties.date
    → OtherRight (view g) b o (run_other g o).answer (view (run_other g o).gateway)
other_right g b ReadHead k d = head_right g
other_right g b (SetNetworkError n) k d = error_right g n
other_right g b CheckDate k d = date_right g d
other_right g b (Hand place lent) k d = hand_right g b place lent k

pub run_right : (g : Gateway) (b : Ledger) (c : Call) → Kept (view g) b → ValidOrNA (view g).properties.date → CallRight (view g) b c (run g c).answer (view (run g c).gateway)
unfolding run add_row byte turn tick
run_right g b (AddRow r) k d = record { queueing = row_admits (view g) r (row_answer (view g).table r); answering = row_right g b r k.table }
run_right g b (Byte l x lent) k d =
    let c = ltb (length lent) room_needed in
    let m = byte (view g) l x (length lent) in
    let on = ap (λ (y : Receivers). receiver_of y l) k.receivers in
    let due = byte_admits (view g) l x (overlay m.reply lent) b c k.in_step ∙ ap (λ (y : Ledger). cond c NotQueued (admission_for b (asked y l x))) (beside_is k) in
    record {
      queueing = due;
      answering =
          record {
            short = byte_short (view g) l x _ c;
            dropped = said_dropped (view g) l x _ c ∙ ap (λ (s : receive.State). drop_due c (receive.step s x)) on;
            counted = λ number taken e. said_counted (receiver_of (view g).receivers l) m.answer (overlay m.reply lent) (taken_right (view g) l x (length lent)) number taken e ∙ ap (λ (s : receive.State). length s.body) on;
            own_places = own_places_lem b l x c (byte_says m.answer (overlay m.reply lent)) due (omega (arith, keeps_from k.in_step l, k.in_step.placed l));
            served = room_served b l x c (byte_says m.answer (overlay m.reply lent)) due;
          };
    }
run_right g b Tick k d =
    let l = leaving (view g).queue in
    record {
      queueing = refl;
      answering = record { listed = fields_of (listed l); answers = refl; went = rw (fields_read l) (keeps_goes k.in_step) };
    }
run_right g b (Turn f h lent) k d =
    let t = turned (view g) f h (ltb (length lent) room_needed) in
    record {
      queueing = turn_admits _ t;
      answering =
          record {
            refused = turn_refusal_lem _ t;
            found = turn_found _ b t k;
            no_field = turn_no_field _ b t k.in_step;
            wrote = λ r. turn_wrote _ t r ∙ ap (λ (l : List Row). stores l f h) k.table;
            told = turn_told _ b t k.in_step;
          };
    }
run_right g b (Other o) k d = record { queueing = other_admits g o; answering = other_right g b o k.in_step d }
