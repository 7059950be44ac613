-- The two lines of any gateway state (document 02, M-106). Assumes nothing.
use mathlib.Core.Path.{◌≡◌, refl, sym, ap, ◌∙◌}
use mathlib.Core.Bool.{Bool, true, false, cond, true≢false}
use mathlib.Core.List.{List, [], ◌∷◌, ◌++◌}
use Prim.Native.Nat.{ℕ}
use lib.Dec.{ltb, leb}
use lib.ListN.{length}
use borrow.Author.Tests.{leb-false}
use Rattle.std.specs.Prelude as std
use Rattle.std.specs.Prelude.{Option, Some, None, Ok, Err}
use Rattle.lists.proofs.Clash.{clash}
use Rattle.lists.proofs.Filters.{or_left}
use Rattle.tpck.specs.declared.event.Event.{Event}
use Rattle.tpck.specs.declared.event.Event.TheVariants as event
use Rattle.tpck.specs.Frame.{data_of}
use Rattle.tpck.specs.Receive as receive
use Rattle.devices.specs.declared.field.Field.{Field}
use Rattle.devices.specs.Field.{same_field}
use Rattle.devices.specs.Table.{accepts}
use Rattle.updates.specs.declared.line.Line.{Line}
use Rattle.updates.specs.declared.line.Line.TheVariants.{Controller, Panel}
use Rattle.updates.specs.declared.update.Update.{Update}
use Rattle.updates.specs.Line.{same_line}
use Rattle.updates.specs.Update.{line_in}
use Rattle.updates.specs.Queue.{waits, from_line, lacks_room, full, push_answer}
use Rattle.updates.proofs.Places.{line_of_number}
use Rattle.trpc.specs.declared.judging.FrameError.{FrameError}
use Rattle.trpc.specs.declared.judging.Judged.{Judged}
use Rattle.trpc.specs.declared.judging.Judged.TheVariants as judged
use Rattle.trpc.specs.Judging.{judge}
use Rattle.gateway.specs.declared.answers.ByteAnswer.{ByteAnswer}
use Rattle.gateway.specs.declared.answers.ByteAnswer.TheVariants as byte
use Rattle.gateway.specs.declared.answers.TurnAnswer.{TurnAnswer}
use Rattle.gateway.specs.declared.answers.TurnAnswer.TheVariants as turn
use Rattle.gateway.specs.Lines.{Receivers, receiver_of, with_receiver}
use Rattle.gateway.specs.State.{State, applied, Result}
use Rattle.gateway.specs.Reply.{room}
use Rattle.gateway.specs.Byte.{new_update, enqueue, admit_if, admit, reply_at_once, frame_judged, frame, byte_event, byte_in, byte}
use Rattle.gateway.specs.Turn.{try_failed, try_confirmed, try_if, try_value, try_heard, turn_head, turn_queue, turn_in, turn}
use Rattle.gateway.specs.Apart.{QueuedOn, ByteApart, ToldOn}
use Rattle.gateway.proofs.Parts.{on_same}

-- ---- the receivers

on_other : (r : Receivers) (m l : Line) (s : receive.State) → same_line m l ≡ false → receiver_of (with_receiver r l s) m ≡ receiver_of r m
on_other r Controller Controller s e = absurd (true≢false e)
on_other r Controller Panel s e = refl
on_other r Panel Controller s e = refl
on_other r Panel Panel s e = absurd (true≢false e)

-- ---- what is queued

module _ (g : State) (l : Line) where
  -- a result that tells queued has queued an update of the line
  abbrev Queues : Result ByteAnswer → Type 0
  Queues x = (k : ℕ) → x.answer ≡ byte.Queued k → QueuedOn g l (applied g x.effect)

  push_queues : (f : Field) (v : ℕ) → waits g.queue f ≡ false → (lacks : Bool) → lacks_room g.queue (line_in (new_update l f v)) ≡ lacks
      → Queues (enqueue g.queue (new_update l f v) (cond lacks (Err full) (Ok (length (g.queue ++ (new_update l f v ∷ []))))))
  unfolding enqueue lacks_room
  push_queues f v w true e k h = clash cc
  push_queues f v w false e k h =
      record {
        update = new_update l f v;
        at_tail = refl;
        line = line_of_number l;
        new = w;
        room = leb-false 8 (length (from_line l g.queue)) (or_left (leb 8 (length (from_line l g.queue))) _ (ap (lacks_room g.queue) (sym (line_of_number l)) ∙ e));
      }

  admit_queues : (f : Field) (v : ℕ) (already : Bool) → waits g.queue f ≡ already → Queues (admit_if g.queue l f v already)
  unfolding admit_if push_answer
  admit_queues f v true w k h = clash cc
  admit_queues f v false w k h = push_queues f v w (lacks_room g.queue (line_in (new_update l f v))) refl k h

  judged_queues : (content : List ℕ) (j : std.Result Judged FrameError) → Queues (frame_judged g l content j)
  unfolding frame_judged admit reply_at_once
  judged_queues content (Err e) k h = clash cc
  judged_queues content (Ok (judged.Asks f v)) k h = admit_queues f v (waits g.queue f) refl k h
  judged_queues content (Ok (judged.Answers e s)) k h = clash cc

  event_queues : (body : List ℕ) (v : Event) → Queues (byte_event g l body v)
  unfolding byte_event frame
  event_queues body event.Nothing k h = clash cc
  event_queues body (event.Dropped d n) k h = clash cc
  event_queues body (event.Frame ptype size) k h = judged_queues (data_of body) (judge ptype (data_of body) g.table) k h

-- ---- a byte

module _ (g : State) (l : Line) (b n : ℕ) where
  abbrev s : receive.Step
  s = receive.step (receiver_of g.receivers l) b

  abbrev after : (short : Bool) → State
  after short = applied g (byte_in g l s short).effect

  other_stays : (short : Bool) (m : Line) → same_line m l ≡ false → receiver_of (after short).receivers m ≡ receiver_of g.receivers m
  unfolding byte_in
  other_stays true m e = refl
  other_stays false m e = on_other g.receivers m l s.next e

  own_steps : (short : Bool) → receiver_of (after short).receivers l ≡ cond short (receiver_of g.receivers l) s.next
  unfolding byte_in
  own_steps true = refl
  own_steps false = on_same g.receivers l s.next

  byte_queues : (short : Bool) (k : ℕ) → (byte_in g l s short).answer ≡ byte.Queued k → QueuedOn g l (after short)
  unfolding byte_in
  byte_queues true k h = clash cc
  byte_queues false k h =
      let q = event_queues g l s.next.body s.event k h in
      record { update = q.update; at_tail = q.at_tail; line = q.line; new = q.new; room = q.room }

  pub byte_apart : ByteApart g l b n
  unfolding byte
  byte_apart = record { other = other_stays (ltb n room); own = own_steps (ltb n room); queues = byte_queues (ltb n room) }

-- ---- a turn

module _ (g : State) (f : Field) where
  abbrev Tells : Line → Result TurnAnswer → Type 0
  Tells m x = (l : Line) (k : ℕ) → x.answer ≡ turn.Replied l k → m ≡ l

  value_tells : (m : Line) (v : ℕ) (legal : Bool) → Tells m (try_if g m f v legal)
  unfolding try_if try_failed try_confirmed
  value_tells m v false l k e = clash cc
  value_tells m v true l k e = cc

  heard_tells : (m : Line) (h : Option ℕ) → Tells m (try_heard g m f h)
  unfolding try_heard try_failed try_value
  heard_tells m None l k e = clash cc
  heard_tells m (Some v) l k e = value_tells m v (accepts g.table f v) l k e

  head_tells : (m : Line) (h : Option ℕ) (head : Bool) → Tells m (turn_head g m f h head)
  unfolding turn_head
  head_tells m h false l k e = clash cc
  head_tells m h true l k e = heard_tells m h l k e

  queue_tells : (h : Option ℕ) (q : List Update) (l : Line) (k : ℕ) → (turn_queue g f h q).answer ≡ turn.Replied l k → (u : Update) × (r : List Update) × (q ≡ u ∷ r) × (line_in u ≡ l)
  unfolding turn_queue
  queue_tells h [] l k e = clash cc
  queue_tells h (u ∷ q) l k e = (u, q, refl, head_tells (line_in u) h (same_field f u.field) l k e)

pub turn_told : (g : State) (f : Field) (h : Option ℕ) (n : ℕ) → ToldOn g f h n
unfolding turn turn_in
turn_told g f h n = go (ltb n room)
  where
    go : (short : Bool) (l : Line) (k : ℕ) → (turn_in g f h short).answer ≡ turn.Replied l k → (u : Update) × (q : List Update) × (g.queue ≡ u ∷ q) × (line_in u ≡ l)
    go true l k e = clash cc
    go false l k e = queue_tells g f h g.queue l k e
