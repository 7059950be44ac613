-- No reply is too long for its buffer (document 02, M-110): of every state, every byte and every turn, whatever the buffer. Assumes
-- nothing.
use mathlib.Core.Path.{◌≡◌, refl}
use mathlib.Core.Bool.{Bool, true, false}
use mathlib.Core.List.{List, [], ◌∷◌}
use Prim.Native.Nat.{ℕ}
use lib.Dec.{ltb}
use Rattle.std.specs.Prelude as std
use Rattle.std.specs.Prelude.{Option, Some, None, Ok, Err}
use Rattle.tpck.specs.declared.event.Event.{Event}
use Rattle.tpck.specs.declared.event.Event.TheVariants as event
use Rattle.tpck.specs.Frame.{data_of}
use Rattle.tpck.specs.Receive as receive
use Rattle.devices.specs.declared.field.Field.{Field}
use Rattle.devices.specs.Field.{same_field}
use Rattle.devices.specs.Table.{accepts}
use Rattle.updates.specs.declared.line.Line.{Line}
use Rattle.updates.specs.declared.update.Update.{Update}
use Rattle.updates.specs.Update.{line_in}
use Rattle.updates.specs.declared.queue.QueueFull.{QueueFull}
use Rattle.updates.specs.Queue.{waits, push_answer}
use Rattle.updates.proofs.Room.{push_few}
use Rattle.trpc.specs.declared.judging.FrameError.{FrameError}
use Rattle.trpc.specs.declared.judging.Judged.{Judged}
use Rattle.trpc.specs.declared.judging.Judged.TheVariants as judged
use Rattle.trpc.specs.Judging.{judge}
use Rattle.trpc.specs.Replies.{respond, confirm}
use Rattle.trpc.proofs.Widths.{reply_fits, confirm_fits}
use Rattle.gateway.specs.declared.answers.ByteRefusal.TheVariants as byteRefusal
use Rattle.gateway.specs.declared.answers.ByteAnswer.{ByteAnswer}
use Rattle.gateway.specs.declared.answers.TurnRefusal.TheVariants as turn_refusal
use Rattle.gateway.specs.declared.answers.TurnAnswer.{TurnAnswer}
use Rattle.gateway.specs.Lines.{receiver_of}
use Rattle.gateway.specs.State.{State, Result}
use Rattle.gateway.specs.Reply.{room}
use Rattle.gateway.specs.Writes.{ByteWrites, TurnWrites}
use Rattle.gateway.specs.Writes.ByteWrites.{nothing, refused, queued, replied}
use Rattle.gateway.specs.Writes.TurnWrites.{untried, failed, stored}
use Rattle.gateway.specs.Byte.{new_update, enqueue, admit_if, admit, reply_at_once, frame_judged, frame, byte_event, byte_in, byte}
use Rattle.gateway.specs.Turn.{try_failed, try_confirmed, try_if, try_value, try_heard, turn_head, turn_queue, turn_in, turn}
use Rattle.gateway.proofs.Replies.{fits}

-- ---- a byte

abbrev OfByte : Result ByteAnswer → Type 0
OfByte x = ByteWrites x.answer x.reply

module _ (g : State) where
  enqueue_writes : (u : Update) (a : std.Result ℕ QueueFull) → push_answer g.queue u ≡ a → OfByte (enqueue g.queue u a)
  unfolding enqueue
  enqueue_writes u (Err x) e = refused byteRefusal.QueueFull
  enqueue_writes u (Ok n) e = queued n (push_few g.queue u n e)

  admit_writes : (l : Line) (f : Field) (v : ℕ) (already : Bool) → OfByte (admit_if g.queue l f v already)
  unfolding admit_if
  admit_writes l f v true = refused byteRefusal.FieldWaits
  admit_writes l f v false = enqueue_writes (new_update l f v) (push_answer g.queue (new_update l f v)) refl

  frame_writes : (l : Line) (content : List ℕ) (j : std.Result Judged FrameError) → OfByte (frame_judged g l content j)
  unfolding frame_judged admit reply_at_once
  frame_writes l content (Err e) = refused (byteRefusal.Rejected e)
  frame_writes l content (Ok (judged.Asks f v)) = admit_writes l f v (waits g.queue f)
  frame_writes l content (Ok (judged.Answers e s)) =
      let reply = (respond content e s g.properties g.table).content in
      replied reply (fits reply (reply_fits content e g.properties g.table s))

  pub event_writes : (l : Line) (body : List ℕ) (e : Event) → OfByte (byte_event g l body e)
  unfolding byte_event frame
  event_writes l body event.Nothing = nothing
  event_writes l body (event.Dropped d n) = refused (byteRefusal.Dropped d n)
  event_writes l body (event.Frame ptype size) = frame_writes l (data_of body) (judge ptype (data_of body) g.table)

pub byte_writes : (g : State) (l : Line) (b n : ℕ) → ByteWrites (byte g l b n).answer (byte g l b n).reply
unfolding byte byte_in
byte_writes g l b n = go (ltb n room)
  where
    s : receive.Step
    s = receive.step (receiver_of g.receivers l) b

    go : (short : Bool) → OfByte (byte_in g l s short)
    go true = refused byteRefusal.Short
    go false = event_writes g l s.next.body s.event

-- ---- a turn

abbrev OfTurn : Result TurnAnswer → Type 0
OfTurn x = TurnWrites x.answer x.reply

module _ (g : State) (f : Field) where
  value_writes : (l : Line) (v : ℕ) (legal : Bool) → OfTurn (try_if g l f v legal)
  unfolding try_if try_failed try_confirmed
  value_writes l v false = failed
  value_writes l v true = stored l (confirm f v) (fits (confirm f v) (confirm_fits f v))

  heard_writes : (l : Line) (h : Option ℕ) → OfTurn (try_heard g l f h)
  unfolding try_heard try_failed try_value
  heard_writes l None = failed
  heard_writes l (Some v) = value_writes l v (accepts g.table f v)

  head_writes : (l : Line) (h : Option ℕ) (head : Bool) → OfTurn (turn_head g l f h head)
  unfolding turn_head
  head_writes l h false = untried turn_refusal.NotHead
  head_writes l h true = heard_writes l h

  queue_writes : (h : Option ℕ) (q : List Update) → OfTurn (turn_queue g f h q)
  unfolding turn_queue
  queue_writes h [] = untried turn_refusal.NoneWaits
  queue_writes h (u ∷ q) = head_writes (line_in u) h (same_field f u.field)

pub turn_writes : (g : State) (f : Field) (h : Option ℕ) (n : ℕ) → TurnWrites (turn g f h n).answer (turn g f h n).reply
unfolding turn turn_in
turn_writes g f h n = go (ltb n room)
  where
    go : (short : Bool) → OfTurn (turn_in g f h short)
    go true = untried turn_refusal.Short
    go false = queue_writes g f h g.queue
