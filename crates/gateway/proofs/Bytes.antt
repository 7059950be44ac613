-- The byte call, by what its parts answer: one law for each way that it goes. Assumes nothing.
use mathlib.Core.Path.{◌≡◌, refl, sym, ap, ◌∙◌}
use mathlib.Core.Bool.{Bool, true, false}
use mathlib.Core.List.{List, []}
use mathlib.Core.Option.{none}
use Prim.Native.Nat.{ℕ, ◌<◌, ◌≤◌}
use borrow.Author.Tests.{lt-ltb, le-ltb}
use Rattle.std.specs.Prelude as std
use Rattle.std.specs.Prelude.{Ok, Err}
use Rattle.tpck.specs.declared.event.Drop.{Drop}
use Rattle.tpck.specs.declared.event.Event.{Event}
use Rattle.tpck.specs.declared.event.Event.TheVariants as event
use Rattle.tpck.specs.declared.receiver.Receiver.{Receiver}
use Rattle.tpck.specs.declared.receiver.Received.{Received}
use Rattle.tpck.specs.Frame.{data_of}
use Rattle.tpck.specs.Receive as receive
use Rattle.tpck.proofs.Theorems.{view_store}
use Rattle.devices.specs.declared.field.Field.{Field}
use Rattle.updates.specs.declared.line.Line.{Line}
use Rattle.updates.specs.declared.update.Update.{Update}
use Rattle.updates.specs.declared.queue.QueueFull as updates
use Rattle.updates.specs.Queue.{waiting, waits, push_answer}
use Rattle.trpc.specs.declared.judging.FrameError.{FrameError}
use Rattle.trpc.specs.declared.judging.Judged.{Judged}
use Rattle.trpc.specs.declared.judging.Judged.TheVariants as judged
use Rattle.trpc.specs.Judging.{judge}
use Rattle.gateway.specs.declared.answers.ByteRefusal.TheVariants.{Short, Dropped}
use Rattle.gateway.specs.declared.answers.ByteAnswer.{ByteAnswer}
use Rattle.gateway.specs.declared.answers.ByteAnswer.TheVariants as says
use Rattle.gateway.specs.declared.byte.Fed.{Fed}
use Rattle.gateway.specs.declared.gateway.Gateway.{Gateway}
use Rattle.gateway.specs.Lines.{Receivers}
use Rattle.gateway.specs.State.{State, nothing, Result, result}
use Rattle.gateway.specs.Byte.{refuse, new_update, enqueue, admit_if, admit, reply_at_once, frame_judged, frame, byte_event, stepped, byte_in, byte}
use Rattle.gateway.specs.Reply.{room}
use Rattle.gateway.specs.View.{receiver_on, receivers_with, view, put_receiver, put_queue, put}
use Rattle.gateway.specs.Results.{fed}
use Rattle.gateway.proofs.Parts.{view_on}

-- an update that is asked for changes the queue alone
module _ (g : Gateway) (l : Line) (f : Field) (v : ℕ) where
  abbrev QueuePut : Result ByteAnswer → Type 0
  QueuePut x = record { receivers = g.receivers; table = g.table; queue = put_queue g.queue x.effect.queue; properties = g.properties } ≡ put g x.effect

  enqueue_put : (u : Update) (a : std.Result ℕ updates.QueueFull) → QueuePut (enqueue (waiting g.queue) u a)
  unfolding enqueue
  enqueue_put u (Ok n) = refl
  enqueue_put u (Err e) = refl

  pub admit_put : QueuePut (admit (waiting g.queue) l f v)
  unfolding admit admit_if
  admit_put = go (waits (waiting g.queue) f)
    where
      go : (already : Bool) → QueuePut (admit_if (waiting g.queue) l f v already)
      go true = refl
      go false = enqueue_put (new_update l f v) (push_answer (waiting g.queue) (new_update l f v))

-- ---- an update that is to be queued has no reply

module _ (g : State) where
  enqueue_reply : (u : Update) (a : std.Result ℕ updates.QueueFull) → (enqueue g.queue u a).reply ≡ []
  unfolding enqueue
  enqueue_reply u (Ok n) = refl
  enqueue_reply u (Err e) = refl

  pub admit_reply : (l : Line) (f : Field) (v : ℕ) → (admit g.queue l f v).reply ≡ []
  unfolding admit admit_if
  admit_reply l f v = go (waits g.queue f)
    where
      go : (b : Bool) → (admit_if g.queue l f v b).reply ≡ []
      go true = refl
      go false = enqueue_reply (new_update l f v) (push_answer g.queue (new_update l f v))

-- ---- a frame leaves the receivers as they are, and is answered alike, whatever they hold

module _ (g : State) (l : Line) where
  enqueue_stays : (u : Update) (a : std.Result ℕ updates.QueueFull) → (enqueue g.queue u a).effect.receiver ≡ none
  unfolding enqueue
  enqueue_stays u (Ok n) = refl
  enqueue_stays u (Err e) = refl

  admit_stays : (f : Field) (v : ℕ) (already : Bool) → (admit_if g.queue l f v already).effect.receiver ≡ none
  unfolding admit_if
  admit_stays f v true = refl
  admit_stays f v false = enqueue_stays (new_update l f v) (push_answer g.queue (new_update l f v))

  judged_stays : (content : List ℕ) (j : std.Result Judged FrameError) → (frame_judged g l content j).effect.receiver ≡ none
  unfolding frame_judged admit reply_at_once
  judged_stays content (Err e) = refl
  judged_stays content (Ok (judged.Asks f v)) = admit_stays f v (waits g.queue f)
  judged_stays content (Ok (judged.Answers e s)) = refl

  frame_stays : (ptype : ℕ) (content : List ℕ) → (frame g l ptype content).effect.receiver ≡ none
  unfolding frame
  frame_stays ptype content = judged_stays content (judge ptype content g.table)

module _ (g : State) (r : Receivers) where
  abbrev moved : State
  moved = record { receivers = r; table = g.table; queue = g.queue; properties = g.properties }

  judged_moved : (l : Line) (content : List ℕ) (j : std.Result Judged FrameError) → frame_judged moved l content j ≡ frame_judged g l content j
  unfolding frame_judged reply_at_once
  judged_moved l content (Err e) = refl
  judged_moved l content (Ok (judged.Asks f v)) = refl
  judged_moved l content (Ok (judged.Answers e s)) = refl

  pub frame_moved : (l : Line) (ptype : ℕ) (content : List ℕ) → frame moved l ptype content ≡ frame g l ptype content
  unfolding frame
  frame_moved l ptype content = judged_moved l content (judge ptype content g.table)

-- ---- the byte call

module _ (g : State) (l : Line) (b n : ℕ) where
  pub byte_short : n < room → byte g l b n ≡ refuse Short
  unfolding byte byte_in
  byte_short h = rw (lt-ltb n room h)

-- with room for a reply; x is what the line's receiver hands back
module _ (g : Gateway) (l : Line) (b n : ℕ) (long : room ≤ n) (x : Received) (is : receive.receive (receiver_on g.receivers l) b ≡ x) where
  abbrev s : receive.Step
  s = receive.step (receive.view (receiver_on g.receivers l)) b

  next_is : receive.store (receiver_on g.receivers l) s.next ≡ x.next
  next_is = ap (λ (y : Received). y.next) is

  event_is : s.event ≡ x.event
  event_is = ap (λ (y : Received). y.event) is

  byte_long : byte (view g) l b n ≡ stepped l s.next (byte_event (view g) l s.next.body x.event)
  unfolding byte byte_in
  byte_long = rw (view_on g.receivers l, le-ltb n room long, event_is)

  -- a gateway with the receiver of the line as it has stepped
  abbrev after_step_of : Gateway → Gateway
  after_step_of h = record { receivers = receivers_with g.receivers l x.next; table = h.table; queue = h.queue; properties = h.properties }

  -- a result, and the step put in
  step_fed : (y : Result ByteAnswer) → ◌≡◌ {A = Fed} (record { gateway = after_step_of (fed g y).gateway; answer = y.answer }) (fed g (stepped l s.next y))
  step_fed y = rw (sym next_is)

  pub byte_nothing : x.event ≡ event.Nothing
      → (◌≡◌ {A = Fed} (record { gateway = after_step_of g; answer = says.Nothing }) (fed g (byte (view g) l b n))) × ((byte (view g) l b n).reply ≡ [])
  unfolding byte_event
  byte_nothing e = rw (byte_long, e) (step_fed (result nothing says.Nothing), refl)

  pub byte_dropped : (d : Drop) (taken : ℕ) → x.event ≡ event.Dropped d taken
      → (fed (after_step_of g) (refuse (Dropped d taken)) ≡ fed g (byte (view g) l b n)) × ((byte (view g) l b n).reply ≡ [])
  unfolding byte_event
  byte_dropped d taken e = rw (byte_long, e) (step_fed (refuse (Dropped d taken)), refl)

  -- the frame that stands in the receiver, with its content: the gateway whose receiver has stepped answers it
  pub byte_framed : (ptype size : ℕ) → x.event ≡ event.Frame ptype size → (content : List ℕ) → content ≡ data_of (receive.view x.next).body
      → let y = frame (view (after_step_of g)) l ptype content in (fed (after_step_of g) y ≡ fed g (byte (view g) l b n)) × (y.reply ≡ (byte (view g) l b n).reply)
  unfolding byte_event
  byte_framed ptype size e content h =
      let same = h ∙ ap (λ (r : Receiver). data_of (receive.view r).body) (sym next_is) ∙ ap (λ (t : receive.State). data_of t.body) (view_store (receiver_on g.receivers l) s.next) in
      let still = frame_moved (view g) (view (after_step_of g)).receivers l ptype (data_of s.next.body) in
      let own = frame (view g) l ptype (data_of s.next.body) in
      let kept : put_receiver (receivers_with g.receivers l x.next) own.effect.receiver ≡ receivers_with g.receivers l x.next =
      ap (put_receiver (receivers_with g.receivers l x.next)) (frame_stays (view g) l ptype (data_of s.next.body)) in
      rw (byte_long, e, same, still) (rw kept (step_fed own), refl)

-- ---- an event is answered alike, whatever the receivers hold

pub event_moved : (g : State) (r : Receivers) (l : Line) (body : List ℕ) (v : Event) → byte_event (moved g r) l body v ≡ byte_event g l body v
unfolding byte_event
event_moved g r l body event.Nothing = refl
event_moved g r l body (event.Dropped d n) = refl
event_moved g r l body (event.Frame ptype size) = frame_moved g r l ptype (data_of body)

-- the byte call, by what the line's receiver hands back
module _ (g : Gateway) (l : Line) (b n : ℕ) (long : room ≤ n) where
  abbrev received : Received
  received = receive.receive (receiver_on g.receivers l) b

  -- what the event comes to, of the body that the byte left
  abbrev event_result : Result ByteAnswer
  event_result = byte_event (view g) l (receive.view received.next).body received.event

  byte_is : byte (view g) l b n ≡ stepped l (s g l b n long received refl).next event_result
  byte_is =
      let same = ap (λ (t : receive.State). t.body) (sym (view_store (receiver_on g.receivers l) (s g l b n long received refl).next)) in
      byte_long g l b n long received refl ∙ ap (λ (body : List ℕ). stepped l (s g l b n long received refl).next (byte_event (view g) l body received.event)) same

  pub byte_by_event : fed g (byte (view g) l b n) ≡ record { gateway = after_step_of g l b n long received refl (fed g event_result).gateway; answer = event_result.answer }
  byte_by_event = ap (λ (x : Result ByteAnswer). fed g x) byte_is ∙ sym (step_fed g l b n long received refl event_result)

  pub byte_event_reply : (byte (view g) l b n).reply ≡ event_result.reply
  byte_event_reply = ap (λ (x : Result ByteAnswer). x.reply) byte_is
