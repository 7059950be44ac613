-- How far a dropped packet got (document 02, M-102): of every state, every byte and every buffer; and by how much a body grows. Assumes
-- nothing.
use mathlib.Core.Path.{◌≡◌, refl, sym, ◌∙◌}
use mathlib.Core.Bool.{Bool, true, false, false≢true}
use mathlib.Core.List.{List}
use Prim.Native.Nat.{ℕ, suc, ◌≤◌}
use native.Mathlib.Omega.{arith}
use lib.Dec.{ltb}
use lib.ListN.{length}
use Rattle.std.specs.Prelude as std
use Rattle.std.specs.Prelude.{Ok, Err}
use Rattle.tpck.specs.declared.event.Drop.{Drop}
use Rattle.tpck.specs.declared.event.Event.{Event}
use Rattle.tpck.specs.declared.event.Event.TheVariants as event
use Rattle.tpck.specs.Event.{is_drop}
use Rattle.tpck.specs.Frame.{data_of}
use Rattle.tpck.specs.Receive as receive
use Rattle.tpck.proofs.Drops.{step_drops, step_adds, drop_numbered}
use Rattle.devices.specs.declared.field.Field.{Field}
use Rattle.updates.specs.declared.line.Line.{Line}
use Rattle.updates.specs.declared.update.Update.{Update}
use Rattle.updates.specs.declared.queue.QueueFull as updates
use Rattle.updates.specs.Queue.{waits, push_answer}
use Rattle.trpc.specs.declared.judging.FrameError.{FrameError}
use Rattle.trpc.specs.declared.judging.FrameError.TheVariants.{WrongType, TooShort, WrongService, UnknownMethod, ServiceNotUsed, WrongWidth, UnknownAddress, StateTooHigh}
use Rattle.trpc.specs.declared.judging.Judged.{Judged}
use Rattle.trpc.specs.declared.judging.Judged.TheVariants as judged
use Rattle.trpc.specs.Judging.{number_of, judge}
use Rattle.gateway.specs.declared.answers.ByteRefusal.{ByteRefusal}
use Rattle.gateway.specs.declared.answers.ByteRefusal.TheVariants.{Short, Dropped, Rejected, FieldWaits, QueueFull}
use Rattle.gateway.specs.declared.answers.ByteAnswer.{ByteAnswer}
use Rattle.gateway.specs.declared.answers.ByteAnswer.TheVariants as says
use Rattle.gateway.specs.Answers.{byte_number, body_taken}
use Rattle.gateway.specs.Lines.{receiver_of}
use Rattle.gateway.specs.State.{State, applied}
use Rattle.gateway.specs.Reply.{room}
use Rattle.gateway.specs.Taken.{TakenBy, TakenRight}
use Rattle.gateway.specs.Byte.{new_update, enqueue, admit_if, admit, reply_at_once, frame_judged, frame, byte_event, byte_in, byte}
use Rattle.gateway.proofs.Parts.{on_same}

-- 7 to 14 are no drops
pub frame_other : (e : FrameError) → is_drop (number_of e) ≡ false
frame_other WrongType = refl
frame_other TooShort = refl
frame_other WrongService = refl
frame_other UnknownMethod = refl
frame_other ServiceNotUsed = refl
frame_other WrongWidth = refl
frame_other UnknownAddress = refl
frame_other StateTooHigh = refl

drop_taken : (r : receive.State) (d : Drop) (n : ℕ) → n ≡ length r.body → TakenBy r (Dropped d n)
drop_taken r d n e = rw (drop_numbered d) e

-- a byte is refused with the number of a drop only where a packet is dropped; that it is then: `drop_numbered`
pub told_drop : (e : ByteRefusal) → is_drop (byte_number e) ≡ true → (d : Drop) × (n : ℕ) × (e ≡ Dropped d n)
told_drop Short h = absurd (false≢true h)
told_drop (Dropped d n) h = (d, n, refl)
told_drop (Rejected e) h = absurd (false≢true (sym (frame_other e) ∙ h))
told_drop FieldWaits h = absurd (false≢true h)
told_drop QueueFull h = absurd (false≢true h)

-- an answer that is no drop, and tells no count
abbrev pub NoDrop : ByteAnswer → Type 0
NoDrop says.Nothing = Unit {0}
NoDrop (says.Refused e) = (is_drop (byte_number e) ≡ false) × (body_taken e ≡ 0)
NoDrop (says.Queued n) = Unit {0}
NoDrop (says.Replied n) = Unit {0}

-- so is the answer to every frame
module _ (g : State) (l : Line) where
  enqueue_taken : (u : Update) (a : std.Result ℕ updates.QueueFull) → NoDrop (enqueue g.queue u a).answer
  unfolding enqueue
  enqueue_taken u (Err e) = (refl, refl)
  enqueue_taken u (Ok n) = tt

  admit_taken : (f : Field) (v : ℕ) (already : Bool) → NoDrop (admit_if g.queue l f v already).answer
  unfolding admit_if
  admit_taken f v true = (refl, refl)
  admit_taken f v false = enqueue_taken (new_update l f v) (push_answer g.queue (new_update l f v))

  judged_taken : (content : List ℕ) (j : std.Result Judged FrameError) → NoDrop (frame_judged g l content j).answer
  unfolding frame_judged admit reply_at_once
  judged_taken content (Err e) = (frame_other e, refl)
  judged_taken content (Ok (judged.Asks f v)) = admit_taken f v (waits g.queue f)
  judged_taken content (Ok (judged.Answers e s)) = tt

  pub frame_taken : (ptype : ℕ) (content : List ℕ) → NoDrop (frame g l ptype content).answer
  unfolding frame
  frame_taken ptype content = judged_taken content (judge ptype content g.table)

no_drop_right : (r : receive.State) (a : ByteAnswer) → NoDrop a → TakenRight r a
no_drop_right r says.Nothing h = tt
no_drop_right r (says.Refused e) h = rw h.0 h.1
no_drop_right r (says.Queued n) h = tt
no_drop_right r (says.Replied n) h = tt

module _ (g : State) (l : Line) (b n : ℕ) where
  abbrev before : receive.State
  before = receiver_of g.receivers l

  abbrev s : receive.Step
  s = receive.step before b

  event_taken : (v : Event) → s.event ≡ v → TakenRight before (byte_event g l s.next.body v).answer
  unfolding byte_event
  event_taken event.Nothing h = tt
  event_taken (event.Dropped d k) h = drop_taken before d k (step_drops before b d k h).count
  event_taken (event.Frame ptype size) h = no_drop_right before (frame g l ptype (data_of s.next.body)).answer (frame_taken g l ptype (data_of s.next.body))

  pub taken_right : TakenRight before (byte g l b n).answer
  unfolding byte byte_in
  taken_right = go (ltb n room)
    where
      go : (short : Bool) → TakenRight before (byte_in g l s short).answer
      go true = refl
      go false = event_taken s.event refl

  -- a byte adds one to the body of its line at most
  pub byte_adds : length (receiver_of (applied g (byte g l b n).effect).receivers l).body ≤ suc (length before.body)
  unfolding byte byte_in
  byte_adds = go (ltb n room)
    where
      go : (short : Bool) → length (receiver_of (applied g (byte_in g l s short).effect).receivers l).body ≤ suc (length before.body)
      go true = omega arith
      go false = rw (on_same g.receivers l s.next) (step_adds before b)
