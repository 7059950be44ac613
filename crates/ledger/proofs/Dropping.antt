-- What the gateway tells of a drop, in demand 3's words (document 02, M-102): of every state, byte and buffer. Assumes nothing.
use mathlib.Core.Path.{◌≡◌, refl, sym, ◌∙◌}
use mathlib.Core.Bool.{Bool, true, false}
use mathlib.Core.List.{List}
use mathlib.Core.Option.{none}
use Prim.Native.Nat.{ℕ}
use lib.ListN.{length}
use Rattle.lists.proofs.Clash.{clash}
use Rattle.tpck.specs.declared.event.Event.{Event}
use Rattle.tpck.specs.declared.event.Event.TheVariants as event
use Rattle.tpck.specs.Event.{is_drop, told}
use Rattle.tpck.specs.Frame.{data_of}
use Rattle.tpck.specs.Receive as receive
use Rattle.tpck.proofs.Drops.{drop_numbered}
use Rattle.updates.specs.declared.line.Line.{Line}
use Rattle.gateway.specs.declared.answers.ByteAnswer.{ByteAnswer}
use Rattle.gateway.specs.declared.answers.ByteAnswer.TheVariants as bytes
use Rattle.gateway.specs.Answers.{byte_number, body_taken}
use Rattle.gateway.specs.Lines.{receiver_of}
use Rattle.gateway.specs.State.{State}
use Rattle.gateway.specs.Byte.{frame, byte_event, byte_in}
use Rattle.gateway.specs.Taken.{TakenRight}
use Rattle.gateway.proofs.Taken.{NoDrop, frame_taken}
use Rattle.ledger.specs.Call.{byte_says}
use Rattle.ledger.specs.Call.Answer.{Dropped}
use Rattle.ledger.specs.Demand3.{drop_said, drop_in, drop_due}

-- the count is of the body before the byte
pub said_counted : (s : receive.State) (a : ByteAnswer) (buffer : List ℕ) → TakenRight s a
    → (number taken : ℕ) → byte_says a buffer ≡ Dropped number taken → taken ≡ length s.body
said_counted s bytes.Nothing buffer h number taken e = clash cc
said_counted s (bytes.Refused r) buffer h number taken e = go (is_drop (byte_number r)) refl
  where
    go : (d : Bool) → is_drop (byte_number r) ≡ d → taken ≡ length s.body
    go true d = let same : body_taken r ≡ taken = cc in sym same ∙ (rw d at h)
    go false d = clash cc
said_counted s (bytes.Queued n) buffer h number taken e = clash cc
said_counted s (bytes.Replied n) buffer h number taken e = clash cc

-- an answer that is no drop tells none
no_drop_said : (a : ByteAnswer) (buffer : List ℕ) → NoDrop a → drop_said (byte_says a buffer) ≡ none
no_drop_said bytes.Nothing buffer h = refl
no_drop_said (bytes.Refused e) buffer h = rw h.0
no_drop_said (bytes.Queued n) buffer h = refl
no_drop_said (bytes.Replied n) buffer h = refl

-- a drop is told just where the step of the line's receiver drops, with that number and count
module _ (g : State) (l : Line) (x : ℕ) (buffer : List ℕ) where
  abbrev s : receive.Step
  s = receive.step (receiver_of g.receivers l) x

  event_dropped : (v : Event) → drop_said (byte_says (byte_event g l s.next.body v).answer buffer) ≡ drop_in (told v s.next.body)
  unfolding byte_event
  event_dropped event.Nothing = refl
  event_dropped (event.Dropped d n) = rw (drop_numbered d)
  event_dropped (event.Frame ptype size) =
      let content = data_of s.next.body in
      no_drop_said (frame g l ptype content).answer buffer (frame_taken g l ptype content)

  pub said_dropped : (short : Bool) → drop_said (byte_says (byte_in g l s short).answer buffer) ≡ drop_due short s
  unfolding byte_in
  said_dropped true = refl
  said_dropped false = event_dropped s.event
