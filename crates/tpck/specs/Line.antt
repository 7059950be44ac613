-- A receiver that takes a line byte by byte: when it delivers a frame, and what holds after each event.
use Rattle.std.specs.Prelude.{◌≡◌, ℕ, ◌+◌, ◌-◌, true, false, cond, List, [], ◌∷◌, ◌++◌, length, take, drop, replicate}
use Rattle.tpck.specs.declared.event.Drop.TheVariants.{Restarted, Early, TooLong, Checksum}
use Rattle.tpck.specs.declared.event.Event.{Event}
use Rattle.tpck.specs.declared.event.Event.TheVariants.{Nothing, Dropped, Frame}
use Rattle.tpck.specs.declared.receiver.Receiver.{Receiver}
use Rattle.tpck.specs.Frame.{packet}
use Rattle.tpck.specs.Receive.{State, step, view, receive}

-- (01) the receiver's state after the bytes
unfoldable pub run : State → List ℕ → State
run s [] = s
run s (b ∷ bs) = run (step s b).next bs

-- (01) the event of each byte, in order
unfoldable pub events : State → List ℕ → List Event
events s [] = []
events s (b ∷ bs) = (step s b).event ∷ events (step s b).next bs

-- (01) the code's receiver after the bytes, by what `receive` hands back
unfoldable pub receiver_after : Receiver → List ℕ → Receiver
receiver_after r [] = r
receiver_after r (b ∷ bs) = receiver_after (receive r b).next bs

-- (01) the events that `receive` answers, in order
unfoldable pub answers : Receiver → List ℕ → List Event
answers r [] = []
answers r (b ∷ bs) = (receive r b).event ∷ answers (receive r b).next bs

-- (01) a receiver that hunts, with no escape pending
abbrev pub hunting : List ℕ → State
hunting body = record { inside = false; escaped = false; body = body }

-- (01) a receiver with a packet open, with no escape pending
abbrev pub opened : List ℕ → State
opened body = record { inside = true; escaped = false; body = body }

-- (01) a packet that is open is dropped by the SOF of the next
abbrev pub opening : State → Event
opening s = cond s.inside (Dropped Restarted (length s.body)) Nothing

-- (01) to the receiver r the line is a frame of this type and data: its last byte completes it, nothing happens before but the
-- drop of an open packet at the first byte, and afterwards the receiver hunts, none pending, with the frame in its body. The data
-- can be read off its array, after Length and Type
pub record ReadBack (r : Receiver) (line : List ℕ) (ptype : ℕ) (bytes : List ℕ) : Type 0 where
  pub told : answers r line ≡ opening (view r) ∷ replicate (length line - 2) Nothing ++ Frame ptype (length bytes) ∷ []
  pub hunts : view (receiver_after r line) ≡ hunting (packet ptype bytes)
  pub data_read : take (length bytes) (drop 2 (receiver_after r line).bytes) ≡ bytes

-- (01) the first N + 3 bytes of the body are the packet of this type and data: its Length N, its type, the N data bytes and their
-- checksum
abbrev pub Holds : List ℕ → ℕ → List ℕ → Type 0
Holds body ptype bytes = take (length bytes + 3) body ≡ packet ptype bytes

-- (01, "Numbers of refusal") hunting, and none pending
abbrev pub Hunts : State → Type 0
Hunts s = (s.inside ≡ false) × (s.escaped ≡ false)

-- (01, "Numbers of refusal") after each event: a new packet open after 3; hunting, none pending, after 4, 5, 6 and a frame
abbrev pub After : Event → State → Type 0
After Nothing s = Unit {0}
After (Dropped Restarted n) s = s ≡ opened []
After (Dropped Early n) s = Hunts s
After (Dropped TooLong n) s = Hunts s
After (Dropped Checksum n) s = Hunts s
After (Frame ptype size) s = Hunts s
