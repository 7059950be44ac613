-- Receiving (document 01, "Receiving"): what one byte does to a receiver, on a list body; then the same of the code's struct.
use Rattle.std.specs.Prelude.{ℕ, ◌+◌, Bool, true, false, cond, List, [], ◌∷◌, ◌++◌, length, take, replicate, ◌==◌, nat_le, slice_index}
use Rattle.lists.specs.Overlay.{overlay}
use Rattle.tpck.specs.declared.event.Drop.TheVariants.{Restarted, Early, TooLong, Checksum}
use Rattle.tpck.specs.declared.event.Event.{Event}
use Rattle.tpck.specs.declared.event.Event.TheVariants.{Nothing, Dropped, Frame}
use Rattle.tpck.specs.declared.receiver.Receiver.{Receiver}
use Rattle.tpck.specs.declared.receiver.Received.{Received}
use Rattle.tpck.specs.declared.receiver.Meaning.{Meaning}
use Rattle.tpck.specs.declared.receiver.Meaning.TheVariants.{Escape, Start, End, Plain}
use Rattle.tpck.specs.Event.{Told, told}
use Rattle.tpck.specs.Frame.{sof, eof, esc, places, checksum, length_of, type_of}

-- (01) a receiver: inside a packet or hunting, an escape pending or not, and the body so far; a receiver that hunts keeps the
-- body of the last packet, so that the data of a complete frame can be read (ours, D-6)
pub record State : Type 0 where
  pub inside : Bool
  pub escaped : Bool
  pub body : List ℕ

-- (01) the next receiver, and what the byte did
pub record Step : Type 0 where
  pub next : State
  pub event : Event

-- (01) a step to a receiver with no escape pending: inside a packet or hunting, this body, this event
abbrev pub to : Bool → List ℕ → Event → Step
to inside body event = record { next = record { inside = inside; escaped = false; body = body }; event = event }

-- (01) a body of `len` bytes whose first is n has the n + 3 bytes that it announces; an empty body announces none
abbrev pub is_full : ℕ → ℕ → Bool
is_full n len = cond (len == 0) false (nat_le (n + 3) len)

-- (01) the body has the N + 3 bytes that its Length announces
abbrev pub full : List ℕ → Bool
full body = is_full (length_of body) (length body)

-- (01) after Length, Type and the N data bytes stands their checksum
abbrev pub summed : List ℕ → Bool
summed body = slice_index body (length_of body + 2) == checksum (take (length_of body + 2) body)

-- (01) unescaped EOF inside a packet: shorter than N + 3, or empty: 4; else checksum wrong: 6; else the frame is complete. (02, M-102) a
-- drop gives the length of the body just before it, here and below
abbrev pub close : List ℕ → Event
close body = cond (full body) (cond (summed body) (Frame (type_of body) (length_of body)) (Dropped Checksum (length body))) (Dropped Early (length body))

-- (01) plain data: skipped while hunting; else added to the body, or 5 where the body already has its N + 3 bytes
abbrev pub plain_data : State → ℕ → Step
plain_data s b =
    cond s.inside
    (cond (full s.body) (to false s.body (Dropped TooLong (length s.body))) (to true (s.body ++ b ∷ []) Nothing))
    (to false s.body Nothing)

-- (01) unescaped SOF: a packet with an empty body is open; one that was open is dropped: 3
abbrev pub start_of_frame : State → Step
start_of_frame s = to true [] (cond s.inside (Dropped Restarted (length s.body)) Nothing)

-- (01) unescaped EOF: nothing while hunting; hunting afterwards
abbrev pub end_of_frame : State → Step
end_of_frame s = to false s.body (cond s.inside (close s.body) Nothing)

-- (01) an escape with none pending: it becomes pending, nothing else
abbrev pub pending_escape : State → Step
pending_escape s = record { next = record { inside = s.inside; escaped = true; body = s.body }; event = Nothing }

-- (01) what a byte is: after a pending escape plain data, of any value; else an escape, SOF or EOF, and any other is plain data too
abbrev pub meaning_of : (escaped : Bool) → ℕ → Meaning
meaning_of escaped b =
    cond escaped Plain
    (cond (b == esc) Escape
    (cond (b == sof) Start
    (cond (b == eof) End
    Plain)))

-- (01) what a byte of this meaning does
abbrev pub step_as : Meaning → State → ℕ → Step
step_as Escape s b = pending_escape s
step_as Start s b = start_of_frame s
step_as End s b = end_of_frame s
step_as Plain s b = plain_data s b

-- (01) one byte: what it does by its meaning
unfoldable pub step : State → ℕ → Step
step s b = step_as (meaning_of s.escaped b) s b

-- (01) what the byte did, in document 01's numbers and values
abbrev pub told_of : Step → Told
told_of t = told t.event t.next.body

-- (ours, D-43) the state that the code's receiver holds: its body is the first `len` of its bytes, for any `len`
abbrev pub view : Receiver → State
view r = record { inside = r.inside; escaped = r.escaped; body = take r.len r.bytes }

-- (ours, D-43) the receiver that holds a state: the body, and after it the bytes of r as they were
abbrev pub store : Receiver → State → Receiver
store r s = record { inside = s.inside; escaped = s.escaped; len = length s.body; bytes = overlay s.body r.bytes }

-- (ours) what `receive` answers where the step of r is s: the receiver that holds the next state, and what the byte did
abbrev pub received_from : Receiver → Step → Received
received_from r s = record { next = store r s.next; event = s.event }

-- (01) what `receive` answers: the receiver stepped, and what the byte did
abbrev pub receive : Receiver → ℕ → Received
receive r b = received_from r (step (view r) b)

-- (01) the same in document 01's numbers and values, with the data read off the next receiver
abbrev pub told_by : Received → Told
told_by x = told x.event (view x.next).body

-- (01) a fresh receiver hunts, none pending
abbrev pub fresh : Receiver
fresh = record { inside = false; escaped = false; len = 0; bytes = replicate places 0 }
