-- What a receiver does with each byte, and with a Length byte that does not fit: one case for each sentence of document 01's
-- "Receiving", with what must hold of the receiver before the byte, and the receiver after it.
--
-- `Explained s b t u`: to the receiver s the byte b did t, and left the receiver u. The cases are all there are. A Length that
-- promises more than came is dropped at EOF (4), one that promises less at the first byte too many (5). A frame is delivered only
-- where the body is the packet of its type and data: N data bytes for a Length of N, and the right checksum. SOF, EOF and the escape
-- are seen whatever the Length says.
--
-- `LineExplained line b` says it of the code's receiver after any line, from fresh, with where the body came from; `WasSent line b` that
-- a frame comes only at its end on the line; `WasTaken line b` that a drop counts what the line held since its SOF.
use Rattle.std.specs.Prelude.{◌≡◌, ℕ, ◌+◌, ◌<◌, true, false, List, [], ◌∷◌, ◌++◌, length, ◌≢◌}
use Rattle.tpck.specs.declared.receiver.Receiver.{Receiver}
use Rattle.tpck.specs.Event.{Told, nothing, drop_with, frame_of}
use Rattle.tpck.specs.Frame.{sof, eof, esc, checksum, header, packet, length_of}
use Rattle.tpck.specs.Receive.{State, view, receive, fresh, told_by}
use Rattle.tpck.specs.Line.{receiver_after, hunting, opened}
use Rattle.tpck.specs.Sent.{pending_after, Since, EndsIn}

-- ---- the receiver before the byte, and the byte

-- (01) inside a packet
abbrev pub Inside : State → Type 0
Inside s = s.inside ≡ true

-- (01) hunting
abbrev pub Hunting : State → Type 0
Hunting s = s.inside ≡ false

-- (01) the byte is this value, and no escape is pending
abbrev pub Unescaped : State → ℕ → ℕ → Type 0
Unescaped s b value = (s.escaped ≡ false) × (b ≡ value)

-- (01) plain data: any byte after a pending escape, and any byte but the three values
pub data Plain (s : State) (b : ℕ) : Type 0 where
  after_escape : s.escaped ≡ true → Plain s b
  other : (b ≢ sof) → (b ≢ eof) → (b ≢ esc) → Plain s b

-- (01) the body is empty, or shorter than the N + 3 bytes that its first byte N announces
pub data Lacks : List ℕ → Type 0 where
  empty : Lacks []
  short : {n : ℕ} {rest : List ℕ} → length (n ∷ rest) < n + 3 → Lacks (n ∷ rest)

-- (01) the body has exactly the N + 3 bytes that its first byte N announces
pub data Exact : List ℕ → Type 0 where
  exact : {n : ℕ} {rest : List ℕ} → length (n ∷ rest) ≡ n + 3 → Exact (n ∷ rest)

-- ---- each byte

-- (01) an escape that becomes pending, nothing else: inside or hunting as before, the same body
abbrev pub pending_in : State → State
pending_in s = record { inside = s.inside; escaped = true; body = s.body }

-- (01) to the receiver s the byte b did this, and left this receiver
pub data Explained (s : State) (b : ℕ) : Told → State → Type 0 where
  -- (01) 0x2F with none pending: becomes pending, nothing else, in either state, after a full body too (D-1)
  pending : Unescaped s b esc → Explained s b nothing (pending_in s)
  -- (01) unescaped SOF: opens a packet with an empty body
  started : Hunting s → Unescaped s b sof → Explained s b nothing (opened [])
  -- (01) if one was open, that one is dropped: 3; (02, M-102) with the bytes of the packet that was open, none of the new one
  restarted : Inside s → Unescaped s b sof → Explained s b (drop_with 3 (length s.body)) (opened [])
  -- (01) unescaped EOF inside a packet, the body shorter than N + 3, or empty (D-2, D-3): 4; (02, M-102) with its bytes, so fewer than
  -- N + 3, or 0
  early : Inside s → Unescaped s b eof → Lacks s.body → Explained s b (drop_with 4 (length s.body)) (hunting s.body)
  -- (01) else checksum wrong: 6; (02, M-102) with all N + 3
  wrong_sum : (ptype : ℕ) (bytes : List ℕ) (sum : ℕ) → Inside s → Unescaped s b eof → s.body ≡ header ptype bytes ++ sum ∷ []
      → (sum ≢ checksum (header ptype bytes)) → Explained s b (drop_with 6 (length bytes + 3)) (hunting s.body)
  -- (01) else the frame is complete; the receiver hunts afterwards, and keeps the body (ours, D-6)
  complete : (ptype : ℕ) (bytes : List ℕ) → Inside s → Unescaped s b eof → s.body ≡ packet ptype bytes
      → Explained s b (frame_of ptype bytes) (hunting s.body)
  -- (01) hunting, EOF does nothing
  idle : Hunting s → Unescaped s b eof → Explained s b nothing (hunting s.body)
  -- (01) hunting, plain data is skipped
  skipped : Hunting s → Plain s b → Explained s b nothing (hunting s.body)
  -- (01) inside a packet plain data is added to the body
  added : Inside s → Plain s b → Lacks s.body → Explained s b nothing (opened (s.body ++ b ∷ []))
  -- (01) if the body already has N + 3 bytes: 5 instead, then hunting; (02, M-102) with these N + 3, not the byte too many
  too_long : Inside s → Plain s b → Exact s.body → Explained s b (drop_with 5 (length_of s.body + 3)) (hunting s.body)

-- (02, M-102) at every receiver a drop gives the length that the body has just before it
abbrev pub Counted : Receiver → (b : ℕ) → Type 0
Counted r b = (number taken : ℕ) → told_by (receive r b) ≡ drop_with number taken → taken ≡ length (view r).body

-- ---- any line

-- (01) the code's receiver after the line, from fresh, and the byte after it
pub record LineExplained (line : List ℕ) (b : ℕ) : Type 0 where
  -- (01) an escape is pending just where the line ends in one that is not itself escaped
  pub escape : (view (receiver_after fresh line)).escaped ≡ pending_after line
  -- (01) the body of an open packet is what came since its SOF, with escapes taken out; that SOF was not escaped
  pub body : Inside (view (receiver_after fresh line)) → Since line (view (receiver_after fresh line)).escaped (view (receiver_after fresh line)).body
  -- (01) what the byte does, and the receiver that it leaves
  pub byte : Explained (view (receiver_after fresh line)) b (told_by (receive (receiver_after fresh line) b)) (view (receive (receiver_after fresh line) b).next)

-- (01) what is delivered was sent: where the byte completes a frame, the line up to this byte ends in a valid frame of that type and data
abbrev pub WasSent : (line : List ℕ) (b : ℕ) → Type 0
WasSent line b =
    (ptype : ℕ) (bytes : List ℕ) → told_by (receive (receiver_after fresh line) b) ≡ frame_of ptype bytes → EndsIn ptype bytes (line ++ b ∷ [])

-- (02, M-102) what is counted was sent: where the byte drops a packet, the line has held just so many body bytes since the SOF of that
-- packet, escapes taken out
abbrev pub WasTaken : (line : List ℕ) (b : ℕ) → Type 0
WasTaken line b =
    (number taken : ℕ) → told_by (receive (receiver_after fresh line) b) ≡ drop_with number taken
    → (body : List ℕ) × Since line (pending_after line) body × (taken ≡ length body)
