-- Bytes of a line up to and with the first that does something (document 02, M-100): a receiver whose body is lent, in two parts.
use Rattle.std.specs.Prelude.{ℕ, suc, ◌+◌, min, Bool, true, false, ◌||◌, List, [], ◌∷◌, ◌==◌}
use Rattle.tpck.specs.declared.event.Event.{Event}
use Rattle.tpck.specs.declared.event.Event.TheVariants.{Nothing, Dropped, Frame}
use Rattle.tpck.specs.declared.receiver.Receiver.{Receiver}
use Rattle.tpck.specs.declared.receiver.Received.{Received}
use Rattle.tpck.specs.declared.control.Control.{Control}
use Rattle.tpck.specs.declared.control.Scanned.{Scanned}
use Rattle.tpck.specs.declared.control.Hunted.{Hunted}
use Rattle.tpck.specs.declared.control.Hunted.TheVariants.{Opened, Passed}
use Rattle.tpck.specs.Frame.{sof, esc, places}
use Rattle.tpck.specs.Receive.{receive}
use Rattle.tpck.specs.Sent.{pending_next}

-- (ours) the byte did something: a drop or a complete frame
abbrev pub happens : Event → Bool
happens Nothing = false
happens (Dropped d n) = true
happens (Frame ptype size) = true

-- (ours) the receiver after the bytes used, what the last of them did, and how many they are
pub record Scan : Type 0 where
  pub next : Receiver
  pub event : Event
  pub used : ℕ

-- (ours) a byte that did something is the last; after any other the rest of the bytes
abbrev pub scan_if : Received → Scan → (happened : Bool) → Scan
scan_if x rest true = record { next = x.next; event = x.event; used = 1 }
scan_if x rest false = record { next = rest.next; event = rest.event; used = suc rest.used }

-- (02, M-100) bytes one by one, as `receive` takes them, up to and with the first that does something
unfoldable pub scan : Receiver → List ℕ → Scan
scan r [] = record { next = r; event = Nothing; used = 0 }
scan r (b ∷ bs) = scan_if (receive r b) (scan (receive r b).next bs) (happens (receive r b).event)

-- (ours) the receiver of a control and the bytes of a body
abbrev pub joined : Control → List ℕ → Receiver
joined c bytes = record { inside = c.inside; escaped = c.escaped; len = c.len; bytes = bytes }

-- (ours) a receiver but for its bytes; a length over the places counts as the places
abbrev pub control_of : Receiver → Control
control_of r = record { inside = r.inside; escaped = r.escaped; len = min r.len places }

-- (ours) what came of the bytes, but for those of the body
abbrev pub scanned_of : Scan → Scanned
scanned_of s = record { next = control_of s.next; event = s.event; used = s.used }

-- (ours) the answer of these parts
abbrev pub scanned_as : Bool → Bool → ℕ → Event → ℕ → Scanned
scanned_as inside escaped len event used =
    record { next = record { inside = inside; escaped = escaped; len = len }; event = event; used = used }

-- (ours) the receiver of these parts
abbrev pub receiver_of : Bool → Bool → ℕ → List ℕ → Receiver
receiver_of inside escaped len bytes = record { inside = inside; escaped = escaped; len = len; bytes = bytes }

-- (01) the start of a frame: SOF, with no escape pending
abbrev pub is_start : (escaped : Bool) → ℕ → Bool
is_start true b = false
is_start false b = b == sof

-- (ours) so many bytes were used before
abbrev pub hunted_after : ℕ → Hunted → Hunted
hunted_after n (Opened used) = Opened (n + used)
hunted_after n (Passed escaped) = Passed escaped

-- (ours) a start is the last byte; after any other the rest of the bytes
abbrev pub hunt_if : Hunted → (start : Bool) → Hunted
hunt_if rest true = Opened 1
hunt_if rest false = hunted_after 1 rest

-- (ours) bytes while hunting, up to and with the start of a frame; `escaped` says whether an escape is pending before them
unfoldable pub hunt : (escaped : Bool) → List ℕ → Hunted
hunt escaped [] = Passed escaped
hunt escaped (b ∷ bs) = hunt_if (hunt (pending_next escaped b) bs) (is_start escaped b)

-- (ours) the byte matters to a hunt: an escape is pending before it, or it is SOF or the escape
abbrev pub is_mark : (escaped : Bool) → ℕ → Bool
is_mark true b = true
is_mark false b = b == sof || b == esc

-- (ours) none from a byte that matters on; any other and those after it
abbrev pub skip_if : ℕ → (mark : Bool) → ℕ
skip_if rest true = 0
skip_if rest false = suc rest

-- (ours) how many bytes at the front don't matter to a hunt
unfoldable pub skip : (escaped : Bool) → List ℕ → ℕ
skip escaped [] = 0
skip escaped (b ∷ bs) = skip_if (skip escaped bs) (is_mark escaped b)
