-- What the code has at hand after a byte, the event and the receiver's array, gives the line and the next state that the
-- definitions say. Assumes nothing.
use Rattle.std.proofs.Common.{◌≡◌, ℕ, ap}
use Rattle.tpck.specs.declared.receiver.Receiver.{Receiver}
use Rattle.tpck.specs.declared.receiver.Received.{Received}
use Rattle.tpck.specs.Event.{told}
use Rattle.tpck.specs.Receive.{step, view, receive}
use Rattle.tpck.proofs.Delivered.{told_in_array}
use Rattle.tpck.proofs.Theorems.{view_store}
use Rattle.frames.specs.Lines.{line}
use Rattle.frames.specs.Report.{next, line_of}

module _ (r : Receiver) (b : ℕ) (x : Received) (answered : x ≡ receive r b) where
  pub next_is : view x.next ≡ next (view r) b
  next_is = rw answered (view_store r (step (view r) b).next)

  pub line_is : (at offset : ℕ) → at ≡ offset → line at (told x.event x.next.bytes) ≡ line_of offset (view r) b
  line_is at offset e = rw (answered, e) (ap (line offset) (told_in_array (view r) b r.bytes))
