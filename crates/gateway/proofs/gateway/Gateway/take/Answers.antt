-- `gateway::Gateway::take` meets its contract: 1, nothing, a drop, or the answer to the frame.
use mathlib.Core.List.{List, []}
use mathlib.Core.Path.{◌≡◌, refl, sym, ap, ◌∙◌, subst}
use Prim.Native.Nat.{ℕ, ◌+◌, ◌-◌}
use native.Mathlib.Omega.{arith}
use lib.ListN.{length, take, drop}
use Rattle.lists.specs.Overlay.{overlay}
use Rattle.lists.proofs.Overlays.{overlay_nil}
use Rattle.tpck.specs.declared.event.Event.TheVariants.{Frame}
use Rattle.tpck.specs.declared.receiver.Receiver.{Receiver}
use Rattle.tpck.specs.declared.receiver.Received.{Received}
use Rattle.tpck.specs.Frame.{data_of}
use Rattle.tpck.specs.Receive as receiver
use Rattle.tpck.proofs.Delivered.{Complete, delivered, data_read}
use Rattle.gateway.specs.declared.byte.Fed.{Fed}
use Rattle.gateway.specs.View.{receiver_on, view}
use Rattle.gateway.proofs.Bytes.{byte_short, byte_nothing, byte_dropped, byte_framed}
use Rattle.gateway.proofs.gateway.Gateway.take.Goals as goal

-- with no reply the buffer stays
quiet : (buffer reply : List ℕ) → reply ≡ [] → buffer ≡ overlay reply buffer
quiet buffer reply e = sym (ap (λ (l : List ℕ). overlay l buffer) e ∙ overlay_nil buffer)

-- the data of the complete frame stand in the receiver's array
content_read : (ptype size n : ℕ) → n ≡ size → (on : Receiver) (b : ℕ) (x : Received) → receiver.receive on b ≡ x → x.event ≡ Frame ptype size
    → take (n + 2 - 2) (drop 2 x.next.bytes) ≡ data_of (receiver.view x.next).body
content_read ptype size n w on b x is e =
    let m : n + 2 - 2 ≡ size = omega arith in
    let next = ap (λ (y : Received). y.next) is in
    let full = subst (λ (r : Receiver). Complete ptype size (receiver.view r).body) next (delivered ptype size on b (ap (λ (y : Received). y.event) is ∙ e)) in
    ap (λ (k : ℕ). take k (drop 2 x.next.bytes)) m ∙ data_read ptype size x.next.len x.next.bytes full

pub returns-then-buffer-lt-ROOM-clause-gateway : goal.returns-then-buffer-lt-ROOM-clause-gateway
returns-then-buffer-lt-ROOM-clause-gateway c =
    let a = c.args in
    rw (byte_short (view a.self.now) a.line a.b (length a.buffer.now) c.if-buffer-lt-ROOM.true)

pub returns-then-buffer-lt-ROOM-clause-answer : goal.returns-then-buffer-lt-ROOM-clause-answer
returns-then-buffer-lt-ROOM-clause-answer c =
    let a = c.args in
    rw (byte_short (view a.self.now) a.line a.b (length a.buffer.now) c.if-buffer-lt-ROOM.true)

pub returns-then-buffer-lt-ROOM-clause-buffer : goal.returns-then-buffer-lt-ROOM-clause-buffer
returns-then-buffer-lt-ROOM-clause-buffer c =
    let a = c.args in
    rw (byte_short (view a.self.now) a.line a.b (length a.buffer.now) c.if-buffer-lt-ROOM.true) (quiet a.buffer.now [] refl)

pub returns-in-Nothing-clause-gateway : goal.returns-in-Nothing-clause-gateway
returns-in-Nothing-clause-gateway c =
    let a = c.args in
    rw c.with-self.ensures (ap (λ (x : Fed). x.gateway) (byte_nothing a.self.now a.line a.b (length a.buffer.now) c.if-buffer-lt-ROOM.false c.receive-received.result (cc) c.in-Nothing.is).0)

pub returns-in-Nothing-clause-answer : goal.returns-in-Nothing-clause-answer
returns-in-Nothing-clause-answer c =
    let a = c.args in
    ap (λ (x : Fed). x.answer) (byte_nothing a.self.now a.line a.b (length a.buffer.now) c.if-buffer-lt-ROOM.false c.receive-received.result (cc) c.in-Nothing.is).0

pub returns-in-Nothing-clause-buffer : goal.returns-in-Nothing-clause-buffer
returns-in-Nothing-clause-buffer c =
    let a = c.args in
    quiet a.buffer.now _ (byte_nothing a.self.now a.line a.b (length a.buffer.now) c.if-buffer-lt-ROOM.false c.receive-received.result (cc) c.in-Nothing.is).1

pub returns-in-Dropped-clause-gateway : goal.returns-in-Dropped-clause-gateway
returns-in-Dropped-clause-gateway c =
    let a = c.args in
    rw c.with-self.ensures (ap (λ (x : Fed). x.gateway) (byte_dropped a.self.now a.line a.b (length a.buffer.now) c.if-buffer-lt-ROOM.false c.receive-received.result (cc) c.in-Dropped.d c.in-Dropped.taken c.in-Dropped.is).0)

pub returns-in-Dropped-clause-answer : goal.returns-in-Dropped-clause-answer
returns-in-Dropped-clause-answer c =
    let a = c.args in
    ap (λ (x : Fed). x.answer) (byte_dropped a.self.now a.line a.b (length a.buffer.now) c.if-buffer-lt-ROOM.false c.receive-received.result (cc) c.in-Dropped.d c.in-Dropped.taken c.in-Dropped.is).0

pub returns-in-Dropped-clause-buffer : goal.returns-in-Dropped-clause-buffer
returns-in-Dropped-clause-buffer c =
    let a = c.args in
    quiet a.buffer.now _ (byte_dropped a.self.now a.line a.b (length a.buffer.now) c.if-buffer-lt-ROOM.false c.receive-received.result (cc) c.in-Dropped.d c.in-Dropped.taken c.in-Dropped.is).1

pub returns-in-Frame-clause-gateway : goal.returns-in-Frame-clause-gateway
returns-in-Frame-clause-gateway c =
    let a = c.args in
    let stepped : receiver.receive (receiver_on a.self.now.receivers a.line) a.b ≡ c.receive-received.result = cc in
    let content = content_read c.in-Frame.ptype c.in-Frame.size _ c.from-end.ensures _ a.b _ stepped c.in-Frame.is in
    rw (c.frame.ensures.gateway, c.with-self.ensures)
    (ap (λ (x : Fed). x.gateway) (byte_framed a.self.now a.line a.b (length a.buffer.now) c.if-buffer-lt-ROOM.false c.receive-received.result stepped _ _ c.in-Frame.is _ content).0)

pub returns-in-Frame-clause-answer : goal.returns-in-Frame-clause-answer
returns-in-Frame-clause-answer c =
    let a = c.args in
    let stepped : receiver.receive (receiver_on a.self.now.receivers a.line) a.b ≡ c.receive-received.result = cc in
    let content = content_read c.in-Frame.ptype c.in-Frame.size _ c.from-end.ensures _ a.b _ stepped c.in-Frame.is in
    c.frame.ensures.answer
    ∙ rw c.with-self.ensures (ap (λ (x : Fed). x.answer) (byte_framed a.self.now a.line a.b (length a.buffer.now) c.if-buffer-lt-ROOM.false c.receive-received.result stepped _ _ c.in-Frame.is _ content).0)

pub returns-in-Frame-clause-buffer : goal.returns-in-Frame-clause-buffer
returns-in-Frame-clause-buffer c =
    let a = c.args in
    let stepped : receiver.receive (receiver_on a.self.now.receivers a.line) a.b ≡ c.receive-received.result = cc in
    let content = content_read c.in-Frame.ptype c.in-Frame.size _ c.from-end.ensures _ a.b _ stepped c.in-Frame.is in
    c.frame.ensures.buffer
    ∙ ap (λ (l : List ℕ). overlay l a.buffer.now)
    (rw c.with-self.ensures (byte_framed a.self.now a.line a.b (length a.buffer.now) c.if-buffer-lt-ROOM.false c.receive-received.result stepped _ _ c.in-Frame.is _ content).1)
