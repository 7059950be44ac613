-- A complete frame, by what the code finds of it. Assumes nothing.
use mathlib.Core.Path.{◌≡◌, sym, ap, ◌∙◌}
use mathlib.Core.Bool.{Bool, true, false}
use mathlib.Core.List.{List}
use Prim.Native.Nat.{ℕ}
use lib.ListN.{take}
use borrow.Author.Tests.{eq-eqb, ne_eqb}
use Rattle.trpc.specs.Replies.{reply_of}
use Rattle.trpc.specs.declared.replies.Reply.{Reply}
use Rattle.trpc.proofs.Packing.{pad_front}
use Rattle.tpck.specs.declared.event.Event.{Event}
use Rattle.tpck.specs.declared.receiver.Received.{Received}
use Rattle.tpck.specs.Receive as line
use Rattle.transfer.specs.declared.draft.Draft.{Draft}
use Rattle.transfer.specs.declared.slots.Slot.{Slot}
use Rattle.transfer.specs.declared.reader.Reader.{Reader}
use Rattle.transfer.specs.declared.reader.ReadRefusal.TheVariants.{NotDue}
use Rattle.transfer.specs.Slots.{slot_at}
use Rattle.transfer.specs.Contents.{content_of}
use Rattle.transfer.specs.Carry.{took}
use Rattle.lists.specs.Equal.{equal}
use Rattle.std.specs.Prelude.{Err}
use Rattle.transfer.specs.Reading.{reader, next, is_due, placed, frame, done, outside, heard, heard_as, byte}
use Rattle.transfer.proofs.Widths.{content_few}

-- a reply in its array is the content
pub reply_read : (x : Reply) (d : Draft) (s : Slot) → x ≡ reply_of (content_of d s) → take x.len x.bytes ≡ content_of d s
reply_read x d s e = ap (λ (y : Reply). take y.len y.bytes) e ∙ pad_front 12 (content_of d s) (content_few d s)

module _ (r : Reader) (c : List ℕ) where
  -- the test of the code is the definition's
  pub judged : (s : Slot) (d : Draft) (x : Reply) (t : Bool) → s ≡ slot_at r.slot → d ≡ took r.draft s.item c
      → x ≡ reply_of (content_of d s) → t ≡ equal c (take x.len x.bytes) → t ≡ equal c (content_of (next r c) (slot_at r.slot))
  judged s d x t es ed ex et =
      let ed' : d ≡ next r c = ed ∙ ap (λ (z : Slot). took r.draft z.item c) es in
      et ∙ ap (equal c) (reply_read x d s ex) ∙ ap (λ (z : Slot). equal c (content_of d z)) es ∙ ap (λ (z : Draft). equal c (content_of z (slot_at r.slot))) ed'

  pub frame_type : (ptype : ℕ) → (ptype ≡ 6 → ⊥) → frame r ptype c ≡ Err NotDue
  unfolding frame is_due
  frame_type ptype h = rw (ne_eqb ptype 6 h)

  pub frame_other : (ptype : ℕ) → ptype ≡ 6 → equal c (content_of (next r c) (slot_at r.slot)) ≡ false → frame r ptype c ≡ Err NotDue
  unfolding frame is_due
  frame_other ptype k h = rw (eq-eqb ptype 6 k, h)

  pub frame_due : (ptype : ℕ) → ptype ≡ 6 → equal c (content_of (next r c) (slot_at r.slot)) ≡ true
      → frame r ptype c ≡ placed (reader r.receiver (next r c) r.table r.slot)
  unfolding frame is_due
  frame_due ptype k h = rw (eq-eqb ptype 6 k, h)

-- a byte inside a frame, or its SOF, before the last frame has ended
pub heard_is : (n : ℕ) (r : Reader) (b : ℕ) (x : Received) → x ≡ line.receive r.receiver b → done n r ≡ false → outside r.receiver b ≡ false
    → byte n r b ≡ heard r x
unfolding byte
heard_is n r b x e d o = rw (d, o) (ap (heard r) (sym e))

-- the same, by what the receiver told
pub heard_told : (n : ℕ) (r : Reader) (b : ℕ) (x : Received) → x ≡ line.receive r.receiver b → done n r ≡ false → outside r.receiver b ≡ false
    → (t : Event) → x.event ≡ t → byte n r b ≡ heard_as r x.next t
heard_told n r b x e d o t told = heard_is n r b x e d o ∙ ap (heard_as r x.next) told
