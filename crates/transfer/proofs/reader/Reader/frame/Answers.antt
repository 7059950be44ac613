-- `transfer::reader::Reader::frame` meets its contract: a record, and the content that its own values make.
use mathlib.Core.Path.{◌≡◌, sym, ap, ◌∙◌}
use Rattle.gateway.proofs.Replies.{packed_few}
use Rattle.transfer.specs.declared.draft.Draft.{Draft}
use Rattle.transfer.specs.declared.slots.Slot.{Slot}
use Rattle.transfer.specs.Slots.{slot_at}
use Rattle.transfer.specs.Contents.{content_of}
use Rattle.transfer.specs.Carry.{took}
use Rattle.lists.specs.Equal.{equal}
use Rattle.transfer.specs.Reading.{next, reader, placed}
use Rattle.transfer.proofs.Widths.{content_few}
use Rattle.transfer.proofs.Frames.{judged, frame_type, frame_other, frame_due}
use Rattle.transfer.proofs.reader.Reader.frame.Goals as goal

pub returns-then-ptype-ne-RECORD_TYPE : goal.returns-then-ptype-ne-RECORD_TYPE
returns-then-ptype-ne-RECORD_TYPE c = sym (frame_type c.args.self.now c.args.content.now c.args.ptype c.if-ptype-ne-RECORD_TYPE.true)

pub is_made-requires : goal.is_made-requires
is_made-requires c = let d = c.took-draft.result in
    let s = c.slot_at-slot.result in
    packed_few (content_of d s) (content_few d s) c.content_of.result c.content_of.ensures

pub returns-then-not-is_made : goal.returns-then-not-is_made
returns-then-not-is_made c =
    let tested : c.is_made.result ≡ equal c.args.content.now (content_of (next c.args.self.now c.args.content.now) (slot_at c.args.self.now.slot)) = judged c.args.self.now c.args.content.now c.slot_at-slot.result c.took-draft.result c.content_of.result c.is_made.result
    c.slot_at-slot.ensures c.took-draft.ensures c.content_of.ensures c.is_made.ensures in
    sym (frame_other c.args.self.now (c.args.content.now) c.args.ptype c.if-ptype-ne-RECORD_TYPE.false (sym tested ∙ c.if-not-is_made.true))

pub returns : goal.returns
returns c =
    let brings : c.took-draft.result ≡ next c.args.self.now c.args.content.now = c.took-draft.ensures ∙ ap (λ (z : Slot). took c.args.self.now.draft z.item c.args.content.now) c.slot_at-slot.ensures in
    let tested : c.is_made.result ≡ equal c.args.content.now (content_of (next c.args.self.now c.args.content.now) (slot_at c.args.self.now.slot)) = judged c.args.self.now c.args.content.now c.slot_at-slot.result c.took-draft.result c.content_of.result c.is_made.result
    c.slot_at-slot.ensures c.took-draft.ensures c.content_of.ensures c.is_made.ensures in
    let due = frame_due c.args.self.now (c.args.content.now) c.args.ptype c.if-ptype-ne-RECORD_TYPE.false (sym tested ∙ c.if-not-is_made.false) in
    c.placed.ensures ∙ ap (λ (z : Draft). placed (reader c.args.self.now.receiver z c.args.self.now.table c.args.self.now.slot)) brings ∙ sym due
