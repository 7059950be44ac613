-- `tpck::receiver::Receiver::plain_data` meets its contract: skipped, one too many, or added where there is room.
use Rattle.std.proofs.Common.{◌≡◌, true, false, length, sym, ◌∙◌, arith}
use Rattle.tpck.proofs.Changes.{kept_next, added_next, full_same}
use Rattle.tpck.proofs.Bodies.{full_room}
use Rattle.tpck.proofs.receiver.Receiver.plain_data.Goals as goal

pub returns-then-not-self-clause-next : goal.returns-then-not-self-clause-next
returns-then-not-self-clause-next c =
    let r = c.args.self.now in
    rw c.if-not-self.true (kept_next r (omega arith) c.held-len.result c.held-len.ensures false false)

pub returns-then-is_full-clause-next : goal.returns-then-is_full-clause-next
returns-then-is_full-clause-next c =
    let r = c.args.self.now in
    let h = c.held-len in
    let whole : length r.bytes ≡ 258 = omega arith in
    rw (c.if-not-self.false, sym (full_same r whole h.result h.ensures) ∙ sym c.is_full.ensures ∙ c.if-is_full.true)
    (kept_next r whole h.result h.ensures false false)

pub returns-clause-next : goal.returns-clause-next
returns-clause-next c =
    let r = c.args.self.now in
    let h = c.held-len in
    let whole : length r.bytes ≡ 258 = omega arith in
    let few = sym c.is_full.ensures ∙ c.if-is_full.false in
    rw (c.if-not-self.false, sym (full_same r whole h.result h.ensures) ∙ few)
    (added_next r whole h.result h.ensures c.args.b (full_room _ _ (omega arith) few) true false)
