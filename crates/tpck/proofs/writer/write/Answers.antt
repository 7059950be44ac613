-- `tpck::writer::write` meets its contract: too much data, no room, or the frame.
use Rattle.std.proofs.Common.{arith}
use Rattle.tpck.proofs.Writing.{too_much, width_is, no_room, wrote}
use Rattle.tpck.proofs.writer.write.Goals as goal

pub returns-in_default : goal.returns-in_default
returns-in_default c =
    let r = too_much c.args.ptype c.args.bytes.now c.args.out.now (omega arith) in
    record { answer = r.0; buffer = r.1 }

pub put_frame-requires : goal.put_frame-requires
put_frame-requires c =
    let few = c.in-Ok.ensures in
    omega (arith, width_is c.args.ptype _ _ c.args.out.now few.0 few.1 _ _ _ c.measure-measured.ensures.sum c.measure-measured.ensures.escapes c.frame_width-width.ensures)

pub returns-then-out-width : goal.returns-then-out-width
returns-then-out-width c =
    let few = c.in-Ok.ensures in
    let r = no_room c.args.ptype _ _ c.args.out.now few.0 few.1 _ _ _ c.measure-measured.ensures.sum c.measure-measured.ensures.escapes c.frame_width-width.ensures c.if-out-width.true in
    record { answer = r.0; buffer = r.1 }

pub returns : goal.returns
returns c =
    let few = c.in-Ok.ensures in
    let r = wrote c.args.ptype _ _ c.args.out.now few.0 few.1 _ _ _ c.measure-measured.ensures.sum c.measure-measured.ensures.escapes c.frame_width-width.ensures c.if-out-width.false _ c.put_frame.ensures in
    record { answer = r.0; buffer = r.1 }
