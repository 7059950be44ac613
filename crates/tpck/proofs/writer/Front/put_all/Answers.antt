-- `tpck::writer::Front::put_all` meets its contract: what is written so far is the stuffing of the bytes passed.
use Rattle.std.proofs.Common.{◌∙◌, arith, refl}
use Rattle.tpck.proofs.Stuffing.{stuffed_nil, stuffed_next, stuffed_part, wrote_none, wrote_more, wrote_length}
use Rattle.tpck.proofs.writer.Front.put_all.Goals as goal

pub loop-b-init : goal.loop-b-init
loop-b-init c = record { same_buffer = refl; wrote = rw stuffed_nil (wrote_none c.args.self.now.out.now c.args.self.now.at) }

pub put-requires : goal.put-requires
put-requires c =
    let so_far = c.loop-b.invariant.wrote in
    omega (arith, so_far.place, wrote_length so_far, stuffed_part c.args.s.now c.loop-b.b-index (omega arith))

pub loop-b-preserved : goal.loop-b-preserved
loop-b-preserved c = record {
  same_buffer = c.put.ensures.same_buffer ∙ c.loop-b.invariant.same_buffer;
  wrote = rw (stuffed_next c.args.s.now c.loop-b.b-index (omega arith)) (wrote_more c.loop-b.invariant.wrote c.put.ensures.wrote);
}
