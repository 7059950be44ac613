-- `tpck::writer::measure` meets its contract: escapes and sum so far are those of the bytes passed.
use Rattle.std.proofs.Common.{◌<◌, [], ◌∷◌, length, get_or, take, sym, arith, length-append}
use Rattle.tpck.specs.Frame.{stuffed}
use Rattle.tpck.proofs.Stuffing.{stuffed_nil, stuffed_next, width_le}
use Rattle.tpck.proofs.Sums.{checksum_one, checksum_next}
use Rattle.tpck.proofs.writer.measure.Goals as goal

pub loop-b-init : goal.loop-b-init
loop-b-init c = record { few = omega arith; escapes = rw stuffed_nil; sum = checksum_one c.args.start (omega arith) }

pub overflow_add-count : goal.overflow_add-count
overflow_add-count c = omega (arith, width_le (get_or c.args.s.now c.loop-b.b-index 0))

pub loop-b-preserved : goal.loop-b-preserved
loop-b-preserved c =
    let s = c.args.s.now in
    let i = c.loop-b.b-index in
    let inside : i < length s = omega arith in
    record {
      few = omega (arith, width_le (get_or s i 0));
      escapes = rw (stuffed_next s i inside) (omega (arith, length-append (stuffed (take i s)) (stuffed (get_or s i 0 ∷ []))));
      sum = rw c.loop-b.invariant.sum (sym (checksum_next (c.args.start ∷ []) s i inside));
    }
