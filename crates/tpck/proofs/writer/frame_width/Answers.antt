-- `tpck::writer::frame_width` meets its contract: none of the parts is over two bytes but the data, of which there are at most 255.
use Rattle.std.proofs.Common.{arith}
use Rattle.tpck.proofs.Stuffing.{width_le}
use Rattle.tpck.proofs.writer.frame_width.Goals as goal

pub overflow_add-result : goal.overflow_add-result
overflow_add-result c = let a = c.args in omega (arith, width_le a.size, width_le a.ptype)

pub overflow_add-result-3 : goal.overflow_add-result-3
overflow_add-result-3 c = let a = c.args in omega (arith, width_le a.size, width_le a.ptype)

pub overflow_add-result-4 : goal.overflow_add-result-4
overflow_add-result-4 c = let a = c.args in omega (arith, width_le a.size, width_le a.ptype, width_le a.measured.sum)

pub overflow_add-result-5 : goal.overflow_add-result-5
overflow_add-result-5 c = let a = c.args in omega (arith, width_le a.size, width_le a.ptype, width_le a.measured.sum)
