-- `tpck::writer::escapes` meets its contract: a special byte takes one more than itself on the line, any other none.
use Rattle.tpck.proofs.Stuffing.{width_counted}
use Rattle.tpck.proofs.writer.escapes.Goals as goal

pub returns : goal.returns
returns c = width_counted c.args.b _ c.is_special.ensures _ c.from.ensures
